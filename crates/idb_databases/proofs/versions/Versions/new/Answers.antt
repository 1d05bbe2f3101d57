use Rattle.item_changes.specs.Items.{name_cmp}
use Rattle.item_changes.proofs.Laws.{names_total, one_name}
use Rattle.idb_databases.specs.Stores.{store_alone}
use Rattle.idb_databases.proofs.ByNames.{of_none}
use Rattle.idb_databases.proofs.versions.Versions.new.Goals as goal

pub returns : goal.returns
returns g c = of_none name_cmp store_alone names_total one_name c.new.result.items c.new.ensures.items
