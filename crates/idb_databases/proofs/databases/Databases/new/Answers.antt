use Rattle.item_changes.specs.Items.{name_cmp}
use Rattle.item_changes.proofs.Laws.{names_total, one_name}
use Rattle.idb_databases.specs.Views.{database_alone}
use Rattle.idb_databases.proofs.ByNames.{of_none}
use Rattle.idb_databases.proofs.databases.Databases.new.Goals as goal

pub returns : goal.returns
returns g c = of_none name_cmp database_alone names_total one_name c.new.result.items c.new.ensures.items
