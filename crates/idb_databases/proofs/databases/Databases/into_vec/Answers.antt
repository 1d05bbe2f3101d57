use Rattle.std.proofs.Common.{sym, ap, ◌∙◌}
use Rattle.std.specs.FinMap as finite
use Rattle.item_changes.specs.Items.{name_cmp}
use Rattle.idb_databases.specs.Views.{database_alone}
use Rattle.idb_databases.proofs.ByNames.{entries_of}
use Rattle.idb_databases.proofs.databases.Databases.into_vec.Goals as goal

pub returns : goal.returns
returns g c = sym (entries_of name_cmp database_alone c.self.inside.items.items c.self.invariant.sorted) ∙ ap finite.entries c.self.view_is
