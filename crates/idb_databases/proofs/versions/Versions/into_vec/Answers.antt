use Rattle.std.proofs.Common.{sym, ap, ◌∙◌}
use Rattle.std.specs.FinMap as finite
use Rattle.item_changes.specs.Items.{name_cmp}
use Rattle.idb_databases.specs.Stores.{store_alone}
use Rattle.idb_databases.proofs.ByNames.{entries_of}
use Rattle.idb_databases.proofs.versions.Versions.into_vec.Goals as goal

pub returns : goal.returns
returns g c = sym (entries_of name_cmp store_alone c.self.inside.items.items c.self.invariant.sorted) ∙ ap finite.entries c.self.view_is
