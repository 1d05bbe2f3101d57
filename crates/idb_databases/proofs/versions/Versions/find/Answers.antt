use Rattle.std.proofs.Common.{sym, ap, ◌∙◌, option_map}
use Rattle.std.specs.FinMap as finite
use Rattle.item_changes.specs.Items.{name_cmp}
use Rattle.idb_databases.specs.Stores.{store_alone}
use Rattle.idb_databases.proofs.ByNames.{get_of}
use Rattle.idb_databases.proofs.versions.Versions.find.Goals as goal

pub returns : goal.returns
returns g c =
    ap (option_map store_alone) (rw c.deref.ensures.value at c.find_in.ensures)
    ∙ sym (get_of name_cmp store_alone c.self.inside.items.items c.args.name.now c.self.invariant.sorted)
    ∙ ap (λ m. finite.get m c.args.name.now) c.self.view_is
