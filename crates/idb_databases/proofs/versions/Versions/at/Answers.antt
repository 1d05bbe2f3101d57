use Rattle.std.proofs.Common.{sym, ap, ◌∙◌, option_map, slice_get}
use Rattle.std.specs.FinMap as finite
use Rattle.item_changes.specs.Items.{name_cmp}
use Rattle.idb_databases.specs.Stores.{store_alone, store_entry, IsStoreNamed}
use Rattle.idb_databases.proofs.ByNames.{at_of, entry_at}
use Rattle.idb_databases.proofs.versions.Versions.at.Goals as goal

pub returns : goal.returns
returns g c =
    ap (option_map store_entry) (rw c.deref.ensures.value at c.nth_in.ensures)
    ∙ entry_at store_entry store_alone (λ n k. IsStoreNamed n k.store) (λ n k p. ap (λ x. (x, k.store)) p.0) c.self.inside.items.items c.args.place c.self.invariant.sound
    ∙ sym (at_of name_cmp store_alone c.self.inside.items.items c.args.place c.self.invariant.sorted)
    ∙ ap (λ m. slice_get (finite.entries m) c.args.place) c.self.view_is
