use Rattle.std.proofs.Common.{◌≡◌, sym, ap, ◌∙◌, option_map, slice_get}
use Rattle.std.specs.FinMap as finite
use Rattle.item_changes.specs.Items.{name_cmp}
use Rattle.idb_databases.specs.Views.{database_alone, database_entry}
use Rattle.idb_databases.specs.Items.{IsDatabase}
use Rattle.idb_databases.proofs.ByNames.{at_of, entry_at}
use Rattle.idb_databases.proofs.databases.Databases.at.Goals as goal

pub returns : goal.returns
returns g c =
    ap (option_map database_entry) (rw c.deref.ensures.value at c.nth_in.ensures)
    ∙ entry_at database_entry database_alone (λ n d. (d.name ≡ n) × IsDatabase (database_alone d)) (λ n d p. ap (λ x. (x, database_alone d)) p.0) c.self.inside.items.items c.args.place c.self.invariant.sound
    ∙ sym (at_of name_cmp database_alone c.self.inside.items.items c.args.place c.self.invariant.sorted)
    ∙ ap (λ m. slice_get (finite.entries m) c.args.place) c.self.view_is
