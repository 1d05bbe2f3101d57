-- What other crates may cite of items and their changes.
--     names_total, one_name, same_name      names are in a total order, in which only equal ones tie
--     changed_here, changed_elsewhere, changed_apart, changed_twice         a map after a change at one key, and after two
--     retained, retain_kept, retain_left    the part of it whose keys pass a test
--     inside_one, outside_one, applies_one, swap_one        the laws of scopes at one change
--     inside_all, outside_all, applies_all, swap_all        and at a list
--     within_both, made_both, found_both      changes, and then more
use Rattle.std.proofs.Common.{◌≡◌, Bool, true, false, ◌&&◌, List, [], ◌∷◌, ◌++◌, Option, refl, ◌∙◌, ap}
use Rattle.idb_calls.specs.Deltas.{DeltaTree}
use Rattle.item_changes.specs.Items.{Database, Items}
use Rattle.item_changes.specs.Effects.{effect_of, finds, made, made_all, finds_all, applied, applied_all}
use Rattle.item_changes.specs.Scopes.{Scope, AllWithin}
pub use Rattle.item_changes.proofs.ChangedAt.{changed_here, changed_elsewhere, changed_apart, changed_twice, retained, retain_kept, retain_left}
pub use Rattle.item_changes.proofs.ScopeLemmas.{names_total, one_name, same_name, inside_one, outside_one, applies_one, swap_one, inside_all, outside_all, applies_all, swap_all}
pub use Rattle.object_stores.proofs.Laws.{deleted_changes}

pub within_both : (a : Scope) (ds es : List DeltaTree) → AllWithin a ds → AllWithin a es → AllWithin a (ds ++ es)
within_both a [] es p q = q
within_both a (d ∷ ds) es p q = (p.0, within_both a ds es p.1 q)

pub made_both : (ds es : List DeltaTree) (there : Option Database) → made_all (ds ++ es) there ≡ made_all es (made_all ds there)
made_both [] es there = refl
made_both (d ∷ ds) es there = made_both ds es (made (effect_of d) there)

and_both : (a b c : Bool) → (a && (b && c)) ≡ ((a && b) && c)
and_both true b c = refl
and_both false b c = refl

pub found_both : (ds es : List DeltaTree) (there : Option Database) → finds_all (ds ++ es) there ≡ (finds_all ds there && finds_all es (made_all ds there))
found_both [] es there = refl
found_both (d ∷ ds) es there =
    ap (λ t. finds (effect_of d) there && t) (found_both ds es (made (effect_of d) there))
    ∙ and_both (finds (effect_of d) there) (finds_all ds (made (effect_of d) there)) (finds_all es (made_all ds (made (effect_of d) there)))
