-- The records at the places of their order.
--     record_found          what stands at a place is the record of its key
--     record_there          at each place within stands a record
use Rattle.std.proofs.Common.{◌≡◌, ℕ, zero, suc, ◌<◌, Bool, true, false, cond, ◌&&◌, T, List, [], ◌∷◌, refl, ap, ◌∙◌, Some, inl, inr, arith}
use Rattle.std.proofs.lemmas.Option.{slice_get_cases}
use Rattle.std.specs.Prelude.{slice_get}
use Rattle.std.specs.declared.cmp.Ordering.{Ordering}
use Rattle.std.specs.declared.cmp.Ordering.TheVariants.{Less, Equal, Greater}
use Rattle.std.specs.Ordering.{ordering_reverse, is_lt, is_eq}
use Rattle.std.specs.Cmp.{tied_itself}
use Rattle.std.specs.FinMap as finite
use Rattle.std.specs.FinMap.{find, is_sorted}
use Rattle.std.specs.FinMap.Entries.{below_all}
use Rattle.clone_values.specs.Tree.{Tree}
use Rattle.clone_values.specs.KeyTree.{KeyTree}
use Rattle.key_order.specs.KeyOrder.{key_cmp}
use Rattle.key_order.proofs.Laws.{key_cmp_total}
use Rattle.index_tables.specs.RecordRows.{Records}

left : (a b : Bool) → T (a && b) → T a
left true b h = tt
left false b h = absurd h

right : (a b : Bool) → T (a && b) → T b
right true b h = h
right false b h = absurd h

less : (o : Ordering) → T (is_lt o) → o ≡ Less
less Less h = refl
less Equal h = absurd h
less Greater h = absurd h

below_each : (k : KeyTree) (es : List (KeyTree × Tree)) (i : ℕ) (e : KeyTree × Tree) → T (below_all key_cmp k es) → slice_get es i ≡ Some e → key_cmp k e.0 ≡ Less
below_each k [] i e h at = cc
below_each k (f ∷ es) zero e h at = (let same : e ≡ f = cc in ap (λ (x : KeyTree × Tree). key_cmp k x.0) same) ∙ less _ (left _ _ h)
below_each k (f ∷ es) (suc i) e h at = below_each k es i e (right _ _ h) at

found_at : (es : List (KeyTree × Tree)) (i : ℕ) (e : KeyTree × Tree) → T (is_sorted key_cmp es) → slice_get es i ≡ Some e → find key_cmp e.0 es ≡ Some e.1
found_at [] i e h at = cc
found_at (f ∷ es) zero e h at =
    (let same : e ≡ f = cc in ap (λ (x : KeyTree × Tree). find key_cmp x.0 (f ∷ es)) same)
    ∙ ap (λ o. cond (is_eq o) (Some f.1) (find key_cmp f.0 es)) (tied_itself key_cmp_total f.0)
    ∙ (let same : f ≡ e = cc in ap (λ (x : KeyTree × Tree). Some x.1) same)
found_at (f ∷ es) (suc i) e h at =
    ap (λ o. cond (is_eq o) (Some f.1) (find key_cmp e.0 es)) (key_cmp_total.antisymm e.0 f.0 ∙ ap ordering_reverse (below_each f.0 es i e (left _ _ h) at))
    ∙ found_at es i e (right _ _ h) at

pub record_found : (records : Records) (i : ℕ) (e : KeyTree × Tree) → slice_get (finite.entries records) i ≡ Some e → finite.get records e.0 ≡ Some e.1
record_found records i e at = finite.get-entries records e.0 ∙ found_at (finite.entries records) i e (finite.entries_sorted records) at

-- at each place within stands a record
pub record_there : (records : Records) (place : ℕ) → place < finite.len records → (k : KeyTree) × (v : Tree) × (slice_get (finite.entries records) place ≡ Some (k, v))
record_there records place h = elim (slice_get_cases (finite.entries records) place).1 [
  | inl found ↦ (found.0.0, found.0.1, found.2)
  | inr past ↦ absurd (omega (arith, h, finite.len-entries records, past.0))
]
