-- What an id names among entries, before and after a change.
use Rattle.std.proofs.Common.{◌≡◌, ◌≢◌, ℕ, zero, suc, ◌+◌, true, false, not, ◌==◌, if◌then◌else◌, List, [], ◌∷◌, map, length, slice_get, Some, None, option_map, refl, sym, ◌∙◌, ap}
use Rattle.std.specs.List.{position, position_or_len}
use Rattle.std.specs.Ordering.{nat_cmp, is_lt}
use Rattle.std.specs.Cmp.Lexicographic.{slice_cmp}
use Rattle.std.proofs.lemmas.Bool.{eq-eqb, ne_eqb}
use Rattle.std.proofs.lemmas.Option.{slice_get-map}
use Rattle.idb_schema.specs.declared.entries.StoreEntry.{StoreEntry}
use Rattle.idb_schema.specs.Numbers.{LacksNumber, AreIds}
use Rattle.idb_schema.specs.Schemas.{entry_of, put_in_order, change_at}
use Rattle.idb_schema.proofs.Named.{other}

-- ---- after an entry is put in its place
pub found_beside_new : (es : List StoreEntry) (e : StoreEntry) (n : ℕ) → e.id ≢ n → entry_of (put_in_order es e) n ≡ entry_of es n
found_beside_new [] e n differs = rw (ne_eqb e.id n differs) refl
found_beside_new (d ∷ ds) e n differs =
    elim (is_lt (slice_cmp nat_cmp e.info.name d.info.name)) as (λ b. entry_of (if b then e ∷ d ∷ ds else d ∷ put_in_order ds e) n ≡ entry_of (d ∷ ds) n) [
      | true ↦ rw (ne_eqb e.id n differs) refl
      | false ↦ ap (λ r. if d.id == n then Some d else r) (found_beside_new ds e n differs)
    ]

pub new_found : (es : List StoreEntry) (e : StoreEntry) → LacksNumber (map (λ d. d.id) es) e.id → entry_of (put_in_order es e) e.id ≡ Some e
new_found [] e h = rw (eq-eqb e.id e.id refl) refl
new_found (d ∷ ds) e h =
    elim (is_lt (slice_cmp nat_cmp e.info.name d.info.name)) as (λ b. entry_of (if b then e ∷ d ∷ ds else d ∷ put_in_order ds e) e.id ≡ Some e) [
      | true ↦ rw (eq-eqb e.id e.id refl) refl
      | false ↦ rw (ne_eqb d.id e.id h.0) (new_found ds e h.1)
    ]

-- ---- after an entry is changed in its place
pub id_got : (es : List StoreEntry) (i : ℕ) (e : StoreEntry) → slice_get es i ≡ Some e → slice_get (map (λ d. d.id) es) i ≡ Some e.id
id_got es i e at = slice_get-map (λ d. d.id) es i ∙ ap (option_map (λ d. d.id)) at

id_differs : (ds : List StoreEntry) (i next : ℕ) (d e : StoreEntry) → AreIds (map (λ k. k.id) (d ∷ ds)) next → slice_get ds i ≡ Some e → d.id ≢ e.id
id_differs ds i next d e h at = λ same. other (map (λ k. k.id) ds) d.id i e.id h.1 (id_got ds i e at) (sym same)

module _ (f : StoreEntry → StoreEntry) (same_id : (e : StoreEntry) → (f e).id ≡ e.id) where
  pub change_past : (es : List StoreEntry) (i : ℕ) → slice_get es i ≡ None → change_at es i f ≡ es
  change_past [] i e = refl
  change_past (d ∷ ds) zero e = absurd (cc)
  change_past (d ∷ ds) (suc i) e = ap (λ r. d ∷ r) (change_past ds i e)

  pub found_unchanged : (es : List StoreEntry) (i n : ℕ) (e : StoreEntry) → slice_get es i ≡ Some e → e.id ≢ n → entry_of (change_at es i f) n ≡ entry_of es n
  found_unchanged [] i n e at differs = absurd (cc)
  found_unchanged (d ∷ ds) zero n e at differs =
      let same : d ≡ e = cc in
      let left : d.id ≢ n = λ is. differs (sym (ap (λ k. k.id) same) ∙ is) in
      rw (same_id d, ne_eqb d.id n left) refl
  found_unchanged (d ∷ ds) (suc i) n e at differs = ap (λ r. if d.id == n then Some d else r) (found_unchanged ds i n e at differs)

  pub found_changed : (es : List StoreEntry) (i next : ℕ) (e : StoreEntry) → AreIds (map (λ d. d.id) es) next → slice_get es i ≡ Some e → entry_of (change_at es i f) e.id ≡ Some (f e)
  found_changed [] i next e h at = absurd (cc)
  found_changed (d ∷ ds) zero next e h at =
      let same : d ≡ e = cc in
      rw (← same) (rw (same_id d, eq-eqb d.id d.id refl) refl)
  found_changed (d ∷ ds) (suc i) next e h at = rw (ne_eqb d.id e.id (id_differs ds i next d e h at)) (found_changed ds i next e h.2 at)

  placed_alike : (es : List StoreEntry) (i n : ℕ) → position_or_len (λ e. e.id == n) (change_at es i f) ≡ position_or_len (λ e. e.id == n) es
  placed_alike [] i n = refl
  placed_alike (d ∷ ds) zero n = rw (same_id d) refl
  placed_alike (d ∷ ds) (suc i) n = ap (λ k. if not (d.id == n) then 1 + k else 0) (placed_alike ds i n)

  length-change_at : (es : List StoreEntry) (i : ℕ) → length (change_at es i f) ≡ length es
  length-change_at [] i = refl
  length-change_at (d ∷ ds) zero = refl
  length-change_at (d ∷ ds) (suc i) = ap suc (length-change_at ds i)

  pub place_kept : (es : List StoreEntry) (i n : ℕ) → position (λ e. e.id == n) (change_at es i f) ≡ position (λ e. e.id == n) es
  place_kept es i n = rw (placed_alike es i n, length-change_at es i) refl
