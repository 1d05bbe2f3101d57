-- One block more in the map of the places.
use Rattle.std.proofs.Common.{◌≡◌, ℕ, List, [], ◌∷◌, Bool, true, false, cond, Option, Some, BTreeMap, Global, String, string_bytes, string_cmp, is_eq, true≢false, Ordering, Less, Equal, Greater, nat_cmp, refl, sym, ap, ◌∙◌}
use Rattle.std.proofs.lemmas.Cmp.{nat_list_cmp_total, alike_right}
use Rattle.std.proofs.lemmas.Map.Text.{is_eq-slice_cmp}
use Rattle.std.specs.BTreeMap.{insert_entry, is_at}
use Rattle.std.specs.Cmp.Lexicographic.{slice_cmp}
use Rattle.std.specs.Map.{lookup}
use Rattle.std.specs.Ordering.{match_ordering}
use Rattle.script_reading.specs.BlockPlaces.{with_block_at, places_seen}

repeated : {A : Type 0} (b : Bool) (x y z : A) → cond b x z ≡ cond b x (cond b y z)
repeated true x y z = refl
repeated false x y z = refl

swapped : {A : Type 0} (a b : Bool) (x y z : A) → (a ≡ true → b ≡ false) → cond b y (cond a x z) ≡ cond a x (cond b y z)
swapped true b x y z h = rw (h refl) refl
swapped false b x y z h = refl

equal : (o : Ordering) → is_eq o ≡ true → o ≡ Equal
equal Less h = absurd (true≢false (sym h))
equal Equal h = refl
equal Greater h = absurd (true≢false (sym h))

module _ (sought : List ℕ) where
  abbrev beside : String Global → Ordering
  beside k = slice_cmp nat_cmp sought (string_bytes k)

  abbrev found : List (String Global × ℕ) → Option ℕ
  found es = lookup (is_at beside) es

  put : (es : List (String Global × ℕ)) (k : String Global) (v : ℕ) → found (insert_entry string_cmp es k v) ≡ cond (is_eq (beside k)) (Some v) (found es)
  put [] k v = refl
  put (e ∷ es) k v = by (string_cmp k e.0) refl (put es k v)
    where
      by : (o : Ordering) → string_cmp k e.0 ≡ o → found (insert_entry string_cmp es k v) ≡ cond (is_eq (beside k)) (Some v) (found es)
          → found (match_ordering o ((k, v) ∷ e ∷ es) ((e.0, v) ∷ es) (e ∷ insert_entry string_cmp es k v)) ≡ cond (is_eq (beside k)) (Some v) (found (e ∷ es))
      by Less h later = refl
      by Equal h later = rw (alike_right nat_list_cmp_total (string_bytes k) (string_bytes e.0) sought h) (repeated (is_eq (beside e.0)) (Some v) (Some e.1) (found es))
      by Greater h later = rw later (swapped (is_eq (beside k)) (is_eq (beside e.0)) (Some v) (Some e.1) (found es)
          (λ q. ap is_eq (nat_list_cmp_total.congr sought (string_bytes k) (string_bytes e.0) (equal (beside k) q) ∙ h)))

  noted : (k : String Global) (v : ℕ) (old later : BTreeMap (String Global) ℕ) → later.entries ≡ insert_entry string_cmp old.entries k v → places_seen later sought ≡ with_block_at (string_bytes k) v (places_seen old) sought
  unfolding places_seen with_block_at
  noted k v old later e = rw e (put old.entries k v ∙ ap (λ b. cond b (Some v) (found old.entries)) (is_eq-slice_cmp sought (string_bytes k)))

pub all_noted : (k : String Global) (v : ℕ) (old later : BTreeMap (String Global) ℕ) → later.entries ≡ insert_entry string_cmp old.entries k v → places_seen later ≡ with_block_at (string_bytes k) v (places_seen old)
all_noted k v old later e = λ i sought. noted sought k v old later e i
