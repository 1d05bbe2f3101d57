-- From entries in the order of their keys to the map of their values, seen another way.
--     entries_of, len_of, at_of, get_of     the entries, their number, what stands at a place, and what is found
--     values_of             a test of all values
--     of_none, of_put, of_without           what no entries, `put` and `without` make of the map
--     all_put, all_without, all_found       what holds of each entry
--     read_at, entry_at     what stands at a place
use Rattle.std.proofs.Common.{◌≡◌, ℕ, zero, suc, ◌<◌, get_or, Bool, true, false, cond, not, T, ◌&&◌, List, [], ◌∷◌, map, length, slice_get, Option, Some, None, option_map, refl, sym, ap, ◌∙◌, subst}
use Rattle.std.proofs.lemmas.List.{length-map}
use Rattle.std.proofs.lemmas.Option.{slice_get-map, slice_get_read, same_Some}
use Rattle.std.specs.List.{AllByRecursion, list_all}
use Rattle.std.specs.declared.cmp.Ordering.{Ordering}
use Rattle.std.specs.declared.cmp.Ordering.TheVariants.{Less, Equal, Greater}
use Rattle.std.specs.Ordering.{is_lt, is_eq, eq_by_cmp}
use Rattle.std.specs.Cmp.{IsTotalOrder}
use Rattle.std.specs.FinMap as finite
use Rattle.std.specs.FinMap.{IsAntisymmetric, find, put, is_sorted}
use Rattle.std.specs.FinMap.Entries.{below_all, by_order, where_key, is_sorted-put, is_sorted-where_key}
use Rattle.sorted_table.specs.Tables.{IsSorted, without}
use Rattle.sorted_table.proofs.Laws.{entries_remove}
use Rattle.idb_databases.specs.Named.{with_values}

module _ {K V W : Type 0} (R : K → K → Ordering) (view : V → W) where
  below_seen : (k : K) (es : List (K × V)) → below_all R k (with_values view es) ≡ below_all R k es
  below_seen k [] = refl
  below_seen k (e ∷ es) = ap (λ b. is_lt (R k e.0) && b) (below_seen k es)

  sorted_seen : (es : List (K × V)) → is_sorted R (with_values view es) ≡ is_sorted R es
  sorted_seen [] = refl
  sorted_seen (e ∷ es) = λ i. below_seen e.0 es i && sorted_seen es i

  picked : (b : Bool) (v : V) (o : Option V) → cond b (Some (view v)) (option_map view o) ≡ option_map view (cond b (Some v) o)
  picked true v o = refl
  picked false v o = refl

  find_seen : (q : K) (es : List (K × V)) → find R q (with_values view es) ≡ option_map view (find R q es)
  find_seen q [] = refl
  find_seen q (e ∷ es) = ap (λ o. cond (eq_by_cmp R q e.0) (Some (view e.1)) o) (find_seen q es) ∙ picked (eq_by_cmp R q e.0) e.1 (find R q es)

  chosen : (o : Ordering) (a b c : List (K × V)) → with_values view (by_order o a b c) ≡ by_order o (with_values view a) (with_values view b) (with_values view c)
  chosen Less a b c = refl
  chosen Equal a b c = refl
  chosen Greater a b c = refl

  put_seen : (k : K) (v : V) (es : List (K × V)) → with_values view (put R k v es) ≡ put R k (view v) (with_values view es)
  put_seen k v [] = refl
  put_seen k v (e ∷ es) =
      chosen (R k e.0) ((k, v) ∷ e ∷ es) ((e.0, v) ∷ es) (e ∷ put R k v es)
      ∙ ap (λ rest. by_order (R k e.0) ((k, view v) ∷ (e.0, view e.1) ∷ with_values view es) ((e.0, view v) ∷ with_values view es) ((e.0, view e.1) ∷ rest)) (put_seen k v es)

  kept : (b : Bool) (e : K × V) (es : List (K × V)) → with_values view (cond b (e ∷ es) es) ≡ cond b ((e.0, view e.1) ∷ with_values view es) (with_values view es)
  kept true e es = refl
  kept false e es = refl

  where_seen : (test : K → Bool) (es : List (K × V)) → with_values view (where_key R test es) ≡ where_key R test (with_values view es)
  where_seen test [] = refl
  where_seen test (e ∷ es) = kept (test e.0) e (where_key R test es) ∙ ap (λ rest. cond (test e.0) ((e.0, view e.1) ∷ rest) rest) (where_seen test es)

  in_order : (es : List (K × V)) → IsSorted R es → IsSorted R (with_values view es)
  in_order es h = subst T (sym (sorted_seen es)) h

  pub entries_of : (es : List (K × V)) → IsSorted R es → finite.entries (finite.from_sorted {R = R} (with_values view es)) ≡ with_values view es
  entries_of es h = finite.entries-from_sorted R (with_values view es) (in_order es h)

  pub len_of : (es : List (K × V)) → IsSorted R es → finite.len (finite.from_sorted {R = R} (with_values view es)) ≡ length es
  len_of es h = finite.len-entries (finite.from_sorted {R = R} (with_values view es)) ∙ ap length (entries_of es h) ∙ length-map es (λ e. (e.0, view e.1))

  pub at_of : (es : List (K × V)) (place : ℕ) → IsSorted R es
      → slice_get (finite.entries (finite.from_sorted {R = R} (with_values view es))) place ≡ option_map (λ e. (e.0, view e.1)) (slice_get es place)
  at_of es place h = ap (λ fs. slice_get fs place) (entries_of es h) ∙ slice_get-map (λ e. (e.0, view e.1)) es place

  pub get_of : (es : List (K × V)) (q : K) → IsSorted R es → finite.get (finite.from_sorted {R = R} (with_values view es)) q ≡ option_map view (find R q es)
  get_of es q h = finite.get-from_sorted R (with_values view es) q (in_order es h) ∙ find_seen q es

  all_values : (test : W → Bool) (es : List (K × V)) → list_all test (map (λ e. e.1) (with_values view es)) ≡ list_all (λ e. test (view e.1)) es
  all_values test [] = refl
  all_values test (e ∷ es) = ap (λ b. test (view e.1) && b) (all_values test es)

  pub values_of : (test : W → Bool) (es : List (K × V)) → IsSorted R es → list_all test (finite.values (finite.from_sorted {R = R} (with_values view es))) ≡ list_all (λ e. test (view e.1)) es
  values_of test es h = ap (λ fs. list_all test (map (λ e. e.1) fs)) (entries_of es h) ∙ all_values test es

  module _ (o : IsTotalOrder R) (same : IsAntisymmetric R) where
    pub of_none : (es : List (K × V)) → es ≡ [] → finite.from_sorted {R = R} (with_values view es) ≡ finite.empty
    of_none es e = ap (λ fs. finite.from_sorted {R = R} (with_values view fs)) e
        ∙ finite.same_map o same (finite.from_sorted {R = R} []) finite.empty (λ q. finite.get-from_sorted R [] q tt ∙ sym (finite.get-empty R q))

    pub of_put : (es : List (K × V)) (k : K) (v : V) → IsSorted R es
        → finite.from_sorted {R = R} (with_values view (put R k v es)) ≡ finite.insert (finite.from_sorted (with_values view es)) k (view v)
    of_put es k v h = finite.same_entries_map _ _ (
        entries_of (put R k v es) (is_sorted-put R o k v es h)
        ∙ put_seen k v es
        ∙ ap (λ fs. put R k (view v) fs) (sym (entries_of es h))
        ∙ sym (finite.entries-insert o (finite.from_sorted {R = R} (with_values view es)) k (view v)))

    pub of_without : (es : List (K × V)) (k : K) → IsSorted R es
        → finite.from_sorted {R = R} (with_values view (without R k es)) ≡ finite.remove (finite.from_sorted (with_values view es)) k
    of_without es k h = finite.same_entries_map _ _ (
        entries_of (without R k es) (is_sorted-where_key R (λ x. not (eq_by_cmp R k x)) es h)
        ∙ where_seen (λ x. not (eq_by_cmp R k x)) es
        ∙ ap (λ fs. without R k fs) (sym (entries_of es h))
        ∙ sym (entries_remove o same (finite.from_sorted {R = R} (with_values view es)) k))

-- ---- what holds of each entry
tied : (r : Ordering) → is_eq r ≡ true → r ≡ Equal
tied Equal e = refl
tied _ e = cc

module _ {K V : Type 0} (R : K → K → Ordering) (same : IsAntisymmetric R) (P : K → V → Type 0) where
  pub all_put : (k : K) (v : V) (es : List (K × V)) → AllByRecursion (λ e. P e.0 e.1) es → P k v → AllByRecursion (λ e. P e.0 e.1) (put R k v es)
  all_put k v [] all p = (p, tt)
  all_put k v (e ∷ es) all p =
      elim (R k e.0) as (λ r. R k e.0 ≡ r → AllByRecursion (λ e. P e.0 e.1) (by_order r ((k, v) ∷ e ∷ es) ((e.0, v) ∷ es) (e ∷ put R k v es))) [
        | Less ↦ λ q. (p, all)
        | Equal ↦ λ q. (subst (λ x. P x v) (same k e.0 q) p, all.1)
        | Greater ↦ λ q. (all.0, all_put k v es all.1 p)
      ] refl

  all_where : (test : K → Bool) (es : List (K × V)) → AllByRecursion (λ e. P e.0 e.1) es → AllByRecursion (λ e. P e.0 e.1) (where_key R test es)
  all_where test [] all = tt
  all_where test (e ∷ es) all =
      elim (test e.0) as (λ b. AllByRecursion (λ e. P e.0 e.1) (cond b (e ∷ where_key R test es) (where_key R test es))) [
        | true ↦ (all.0, all_where test es all.1)
        | false ↦ all_where test es all.1
      ]

  pub all_without : (k : K) (es : List (K × V)) → AllByRecursion (λ e. P e.0 e.1) es → AllByRecursion (λ e. P e.0 e.1) (without R k es)
  all_without k es all = all_where (λ x. not (eq_by_cmp R k x)) es all

  pub all_found : (q : K) (es : List (K × V)) (v : V) → AllByRecursion (λ e. P e.0 e.1) es → find R q es ≡ Some v → P q v
  all_found q [] v all e = cc
  all_found q (d ∷ es) v all e =
      elim (eq_by_cmp R q d.0) as (λ b. eq_by_cmp R q d.0 ≡ b → cond b (Some d.1) (find R q es) ≡ Some v → P q v) [
        | true ↦ λ t f. subst (λ x. P q x) (same_Some d.1 v f) (subst (λ x. P x d.1) (sym (same q d.0 (tied (R q d.0) t))) all.0)
        | false ↦ λ t f. all_found q es v all.1 f
      ] refl e

-- what is seen of what is found
pub found_seen : {V W : Type 0} (view : V → W) (P : W → Type 0) (there : Option V) (w : W) → option_map view there ≡ Some w → ((v : V) → there ≡ Some v → P (view v)) → P w
found_seen view P None w e each = cc
found_seen view P (Some v) w e each = subst P (same_Some (view v) w e) (each v refl)

-- ---- what stands at a place
pub read_at : {X : Type 0} (xs : List X) (i : ℕ) (x : X) → i < length xs → x ≡ get_or xs i x → slice_get xs i ≡ Some x
read_at xs i x within read = slice_get_read xs (length xs) i x refl within read

module _ {K V W : Type 0} (seen : V → K × W) (view : V → W) (P : K → V → Type 0) (fits : (k : K) (v : V) → P k v → seen v ≡ (k, view v)) where
  pub entry_at : (es : List (K × V)) (place : ℕ) → AllByRecursion (λ e. P e.0 e.1) es
      → option_map seen (option_map (λ e. e.1) (slice_get es place)) ≡ option_map {U = K × W} (λ e. (e.0, view e.1)) (slice_get es place)
  entry_at [] place all = refl
  entry_at (e ∷ es) zero all = ap Some (fits e.0 e.1 all.0)
  entry_at (e ∷ es) (suc place) all = entry_at es place all.1
