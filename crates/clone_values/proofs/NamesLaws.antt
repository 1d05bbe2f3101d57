-- Setting a property in a list of rising names.
use Rattle.std.specs.FinMap.{nat_cmp-IsAntisymmetric, slice_cmp-IsAntisymmetric}
use Rattle.std.proofs.Common.{Result, Ok, Err, OnOk, OnErr, Some, None, inl, inr, ⊎_elim, ◌⊎◌, if◌then◌else◌, nat_eq, slice_get, append_assoc, ◌≡◌, ℕ, zero, suc, ◌+◌, ◌<◌, Bool, true, false, ◌&&◌, List, [], ◌∷◌, ◌++◌, take, drop, length, slice_set, refl, sym, ◌∙◌, ap, add-one, arith, ◌≤◌}
use Rattle.std.specs.declared.cmp.Ordering.{Ordering}
use Rattle.std.specs.declared.cmp.Ordering.TheVariants.{Less, Equal, Greater}
use Rattle.std.specs.Ordering.{nat_cmp, is_lt, is_eq, match_ordering, ordering_reverse}
use Rattle.std.specs.Cmp.{first_so, second_so}
use Rattle.std.specs.Cmp.Lexicographic.{slice_cmp, pointwise, texts_ties}
use Rattle.std.specs.Option.{option_map}
use Rattle.std.proofs.lemmas.Option.{slice_get-map}
use Rattle.std.specs.List.{insert}
use Rattle.std.proofs.lemmas.List.{set_split, length-set}
use Rattle.std.proofs.lemmas.List.Edits.{length-insert}
use Rattle.std.proofs.Math.Seq.{drop-length}
use Rattle.std.proofs.lemmas.Cmp.{nat_list_cmp_total, tied_itself}
use Rattle.value_trees.specs.Tree.{Tree}
use Rattle.value_trees.specs.Lists.{StandsAt, IsWithinLimit, FitsOneMore}
use Rattle.clone_values.specs.Falls.{below_StandsAt}
use Rattle.value_trees.specs.Names.{names_of, rises_after, is_rising, set_member, get_member, HasNameAt}

lt_less : (o : Ordering) → is_lt o ≡ true → o ≡ Less
lt_less Less e = refl
lt_less Equal e = cc
lt_less Greater e = cc

less_lt : (o : Ordering) → o ≡ Less → is_lt o ≡ true
less_lt o e = ap is_lt e

-- the same comparison from the other side
turned : (a b : List ℕ) → slice_cmp nat_cmp a b ≡ Greater → slice_cmp nat_cmp b a ≡ Less
turned a b e = nat_list_cmp_total.antisymm b a ∙ ap ordering_reverse e

turned_back : (a b : List ℕ) → slice_cmp nat_cmp a b ≡ Less → slice_cmp nat_cmp b a ≡ Greater
turned_back a b e = nat_list_cmp_total.antisymm b a ∙ ap ordering_reverse e

both_true : (a b : Bool) → a ≡ true → b ≡ true → (a && b) ≡ true
both_true a b e f = rw e f

-- ---- the names go on rising
module _ (n : List ℕ) (v : Tree) where
  rises_set : (p : List ℕ) (ms : List (List ℕ × Tree)) → rises_after p (names_of ms) ≡ true → slice_cmp nat_cmp p n ≡ Less → rises_after p (names_of (set_member ms n v)) ≡ true
  rises_set p [] h lt = both_true (is_lt (slice_cmp nat_cmp p n)) true (less_lt _ lt) refl
  rises_set p (m ∷ ms) h lt =
      let first : is_lt (slice_cmp nat_cmp p m.0) ≡ true = first_so (is_lt (slice_cmp nat_cmp p m.0)) (rises_after m.0 (names_of ms)) h in
      let rest : rises_after m.0 (names_of ms) ≡ true = second_so (is_lt (slice_cmp nat_cmp p m.0)) (rises_after m.0 (names_of ms)) h in
      elim (slice_cmp nat_cmp n m.0) as (λ o. slice_cmp nat_cmp n m.0 ≡ o → rises_after p (names_of (match_ordering o ((n, v) ∷ m ∷ ms) ((n, v) ∷ ms) (m ∷ set_member ms n v))) ≡ true) [
        | Less ↦ λ e. both_true (is_lt (slice_cmp nat_cmp p n)) _ (less_lt _ lt) (both_true (is_lt (slice_cmp nat_cmp n m.0)) _ (less_lt _ e) rest)
        | Equal ↦ λ e. both_true (is_lt (slice_cmp nat_cmp p n)) _ (less_lt _ lt) (ap (λ w. rises_after w (names_of ms)) (slice_cmp-IsAntisymmetric nat_cmp-IsAntisymmetric n m.0 e) ∙ rest)
        | Greater ↦ λ e. both_true (is_lt (slice_cmp nat_cmp p m.0)) _ first (rises_set m.0 ms rest (turned n m.0 e))
      ] refl

  pub rising_set : (ms : List (List ℕ × Tree)) → is_rising (names_of ms) ≡ true → is_rising (names_of (set_member ms n v)) ≡ true
  rising_set [] h = refl
  rising_set (m ∷ ms) h =
      elim (slice_cmp nat_cmp n m.0) as (λ o. slice_cmp nat_cmp n m.0 ≡ o → is_rising (names_of (match_ordering o ((n, v) ∷ m ∷ ms) ((n, v) ∷ ms) (m ∷ set_member ms n v))) ≡ true) [
        | Less ↦ λ e. both_true (is_lt (slice_cmp nat_cmp n m.0)) _ (less_lt _ e) h
        | Equal ↦ λ e. ap (λ w. rises_after w (names_of ms)) (slice_cmp-IsAntisymmetric nat_cmp-IsAntisymmetric n m.0 e) ∙ h
        | Greater ↦ λ e. rises_set m.0 ms h (turned n m.0 e)
      ] refl

-- ---- what stands before a place of a rising list is less
below_later : (p : List ℕ) (ms : List (List ℕ × Tree)) (i : ℕ) (m : List ℕ × Tree) → rises_after p (names_of ms) ≡ true → StandsAt ms i m → slice_cmp nat_cmp p m.0 ≡ Less
below_later p [] zero m h e = cc
below_later p [] (suc i) m h e = cc
below_later p (k ∷ ms) zero m h e =
    let same : k ≡ m = cc in rw (← same) (lt_less _ (first_so (is_lt (slice_cmp nat_cmp p k.0)) (rises_after k.0 (names_of ms)) h))
below_later p (k ∷ ms) (suc i) m h e =
    nat_list_cmp_total.trans p k.0 m.0 (lt_less _ (first_so (is_lt (slice_cmp nat_cmp p k.0)) (rises_after k.0 (names_of ms)) h))
    (below_later k.0 ms i m (second_so (is_lt (slice_cmp nat_cmp p k.0)) (rises_after k.0 (names_of ms)) h) (below_StandsAt k ms i m e))

rising_rest : (k : List ℕ × Tree) (ms : List (List ℕ × Tree)) → is_rising (names_of (k ∷ ms)) ≡ true → is_rising (names_of ms) ≡ true
rising_rest k [] h = refl
rising_rest k (l ∷ ms) h = second_so (is_lt (slice_cmp nat_cmp k.0 l.0)) (rises_after l.0 (names_of ms)) h

rising_drop : (ms : List (List ℕ × Tree)) (i : ℕ) → is_rising (names_of ms) ≡ true → is_rising (names_of (drop i ms)) ≡ true
rising_drop ms zero h = h
rising_drop [] (suc i) h = refl
rising_drop (k ∷ ms) (suc i) h = rising_drop ms i (rising_rest k ms h)

-- a comparison that doesn't tie tells two names apart
apart : (a b : List ℕ) (o : Ordering) → slice_cmp nat_cmp a b ≡ o → pointwise nat_eq a b ≡ is_eq o
apart a b o e = texts_ties a b ∙ ap is_eq e

-- ---- the place of a name
take_stands : {A : Type 0} (xs : List A) (i : ℕ) (x : A) → StandsAt xs i x → take (i + 1) xs ≡ take i xs ++ x ∷ []
take_stands [] zero x e = cc
take_stands [] (suc i) x e = cc
take_stands (y ∷ ys) zero x e = let same : y ≡ x = cc in ap (λ w. w ∷ []) same
take_stands (y ∷ ys) (suc i) x e = rw (add-one (suc i)) (ap (λ r. y ∷ r) (rw (add-one i) at (take_stands ys i x (below_StandsAt y ys i x e))))

-- the properties before this place have smaller names
pub record Passed (ms : List (List ℕ × Tree)) (n : List ℕ) (i : ℕ) : Type 0 where
  pub set : (v : Tree) → set_member ms n v ≡ take i ms ++ set_member (drop i ms) n v
  pub get : get_member ms n ≡ get_member (drop i ms) n

-- those from this place on have greater names
pub record Ahead (ms : List (List ℕ × Tree)) (n : List ℕ) (i : ℕ) : Type 0 where
  pub set : (v : Tree) → set_member (drop i ms) n v ≡ (n, v) ∷ drop i ms
  pub get : get_member (drop i ms) n ≡ None

pub passed_none : (ms : List (List ℕ × Tree)) (n : List ℕ) → Passed ms n 0
passed_none ms n = record { set = λ v. refl; get = refl }

pub ahead_none : (ms : List (List ℕ × Tree)) (n : List ℕ) → Ahead ms n (length ms)
ahead_none ms n = record { set = λ v. rw (drop-length ms) refl; get = rw (drop-length ms) refl }

module _ (n : List ℕ) where
  reaches : (ms : List (List ℕ × Tree)) (i : ℕ) (m : List ℕ × Tree) → is_rising (names_of ms) ≡ true → StandsAt ms i m → (slice_cmp nat_cmp m.0 n ≡ Less) ⊎ (m.0 ≡ n) → Passed ms n i
  reaches ms zero m h e le = passed_none ms n
  reaches [] (suc i) m h e le = cc
  reaches (k ∷ ms) (suc i) m h e le =
      let here = below_StandsAt k ms i m e in
      let under : slice_cmp nat_cmp k.0 m.0 ≡ Less = below_later k.0 ms i m h here in
      let less : slice_cmp nat_cmp k.0 n ≡ Less = ⊎_elim (λ lt. nat_list_cmp_total.trans k.0 m.0 n under lt) (λ (same : m.0 ≡ n). ap (λ w. slice_cmp nat_cmp k.0 w) (sym same) ∙ under) le in
      let later = reaches ms i m (rising_rest k ms h) here le in
      record {
        set = λ v. ap (λ o. match_ordering o ((n, v) ∷ k ∷ ms) ((n, v) ∷ ms) (k ∷ set_member ms n v)) (turned_back k.0 n less) ∙ ap (λ r. k ∷ r) (later.set v);
        get = rw (apart k.0 n Less less) later.get;
      }

  none_above : (p : List ℕ) (ms : List (List ℕ × Tree)) → rises_after p (names_of ms) ≡ true → slice_cmp nat_cmp n p ≡ Less → get_member ms n ≡ None
  none_above p [] h lt = refl
  none_above p (k ∷ ms) h lt =
      let less : slice_cmp nat_cmp n k.0 ≡ Less = nat_list_cmp_total.trans n p k.0 lt (lt_less _ (first_so (is_lt (slice_cmp nat_cmp p k.0)) (rises_after k.0 (names_of ms)) h)) in
      rw (apart k.0 n Greater (turned_back n k.0 less)) (none_above k.0 ms (second_so (is_lt (slice_cmp nat_cmp p k.0)) (rises_after k.0 (names_of ms)) h) less)

module _ (ms : List (List ℕ × Tree)) (n : List ℕ) (i : ℕ) (m : List ℕ × Tree) (rising : is_rising (names_of ms) ≡ true) (stands : StandsAt ms i m) where
  at_stands : (v : Tree) (o : Ordering) → slice_cmp nat_cmp n m.0 ≡ o
      → set_member (drop i ms) n v ≡ match_ordering o ((n, v) ∷ m ∷ drop (i + 1) ms) ((n, v) ∷ drop (i + 1) ms) (m ∷ set_member (drop (i + 1) ms) n v)
  at_stands v o e = rw stands (ap (λ w. match_ordering w ((n, v) ∷ m ∷ drop (i + 1) ms) ((n, v) ∷ drop (i + 1) ms) (m ∷ set_member (drop (i + 1) ms) n v)) e)

  found_or_not : (b : Bool) → pointwise nat_eq m.0 n ≡ b → get_member (drop i ms) n ≡ (if b then Some m.1 else get_member (drop (i + 1) ms) n)
  found_or_not true e = rw (stands, e) refl
  found_or_not false e = rw (stands, e) refl

  pub goes_right : slice_cmp nat_cmp n m.0 ≡ Greater → Passed ms n (i + 1)
  goes_right g =
      let here = reaches n ms i m rising stands (inl (turned n m.0 g)) in
      record {
        set = λ v. here.set v ∙ ap (λ r. take i ms ++ r) (at_stands v Greater g) ∙ sym (ap (λ r. r ++ set_member (drop (i + 1) ms) n v) (take_stands ms i m stands) ∙ append_assoc (take i ms) (m ∷ []) _);
        get = here.get ∙ found_or_not false (apart m.0 n Less (turned n m.0 g));
      }

  pub goes_left : slice_cmp nat_cmp n m.0 ≡ Less → Ahead ms n i
  goes_left l = record {
    set = λ v. at_stands v Less l ∙ ap (λ r. (n, v) ∷ r) (sym stands);
    get = found_or_not false (apart m.0 n Greater (turned_back n m.0 l)) ∙ none_above n m.0 (drop (i + 1) ms) (rw stands at (rising_drop ms i rising)) l;
  }

  module _ (tie : slice_cmp nat_cmp n m.0 ≡ Equal) where
    same_name : m.0 ≡ n
    same_name = sym (slice_cmp-IsAntisymmetric nat_cmp-IsAntisymmetric n m.0 tie)

    pub set_there : i < length ms → (v : Tree) → set_member ms n v ≡ slice_set ms i (n, v)
    set_there lt v = (reaches n ms i m rising stands (inr same_name)).set v ∙ ap (λ r. take i ms ++ r) (at_stands v Equal tie ∙ rw (add-one i) refl) ∙ sym (set_split ms i (n, v) lt)

    module _ (item : slice_get ms i ≡ Some m) where
      pub got_there : get_member ms n ≡ option_map (λ k. k.1) (slice_get ms i)
      got_there = (reaches n ms i m rising stands (inr same_name)).get ∙ found_or_not true (apart m.0 n Equal (rw same_name (tied_itself nat_list_cmp_total n))) ∙ sym (ap (option_map (λ k. k.1)) item)

      pub has_name : HasNameAt ms i n
      has_name = slice_get-map (λ k. k.0) ms i ∙ ap (option_map (λ k. k.0)) item ∙ ap Some same_name

-- ---- where the smaller names meet the greater ones
module _ (ms : List (List ℕ × Tree)) (n : List ℕ) (i : ℕ) (passed : Passed ms n i) (ahead : Ahead ms n i) where
  pub absent : get_member ms n ≡ None
  absent = passed.get ∙ ahead.get

  pub put_there : (v : Tree) → set_member ms n v ≡ insert ms i (n, v)
  put_there v = passed.set v ∙ ap (λ r. take i ms ++ r) (ahead.set v)

-- the list after a property is set, and after that failed
set_either : {E : Type 0} (r : Result (Unit {0}) E) (ms xs new : List (List ℕ × Tree)) (n : List ℕ) (v : Tree)
    → IsWithinLimit ms × (is_rising (names_of ms) ≡ true) → IsWithinLimit xs → set_member ms n v ≡ xs → OnOk r (new ≡ xs) → OnErr r (new ≡ ms)
    → IsWithinLimit new × (is_rising (names_of new) ≡ true)
set_either (Ok _) ms xs new n v h short e f g = rw f (short, ap (λ w. is_rising (names_of w)) (sym e) ∙ rising_set n v ms h.1)
set_either (Err _) ms xs new n v h short e f g = rw g h

module _ {E : Type 0} (r : Result (Unit {0}) E) (ms new : List (List ℕ × Tree)) (i : ℕ) (n : List ℕ) (v : Tree) (kept : IsWithinLimit ms × (is_rising (names_of ms) ≡ true)) where
  pub replaced_either : set_member ms n v ≡ slice_set ms i (n, v) → OnOk r (new ≡ slice_set ms i (n, v)) → OnErr r (new ≡ ms) → IsWithinLimit new × (is_rising (names_of new) ≡ true)
  replaced_either = set_either r ms (slice_set ms i (n, v)) new n v kept (omega (arith, length-set ms i (n, v), kept.0))

  pub inserted_either : i ≤ length ms → FitsOneMore ms → set_member ms n v ≡ insert ms i (n, v) → OnOk r (new ≡ insert ms i (n, v)) → OnErr r (new ≡ ms) → IsWithinLimit new × (is_rising (names_of new) ≡ true)
  inserted_either within fits = set_either r ms (insert ms i (n, v)) new n v kept (omega (arith, length-insert ms i (n, v) within, fits))
