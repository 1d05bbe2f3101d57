-- Laws for other crates: definitions stay sound through each change of a schema.
use Rattle.std.proofs.Common.{◌≡◌, ℕ, zero, suc, ◌+◌, ◌<◌, ◌||◌, if◌then◌else◌, Bool, true, false, ◌&&◌, not, nat_eq, nat_cmp, List, [], ◌∷◌, ◌++◌, map, length, take, drop, remove, slice_get, Some, None, arith, refl, sym, ◌∙◌, ap, subst}
use Rattle.std.specs.List.{AllByRecursion, position, position_or_len, list_all, list_any}
use Rattle.std.specs.Ordering.{is_lt}
use Rattle.std.specs.Cmp.Lexicographic.{slice_cmp, pointwise, texts_ties}
use Rattle.std.proofs.lemmas.List.Folds.{list_all-append}
use Rattle.std.proofs.lemmas.Grind.{common_steps}
use Rattle.idb_schema.specs.declared.entries.StoreEntry.{StoreEntry}
use Rattle.idb_schema.specs.declared.definitions.IndexInfo.{IndexInfo}
use Rattle.idb_schema.specs.declared.definitions.StoreInfo.{StoreInfo}
use Rattle.idb_schema.specs.Definitions.{IsStoreInfo, IsIndexInfo, is_index_info, takes_generator, index_names, index_named, has_name, are_distinct}
use Rattle.idb_schema.specs.Schemas.{entries_from, put_in_order, change_at, indexes_of_entry}
use Rattle.idb_schema.specs.Sound.{AreSound}
use Rattle.idb_schema.proofs.All.{all_remove}

both : (a b : Bool) → (a && b) ≡ true → (a ≡ true) × (b ≡ true)
both true b e = (refl, e)
both false b e = cc

and_true : (a b : Bool) → a ≡ true → b ≡ true → (a && b) ≡ true
and_true a b p q = rw p q

pub sound_from : (id : ℕ) (infos : List StoreInfo) → AllByRecursion IsStoreInfo infos → AreSound (entries_from id infos)
sound_from id [] a = tt
sound_from id (info ∷ infos) a = (a.0, sound_from (id + 1) infos a.1)

pub sound_put : (es : List StoreEntry) (e : StoreEntry) → AreSound es → IsStoreInfo e.info → AreSound (put_in_order es e)
sound_put [] e a p = (p, tt)
sound_put (d ∷ ds) e a p =
    elim (is_lt (slice_cmp nat_cmp e.info.name d.info.name)) as (λ b. AreSound (if b then e ∷ d ∷ ds else d ∷ put_in_order ds e))
    [ true ↦ (p, a) | false ↦ (a.0, sound_put ds e a.1 p) ]

pub sound_changed : (es : List StoreEntry) (place : ℕ) (change : StoreEntry → StoreEntry) → AreSound es
    → ((e : StoreEntry) → slice_get es place ≡ Some e → IsStoreInfo e.info → IsStoreInfo (change e).info) → AreSound (change_at es place change)
sound_changed [] place change a keeps = tt
sound_changed (e ∷ es) zero change a keeps = (keeps e refl a.0, a.1)
sound_changed (e ∷ es) (suc place) change a keeps = (a.0, sound_changed es place change a.1 (λ d at. keeps d at))

-- ---- an index comes to the definition of a store, or goes
some_first : {X : Type 0} (test : X → Bool) (xs : List X) → list_any test xs ≡ true → position_or_len test xs < length xs
some_first test [] e = absurd (cc)
some_first test (x ∷ xs) e = grind (arith, common_steps, some_first test xs)

none_any : {X : Type 0} (test : X → Bool) (xs : List X) (b : Bool) → list_any test xs ≡ b → position test xs ≡ None → b ≡ false
none_any test xs false e none = refl
none_any test xs true e none = let first = some_first test xs e in grind (arith, common_steps, first, none)

or_false : (a b : Bool) → a ≡ false → b ≡ false → (a || b) ≡ false
or_false a b p q = rw p q

not_true : (b : Bool) → not b ≡ true → b ≡ false
not_true true e = cc
not_true false e = refl

or_parts : (a b : Bool) → (a || b) ≡ false → (a ≡ false) × (b ≡ false)
or_parts true b e = cc
or_parts false b e = (refl, e)

same_numbers : (x y : ℕ) → nat_eq x y ≡ nat_eq y x
same_numbers x y = grind (arith, common_steps)

same_either_way : (a b : List ℕ) → pointwise nat_eq a b ≡ pointwise nat_eq b a
same_either_way [] [] = refl
same_either_way [] (y ∷ ys) = refl
same_either_way (x ∷ xs) [] = refl
same_either_way (x ∷ xs) (y ∷ ys) = rw (same_either_way xs ys) (ap (λ e. e && pointwise nat_eq ys xs) (same_numbers x y))

lacks_pushed : (ns : List (List ℕ)) (m n : List ℕ) → has_name m ns ≡ false → pointwise nat_eq n m ≡ false → has_name m (ns ++ n ∷ []) ≡ false
lacks_pushed [] m n h d = rw d refl
lacks_pushed (k ∷ ks) m n h d = let parts = or_parts _ _ h in or_false _ _ parts.0 (lacks_pushed ks m n parts.1 d)

distinct_pushed : (ns : List (List ℕ)) (n : List ℕ) → are_distinct ns ≡ true → has_name n ns ≡ false → are_distinct (ns ++ n ∷ []) ≡ true
distinct_pushed [] n d h = refl
distinct_pushed (m ∷ ms) n d h =
    let apart = both _ _ d in
    let other = or_parts _ _ h in
    rw (lacks_pushed ms m n (not_true _ apart.0) (same_either_way n m ∙ other.0)) (distinct_pushed ms n apart.1 other.1)

names_pushed : (is : List IndexInfo) (i : IndexInfo) → index_names (is ++ i ∷ []) ≡ index_names is ++ i.name ∷ []
names_pushed [] i = refl
names_pushed (j ∷ js) i = ap (λ ns. j.name ∷ ns) (names_pushed js i)

any_named : (is : List IndexInfo) (n : List ℕ) → has_name n (index_names is) ≡ list_any (λ i. pointwise nat_eq i.name n) is
any_named [] n = refl
any_named (j ∷ js) n = ap (λ b. pointwise nat_eq j.name n || b) (any_named js n)

name_is_new : (is : List IndexInfo) (n : List ℕ) → index_named is n ≡ None → has_name n (index_names is) ≡ false
name_is_new is n none = any_named is n ∙ none_any (λ i. pointwise nat_eq i.name n) is _ refl none

module _ (n : List ℕ) where
  lacks_removed : (is : List IndexInfo) (i : ℕ) → has_name n (index_names is) ≡ false → has_name n (index_names (take i is ++ drop (suc i) is)) ≡ false
  lacks_removed [] zero h = refl
  lacks_removed [] (suc i) h = refl
  lacks_removed (j ∷ js) zero h = (or_parts _ _ h).1
  lacks_removed (j ∷ js) (suc i) h = let parts = or_parts _ _ h in or_false _ _ parts.0 (lacks_removed js i parts.1)

distinct_removed : (is : List IndexInfo) (i : ℕ) → are_distinct (index_names is) ≡ true → are_distinct (index_names (take i is ++ drop (suc i) is)) ≡ true
distinct_removed [] zero d = refl
distinct_removed [] (suc i) d = refl
distinct_removed (j ∷ js) zero d = (both _ _ d).1
distinct_removed (j ∷ js) (suc i) d = rw (lacks_removed j.name js i (not_true _ (both _ _ d).0)) (distinct_removed js i (both _ _ d).1)

all_removed : (is : List IndexInfo) (i : ℕ) → list_all is_index_info is ≡ true → list_all is_index_info (take i is ++ drop (suc i) is) ≡ true
all_removed [] zero a = refl
all_removed [] (suc i) a = refl
all_removed (j ∷ js) zero a = (both _ _ a).1
all_removed (j ∷ js) (suc i) a = let parts = both _ _ a in and_true _ _ parts.0 (all_removed js i parts.1)

module _ (info : StoreInfo) (sound : IsStoreInfo info) where
  path_fits : (not info.auto || takes_generator info.path) ≡ true
  path_fits = (both _ _ (both _ _ sound).0).0

  each_fits : list_all is_index_info info.indexes ≡ true
  each_fits = (both _ _ (both _ _ sound).0).1

  apart : are_distinct (index_names info.indexes) ≡ true
  apart = (both _ _ sound).1

  pub with_one_more : (index : IndexInfo) → IsIndexInfo index → index_named info.indexes index.name ≡ None → IsStoreInfo (record info { indexes = info.indexes ++ index ∷ [] })
  with_one_more index fits new =
      let all : list_all is_index_info (info.indexes ++ index ∷ []) ≡ true = list_all-append is_index_info info.indexes (index ∷ []) ∙ and_true _ _ each_fits (and_true _ _ fits refl) in
      let names : are_distinct (index_names (info.indexes ++ index ∷ [])) ≡ true = rw (names_pushed info.indexes index) (distinct_pushed _ index.name apart (name_is_new info.indexes index.name new)) in
      and_true _ _ (and_true _ _ path_fits all) names

  pub with_one_less : (place : ℕ) → IsStoreInfo (record info { indexes = take place info.indexes ++ drop (suc place) info.indexes })
  with_one_less place = and_true _ _ (and_true _ _ path_fits (all_removed info.indexes place each_fits)) (distinct_removed info.indexes place apart)

pub indexes_there : (es : List StoreEntry) (store : ℕ) (e : StoreEntry) (n : List ℕ) → slice_get es store ≡ Some e → index_named (indexes_of_entry es store) n ≡ None
    → index_named e.info.indexes n ≡ None
indexes_there es store e n at none = let same : indexes_of_entry es store ≡ e.info.indexes = rw at refl in subst (λ is. index_named is n ≡ None) same none
