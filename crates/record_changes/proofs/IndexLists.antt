-- Lists of indexes, of which some were added to a store, and the next comes.
--     new_next              the name of the next one is new
--     stands_next           those that were added, and those to come
use Rattle.std.proofs.Common.{◌≡◌, ℕ, Bool, true, false, not, ◌&&◌, ◌||◌, cond, nat_eq, nat_lt, List, [], ◌∷◌, ◌++◌, length, Some, None, refl, sym, ap, subst, ◌∙◌, arith}
use Rattle.std.specs.List.{list_any, position, position_or_len}
use Rattle.std.specs.Cmp.Lexicographic.{pointwise}
use Rattle.std.proofs.lemmas.Grind.{common_steps}
use Rattle.std.proofs.lemmas.Bool.{and_parts}
use Rattle.idb_schema.specs.declared.definitions.IndexInfo.{IndexInfo}
use Rattle.idb_schema.specs.Definitions.{index_names, index_named, has_name, are_distinct}
use Rattle.record_changes.specs.Loosened.{AreIndexes}

or_parts : (a b : Bool) → (a || b) ≡ false → (a ≡ false) × (b ≡ false)
or_parts true b e = cc
or_parts false b e = (refl, e)

not_true : (b : Bool) → not b ≡ true → b ≡ false
not_true true e = cc
not_true false e = refl

same_numbers : (x y : ℕ) → nat_eq x y ≡ nat_eq y x
same_numbers x y = grind (arith, common_steps)

same_either_way : (a b : List ℕ) → pointwise nat_eq a b ≡ pointwise nat_eq b a
same_either_way [] [] = refl
same_either_way [] (y ∷ ys) = refl
same_either_way (x ∷ xs) [] = refl
same_either_way (x ∷ xs) (y ∷ ys) = rw (same_either_way xs ys) (ap (λ e. e && pointwise nat_eq ys xs) (same_numbers x y))

-- a name that none of a list has
passed_by : {X : Type 0} (test : X → Bool) (xs : List X) → list_any test xs ≡ false → position_or_len test xs ≡ length xs
passed_by test [] e = refl
passed_by test (x ∷ xs) e = let parts = or_parts (test x) (list_any test xs) e in let rest = passed_by test xs parts.1 in grind (arith, common_steps, parts.0, rest)

nowhere : (n m : ℕ) → n ≡ m → cond (nat_lt n m) (Some n) None ≡ None
nowhere n m e = grind (arith, common_steps, e)

none_at : {X : Type 0} (test : X → Bool) (xs : List X) → list_any test xs ≡ false → position test xs ≡ None
none_at test xs e = nowhere (position_or_len test xs) (length xs) (passed_by test xs e)

module _ (x : IndexInfo) (rest : List IndexInfo) where
  lacks_next : (n : List ℕ) (front : List IndexInfo) → has_name n (index_names (front ++ x ∷ rest)) ≡ false → pointwise nat_eq x.name n ≡ false
  lacks_next n [] e = (or_parts (pointwise nat_eq x.name n) (has_name n (index_names rest)) e).0
  lacks_next n (f ∷ front) e = lacks_next n front (or_parts (pointwise nat_eq f.name n) (has_name n (index_names (front ++ x ∷ rest))) e).1

  unnamed : (front : List IndexInfo) → are_distinct (index_names (front ++ x ∷ rest)) ≡ true → list_any (λ i. pointwise nat_eq i.name x.name) front ≡ false
  unnamed [] e = refl
  unnamed (f ∷ front) e =
      let parts = and_parts (not (has_name f.name (index_names (front ++ x ∷ rest)))) (are_distinct (index_names (front ++ x ∷ rest))) e in
      let this : pointwise nat_eq f.name x.name ≡ false = same_either_way f.name x.name ∙ lacks_next f.name front (not_true (has_name f.name (index_names (front ++ x ∷ rest))) parts.0) in
      ap (λ b. b || list_any (λ i. pointwise nat_eq i.name x.name) front) this ∙ unnamed front parts.1

-- of the list, these were added, and this one comes next
module _ (indexes front rest : List IndexInfo) (x : IndexInfo) (whole : front ++ x ∷ rest ≡ indexes) where
  pub new_next : AreIndexes indexes → index_named front x.name ≡ None
  new_next sound = none_at (λ (i : IndexInfo). pointwise nat_eq i.name x.name) front (unnamed x rest front (subst (λ is. are_distinct (index_names is) ≡ true) (sym whole) sound.apart))

-- those so far, and those to come
pub stands_next : (indexes front behind rest : List IndexInfo) (x : IndexInfo) → front ++ behind ≡ indexes → behind ≡ x ∷ rest → front ++ x ∷ rest ≡ indexes
stands_next indexes front behind rest x whole next = ap (λ is. front ++ is) (sym next) ∙ whole
