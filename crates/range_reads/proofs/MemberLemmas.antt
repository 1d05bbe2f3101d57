-- What a loop over the members adds, the first member, and the record of a member.
--     more_values, more_keys            the values, and the keys, of one member more;  no_value, no_key: of one that has none
--     stored_member                     the value of a member of the store itself
use Rattle.std.proofs.Common.{◌≡◌, ℕ, zero, suc, ◌+◌, ◌-◌, ◌≤◌, List, [], ◌∷◌, ◌++◌, refl, sym, ap, ◌∙◌, Option, Some, None, map, take, drop, arith}
use Rattle.std.proofs.lemmas.List.{map-append, append-nil}
use Rattle.std.proofs.lemmas.List.Elements.{filter_map-append}
use Rattle.std.proofs.lemmas.Option.{slice_get-map}
use Rattle.std.specs.Prelude.{slice_get, option_map}
use Rattle.std.specs.List.{filter_map}
use Rattle.std.specs.Option.{option_and_then, option_to_list}
use Rattle.std.specs.FinMap as finite
use Rattle.clone_values.specs.Tree.{Tree}
use Rattle.clone_values.specs.KeyTree.{KeyTree}
use Rattle.idb_keys.specs.declared.names.Over.{Over}
use Rattle.idb_keys.specs.declared.names.Over.TheVariants.{Store}
use Rattle.indexed_records.specs.RecordRows.{Records}
use Rattle.idb_schema.specs.declared.definitions.IndexInfo.{IndexInfo}
use Rattle.indexed_records.specs.Rows.{RowTree}
use Rattle.indexed_records.proofs.Laws.{record_found}
use Rattle.indexed_records.specs.Reading.{members_in, first_primary, first_value}

-- ---- one member more
taken_next : {A : Type 0} (n : ℕ) (xs : List A) → take (suc n) xs ≡ take n xs ++ option_to_list (slice_get xs n)
taken_next zero [] = refl
taken_next (suc n) [] = refl
taken_next zero (x ∷ xs) = refl
taken_next (suc n) (x ∷ xs) = ap (λ r. x ∷ r) (taken_next n xs)

dropped_get : {A : Type 0} (s n : ℕ) (xs : List A) → slice_get (drop s xs) n ≡ slice_get xs (s + n)
dropped_get zero n [] = refl
dropped_get (suc s) n [] = refl
dropped_get zero n (x ∷ xs) = let e : n ≡ 0 + n = omega arith in ap (slice_get (x ∷ xs)) e
dropped_get (suc s) n (x ∷ xs) = dropped_get s n xs ∙ (let e : suc (s + n) ≡ suc s + n = omega arith in ap (slice_get (x ∷ xs)) e)

pub next_member : {A : Type 0} (s i : ℕ) (xs : List A) → s ≤ i → take (i + 1 - s) (drop s xs) ≡ take (i - s) (drop s xs) ++ option_to_list (slice_get xs i)
next_member s i xs le =
    (let e : i + 1 - s ≡ suc (i - s) = omega arith in ap (λ n. take n (drop s xs)) e)
    ∙ taken_next (i - s) (drop s xs)
    ∙ ap (λ o. take (i - s) (drop s xs) ++ option_to_list o) (dropped_get s (i - s) xs ∙ (let e : s + (i - s) ≡ i = omega arith in ap (slice_get xs) e))

value_of_one : {A B : Type 0} (f : A → Option B) (o : Option A) → filter_map f (option_to_list o) ≡ option_to_list (option_and_then f o)
value_of_one f None = refl
value_of_one f (Some x) = elim (f x) as (λ r. filter_map (λ _. r) (x ∷ []) ≡ option_to_list r) [ None ↦ refl | Some y ↦ refl ]

pub more_values : {A B : Type 0} (f : A → Option B) (s i : ℕ) (xs : List A) (o : Option B) (vs : List B) → s ≤ i → o ≡ option_and_then f (slice_get xs i)
    → vs ≡ filter_map f (take (i - s) (drop s xs)) → vs ++ option_to_list o ≡ filter_map f (take (i + 1 - s) (drop s xs))
more_values f s i xs o vs le one so_far =
    (λ j. so_far j ++ option_to_list (one j))
    ∙ ap (λ r. filter_map f (take (i - s) (drop s xs)) ++ r) (sym (value_of_one f (slice_get xs i)))
    ∙ sym (filter_map-append f (take (i - s) (drop s xs)) (option_to_list (slice_get xs i)))
    ∙ ap (filter_map f) (sym (next_member s i xs le))

key_of_one : {A B : Type 0} (f : A → B) (o : Option A) → map f (option_to_list o) ≡ option_to_list (option_map f o)
key_of_one f None = refl
key_of_one f (Some x) = refl

pub more_keys : {A B : Type 0} (f : A → B) (s i : ℕ) (xs : List A) (o : Option B) (ks : List B) → s ≤ i → o ≡ option_map f (slice_get xs i)
    → ks ≡ map f (take (i - s) (drop s xs)) → ks ++ option_to_list o ≡ map f (take (i + 1 - s) (drop s xs))
more_keys f s i xs o ks le one so_far =
    (λ j. so_far j ++ option_to_list (one j))
    ∙ ap (λ r. map f (take (i - s) (drop s xs)) ++ r) (sym (key_of_one f (slice_get xs i)))
    ∙ sym (map-append f (take (i - s) (drop s xs)) (option_to_list (slice_get xs i)))
    ∙ ap (map f) (sym (next_member s i xs le))

-- a member without a value adds none
pub no_value : {A B : Type 0} (f : A → Option B) (s i : ℕ) (xs : List A) (vs : List B) → s ≤ i → None ≡ option_and_then f (slice_get xs i)
    → vs ≡ filter_map f (take (i - s) (drop s xs)) → vs ≡ filter_map f (take (i + 1 - s) (drop s xs))
no_value f s i xs vs le none so_far = sym (append-nil vs) ∙ more_values f s i xs None vs le none so_far

pub no_key : {A B : Type 0} (f : A → B) (s i : ℕ) (xs : List A) (ks : List B) → s ≤ i → None ≡ option_map f (slice_get xs i)
    → ks ≡ map f (take (i - s) (drop s xs)) → ks ≡ map f (take (i + 1 - s) (drop s xs))
no_key f s i xs ks le none so_far = sym (append-nil ks) ∙ more_keys f s i xs None ks le none so_far

-- ---- the record of a member
found_again : (records : Records) (o : Option (KeyTree × Tree)) → ((e : KeyTree × Tree) → o ≡ Some e → finite.get records e.0 ≡ Some e.1)
    → option_map (λ (e : KeyTree × Tree). e.1) o ≡ option_and_then (λ (m : KeyTree × KeyTree). finite.get records m.1) (option_map (λ (e : KeyTree × Tree). (e.0, e.0)) o)
found_again records None h = refl
found_again records (Some e) h = sym (h e refl)

-- of the store itself, the record at the place
pub stored_member : (indexes : List IndexInfo) (records : Records) (over : Over) (place : ℕ) → over ≡ Store
    → option_map (λ e. e.1) (slice_get (finite.entries records) place) ≡ option_and_then (λ (m : RowTree). finite.get records m.1) (slice_get (members_in indexes records over) place)
stored_member indexes records over place is =
    found_again records (slice_get (finite.entries records) place) (record_found records place)
    ∙ ap (option_and_then (λ (m : RowTree). finite.get records m.1)) (sym (slice_get-map (λ (e : KeyTree × Tree). (e.0, e.0)) (finite.entries records) place))
    ∙ ap (λ o. option_and_then (λ (m : RowTree). finite.get records m.1) (slice_get (members_in indexes records o) place)) (sym is)

-- ---- the first
through : {A B C : Type 0} (f : A → Option C) (g : B → A) (o : Option B) → option_and_then (λ m. f (g m)) o ≡ option_and_then f (option_map g o)
through f g None = refl
through f g (Some m) = refl
