-- The records of a range, taken out one by one.
use Rattle.std.specs.Prelude.{◌≡◌, ◌≢◌, ℕ, ◌+◌, ◌-◌, ◌<◌, ◌≤◌, Bool, true, false, cond, not, List, [], ◌∷◌, length, map, take, drop, slice_get, slice_index_or, Some, None, is_some, refl}
use Rattle.std.proofs.Common.{sym, ap, ◌∙◌, subst, arith, inl, inr}
use Rattle.std.specs.Option.{option_map}
use Rattle.std.proofs.lemmas.List.{length-map, get_or-take, get_or-drop, length-take-le, length-drop}
use Rattle.std.proofs.lemmas.List.Elements.{filter_passes, All-get_or}
use Rattle.std.proofs.lemmas.Option.{slice_get-map, slice_get-get_or, slice_get_cases}
use Rattle.object_stores.proofs.Off.{same_some}
use Rattle.std.proofs.lemmas.Bool.{true≢false, cases_order, cases_eq}
use Rattle.std.specs.List.{All, filter}
use Rattle.std.specs.Ordering.{is_eq}
use Rattle.std.specs.Cmp.{Equal-is}
use Rattle.std.specs.FinMap.{get, remove, retain_keys, entries, get-remove, get-retain_keys, get-entries, find, same_map, len, len-remove, len-entries, empty_of_len, get-empty}
use Rattle.clone_values.specs.Tree.{Tree}
use Rattle.clone_values.specs.KeyTree.{KeyTree}
use Rattle.key_order.specs.KeyOrder.{key_cmp}
use Rattle.key_order.proofs.Laws.{key_cmp_total, key_cmp_same}
use Rattle.idb_keys.specs.KeyRange.{Range, includes}
use Rattle.index_tables.specs.RecordRows.{Records}

abbrev is_inside : Range → KeyTree × KeyTree → Bool
is_inside range m = includes range m.0

abbrev pub own_keys : KeyTree × Tree → KeyTree × KeyTree
own_keys e = (e.0, e.0)

-- outside the range nothing changed
abbrev pub SameOutside : Range → Records → Records → Type 0
SameOutside range old new = (q : KeyTree) → includes range q ≡ false → get new q ≡ get old q

pub outside_removed : (range : Range) (old mid : Records) (k : KeyTree) → SameOutside range old mid → includes range k ≡ true → SameOutside range old (remove mid k)
outside_removed range old mid k same inside q out =
    get-remove key_cmp_total mid k q
    ∙ elim (is_eq (key_cmp q k)) as (λ b. is_eq (key_cmp q k) ≡ b → cond b None (get mid q) ≡ get mid q) [
      | true ↦ λ t. absurd (true≢false (sym inside ∙ ap (includes range) (sym (key_cmp_same q k ((Equal-is _).0 t))) ∙ out))
      | false ↦ λ t. refl
    ] refl
    ∙ same q out

selected_none : (range : Range) (q : KeyTree) (es : List (KeyTree × Tree)) → filter (is_inside range) (map own_keys es) ≡ [] → includes range q ≡ true → find key_cmp q es ≡ None
selected_none range q [] none inside = refl
selected_none range q (e ∷ es) none inside =
    elim (includes range e.0) as (λ b. includes range e.0 ≡ b → cond b ((e.0, e.0) ∷ filter (is_inside range) (map own_keys es)) (filter (is_inside range) (map own_keys es)) ≡ [] → find key_cmp q (e ∷ es) ≡ None) [
      | true ↦ λ t is. absurd (omega (arith, ap length is))
      | false ↦ λ t is. elim (is_eq (key_cmp q e.0)) as (λ b. is_eq (key_cmp q e.0) ≡ b → cond b (Some e.1) (find key_cmp q es) ≡ None) [
        | true ↦ λ tie. absurd (true≢false (sym inside ∙ ap (includes range) (key_cmp_same q e.0 ((Equal-is _).0 tie)) ∙ t))
        | false ↦ λ tie. selected_none range q es is inside
      ] refl
    ] refl none

-- where nothing is left in the range, just its records are gone
pub all_gone : (range : Range) (old new : Records) → SameOutside range old new → filter (is_inside range) (map own_keys (entries new)) ≡ [] → new ≡ retain_keys old (λ key. not (includes range key))
all_gone range old new same none = same_map key_cmp_total key_cmp_same new _ (λ q.
    elim (includes range q) as (λ b. includes range q ≡ b → get new q ≡ cond (not b) (get old q) None) [
      | true ↦ λ t. get-entries new q ∙ selected_none range q (entries new) none t
      | false ↦ λ t. same q t
    ] refl
    ∙ sym (get-retain_keys old (λ key. not (includes range key)) q (λ x tie. ap (λ k. not (includes range k)) (sym (key_cmp_same q x tie)))))

-- the last one selected is in the range
pub last_inside : (range : Range) (es : List (KeyTree × Tree)) (start past : ℕ) (k : KeyTree) (v : Tree) → start < past → past ≤ length (map own_keys es)
    → take (past - start) (drop start (map own_keys es)) ≡ filter (is_inside range) (map own_keys es)
    → slice_get es (past - 1) ≡ Some (k, v) → includes range k ≡ true
last_inside range es start past k v less within is at =
    let xs = map own_keys es in
    let P : KeyTree × KeyTree → Type 0 = λ m. is_inside range m ≡ true in
    let all : All P (take (past - start) (drop start xs)) = subst (All P) (sym is) (filter_passes (is_inside range) xs) in
    let long : past - start ≤ length (drop start xs) = omega (arith, length-drop start xs, within, less) in
    let j = past - start - 1 in
    let inside = All-get_or P (take (past - start) (drop start xs)) j (k, k) (omega (arith, length-take-le (past - start) (drop start xs) long, less)) all in
    let place : start + j ≡ past - 1 = omega (arith, less) in
    let here = get_or-take (past - start) (drop start xs) j (k, k) (omega (arith, less)) ∙ get_or-drop start xs j (k, k) ∙ ap (λ i. slice_index_or xs i (k, k)) place in
    let member = same_some (slice_index_or xs (past - 1) (k, k)) (k, k) (sym (slice_get-get_or xs (past - 1) (k, k) (omega (arith, within, less))) ∙ slice_get-map own_keys es (past - 1) ∙ ap (option_map own_keys) at) in
    sym (ap (is_inside range) (here ∙ member)) ∙ inside

-- one record fewer is left
pub fewer_left : (m : Records) (k : KeyTree) (v : Tree) → get m k ≡ Some v → len (remove m k) < len m
fewer_left m k v there =
    let one = len-remove key_cmp_total m k ∙ ap (λ o. cond (is_some o) (len m - 1) (len m)) there in
    let some : 0 < len m = elim (cases_order 0 (len m)) [
      | inl none ↦ absurd (true≢false (ap is_some (sym there ∙ ap (λ n. get n k) (empty_of_len m (sym none)) ∙ get-empty key_cmp k)))
      | inr rest ↦ elim rest [ inl h ↦ h | inr h ↦ omega (arith, h) ]
    ] in
    omega (arith, one, some)

-- at each place within stands a record
pub entry_there : (m : Records) (place : ℕ) → place < len m → (k : KeyTree) × (v : Tree) × (slice_get (entries m) place ≡ Some (k, v))
entry_there m place h = elim (slice_get_cases (entries m) place).1 [
  | inl found ↦ (found.0.0, found.0.1, found.2)
  | inr past ↦ absurd (omega (arith, h, len-entries m, past.0))
]

-- nothing is taken from a place up to itself
pub empty_take : {A : Type 0} (a b : ℕ) (xs : List A) → a ≡ b → take (b - a) (drop a xs) ≡ []
empty_take a b xs e = let none : b - a ≡ 0 = omega (arith, e) in ap (λ n. take n (drop a xs)) none

positive : (n : ℕ) → n ≢ 0 → 0 < n
positive n h = elim (cases_order 0 n) [
  | inl e ↦ absurd (h (sym e))
  | inr rest ↦ elim rest [ inl l ↦ l | inr l ↦ omega (arith, l) ]
]

-- the last place of a span is one of the places
pub last_within : (m : Records) (start past : ℕ) → start ≤ past → start ≢ past → past ≤ length (map own_keys (entries m)) → past - 1 < len m
last_within m start past order apart within =
    elim (cases_eq past 0) [
      | inl none ↦ absurd (apart (omega (arith, none, order)))
      | inr some ↦ omega (arith, within, length-map (entries m) own_keys, len-entries m, positive past some)
    ]
