-- Maps by name, told by what they have at each name.
--     entry_found           what stands at a place is found by its name
--     values_pass           a test of all values
--     len_within            a map whose names are all among these has no more of them
use Rattle.std.proofs.Common.{◌≡◌, ◌≤◌, ℕ, zero, suc, Bool, true, ◌&&◌, T, List, [], ◌∷◌, map, length, slice_get, Option, Some, None, is_some, refl, sym, ap, ◌∙◌, arith}
use Rattle.std.proofs.lemmas.List.{length-map}
use Rattle.std.proofs.lemmas.Map.Keys.{IsDistinct-from_sorted}
use Rattle.std.proofs.lemmas.Map.Made.{length-le_from_is_member}
use Rattle.std.specs.List.{list_all, AllByRecursion}
use Rattle.std.specs.List.Sorted.{IsStrictlySortedBy}
use Rattle.std.specs.Set.{is_member}
use Rattle.std.specs.Cmp.{eq_by_cmp_equiv}
use Rattle.std.specs.declared.cmp.Ordering.TheVariants.{Less}
use Rattle.std.specs.FinMap as finite
use Rattle.std.specs.FinMap.{FinMap, is_sorted}
use Rattle.std.specs.FinMap.Entries.{below_all}
use Rattle.sorted_table.proofs.Laws.{first, second, is_less, stands, found_of}
use Rattle.item_changes.specs.Items.{Name, name_cmp, is_same_name}
use Rattle.item_changes.proofs.Laws.{names_total}

pub entry_found : {X : Type 0} (m : FinMap name_cmp X) (i : ℕ) (e : Name × X) → slice_get (finite.entries m) i ≡ Some e → finite.get m e.0 ≡ Some e.1
entry_found m i e at =
    finite.get-entries m e.0
    ∙ found_of names_total (finite.entries m) i e.0 e.1 (stands names_total (finite.entries m) i e.0 e.1 (finite.entries_sorted m) at) at

-- ---- a test of all values
all_pass : {X : Type 0} (test : X → Bool) (es : List (Name × X)) → ((i : ℕ) (e : Name × X) → slice_get es i ≡ Some e → test e.1 ≡ true) → list_all test (map (λ e. e.1) es) ≡ true
all_pass test [] each = refl
all_pass test (d ∷ es) each = ap (λ b. b && list_all test (map (λ e. e.1) es)) (each zero d refl) ∙ all_pass test es (λ i e at. each (suc i) e at)

pub values_pass : {X : Type 0} (test : X → Bool) (m : FinMap name_cmp X) → ((q : Name) (x : X) → finite.get m q ≡ Some x → test x ≡ true) → list_all test (finite.values m) ≡ true
values_pass test m each = all_pass test (finite.entries m) (λ i e at. each e.0 e.1 (entry_found m i e at))

-- ---- how many names a map has
below_rest : {X : Type 0} (k : Name) (es : List (Name × X)) → T (below_all name_cmp k es) → AllByRecursion (λ q. name_cmp k q ≡ Less) (map (λ e. e.0) es)
below_rest k [] h = tt
below_rest k (e ∷ es) h = (is_less _ (first _ _ h), below_rest k es (second _ _ h))

pub rising : {X : Type 0} (es : List (Name × X)) → T (is_sorted name_cmp es) → IsStrictlySortedBy name_cmp (map (λ e. e.0) es)
unfolding IsStrictlySortedBy
rising [] h = tt
rising (e ∷ es) h = (below_rest e.0 es (first _ _ h), rising es (second _ _ h))

some_there : {X : Type 0} (o : Option X) → is_some o ≡ true → (x : X) × (o ≡ Some x)
some_there None e = cc
some_there (Some x) e = (x, refl)

pub len_within : {X : Type 0} (m : FinMap name_cmp X) (names : List Name) → ((q : Name) (x : X) → finite.get m q ≡ Some x → is_member is_same_name names q ≡ true) → finite.len m ≤ length names
len_within m names each =
    let few : length (finite.keys m) ≤ length names =
    length-le_from_is_member (eq_by_cmp_equiv names_total) (finite.keys m) names (IsDistinct-from_sorted name_cmp (finite.keys m) (rising (finite.entries m) (finite.entries_sorted m)))
    (λ q among. let there = some_there (finite.get m q) (finite.contains_key-keys m q ∙ among) in each q there.0 there.1)
    in
    let same : finite.len m ≡ length (finite.keys m) = finite.len-entries m ∙ sym (length-map (finite.entries m) (λ e. e.0)) in
    omega (arith, few, same)
