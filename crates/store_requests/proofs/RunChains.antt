-- The changes of requests lead from the store to the one that the request leaves.
use Rattle.std.proofs.Common.{◌≡◌, ℕ, suc, Bool, true, false, cond, T, List, [], ◌∷◌, map, ◌⊎◌, inl, inr, refl, sym, ap, subst, ◌∙◌, Option, Some, None}
use Rattle.std.specs.Prelude.{◌==◌, ⊤, IsSome, is_some, slice_get}
use Rattle.std.specs.List.{AllByRecursion}
use Rattle.std.specs.FinMap as finite
use Rattle.std.specs.FinMap.{is_sorted}
use Rattle.std.specs.FinMap.Entries.{below_all}
use Rattle.std.specs.declared.cmp.Ordering.TheVariants.{Less}
use Rattle.std.specs.Ordering.{is_eq, ordering_reverse}
use Rattle.std.proofs.lemmas.Bool.{eqb-true, eq-eqb, false≢true}
use Rattle.clone_values.specs.Tree.{Tree}
use Rattle.clone_values.specs.KeyTree.{KeyTree}
use Rattle.clone_values.specs.declared.path_types.PathSpec.{PathSpec}
use Rattle.key_order.specs.KeyOrder.{key_cmp}
use Rattle.key_order.proofs.Laws.{key_cmp_total}
use Rattle.key_paths.specs.Evaluation.{Extract, one, many, invalid, failure}
use Rattle.idb_keys.specs.KeyRange.{Range, includes}
use Rattle.idb_keys.specs.declared.names.Over.TheVariants as over
use Rattle.idb_calls.specs.Deltas.{Put, Remove, Clear, Current}
use Rattle.sorted_table.proofs.Laws.{is_less, first, second}
use Rattle.index_tables.specs.Rows.{RowTree}
use Rattle.store_cursors.specs.Reading.{selected, primary_keys}
use Rattle.store_cursors.proofs.Laws.{record_found}
use Rattle.item_changes.specs.Store.{Store}
use Rattle.item_changes.specs.Changed.{store_with_record, store_without_record, without_records, with_current, cleared}
use Rattle.item_changes.specs.Storing.{Entry, CanStore, HasKey, in_line, key_found, entry_by, entry_for, with_entry, is_refused}
use Rattle.item_changes.proofs.Laws.{deleted_changes}
use Rattle.item_changes.specs.Effects.{has_record, has_generator, is_store_with, if_there}
use Rattle.store_requests.specs.Answers.{in_reach}
use Rattle.store_requests.specs.Runs.{storing, deleting, clearing, entry_run, stored_run, refused_run, number_changes, entry_changes, removals}
use Rattle.store_requests.specs.declared.changes.StoreNames.{StoreNames}
use Rattle.store_requests.specs.Leaving.{Leaves}
use Rattle.store_requests.proofs.Chains.{LeadsTo, Chain, chain_both, chain_leaves}

-- ---- one change
put_leads : (named : StoreNames) (x : Store) (key : KeyTree) (value : Tree) → LeadsTo named (Put named.database named.store key value) x (store_with_record x key value)
put_leads named x key value = record { test = is_some; change = if_there (λ s. store_with_record s key value); in_database = refl; effect = refl; passes = refl; makes = refl }

number_leads : (named : StoreNames) (x : Store) (n : ℕ) → x.info.auto ≡ true → LeadsTo named (Current named.database named.store n) x (with_current x n)
number_leads named x n auto = record { test = is_store_with has_generator; change = if_there (λ s. with_current s n); in_database = refl; effect = refl; passes = auto; makes = refl }

remove_leads : (named : StoreNames) (x : Store) (key : KeyTree) → IsSome (finite.get x.records key) → LeadsTo named (Remove named.database named.store key) x (store_without_record x key)
remove_leads named x key there = record { test = is_store_with (has_record key); change = if_there (λ s. store_without_record s key); in_database = refl; effect = refl; passes = there; makes = refl }

clear_leads : (named : StoreNames) (x : Store) → LeadsTo named (Clear named.database named.store) x (cleared x)
clear_leads named x = record { test = is_some; change = if_there cleared; in_database = refl; effect = refl; passes = refl; makes = refl }

-- ---- storing
-- the number changes only where there is a generator
abbrev NumberStays : Bool → ℕ → Option Entry → Type 0
NumberStays auto current None = current ≡ current
NumberStays auto current (Some e) = (auto ≡ true) ⊎ (e.current ≡ current)

kept_number : (path : Option PathSpec) (auto : Bool) (current : ℕ) (value : Tree) (k : KeyTree) → NumberStays auto current (entry_by path auto current value (Some k))
kept_number path true current value k = inl refl
kept_number path false current value k = inr refl

by_generator : (o : Option Entry) (auto : Bool) (current : ℕ) → auto ≡ true → NumberStays auto current o
by_generator None auto current e = refl
by_generator (Some x) auto current e = inl e

by_found : (path : Option PathSpec) (auto : Bool) (current : ℕ) (value : Tree) (x : Extract) → HasKey path auto value x → NumberStays auto current (entry_by path auto current value (key_found x))
by_found path auto current value (one key) has = kept_number path auto current value key
by_found path auto current value (many keys) has = absurd has
by_found path auto current value invalid has = absurd has
by_found path auto current value failure has = by_generator (entry_by path auto current value None) auto current has.0

number_stays : (path : Option PathSpec) (auto : Bool) (current : ℕ) (value : Tree) (key : Option KeyTree) → CanStore path auto value key → NumberStays auto current (entry_for path auto current value key)
number_stays path auto current value None can = by_found path auto current value (in_line path value) can.key
number_stays path auto current value (Some k) can = kept_number path auto current value k

same_store : (x : Store) (n : ℕ) → (x.current == n) ≡ true → x ≡ with_current x n
same_store x n e = ap (with_current x) (eqb-true x.current n e)

has_auto : (x : Store) (n : ℕ) → (x.info.auto ≡ true) ⊎ (n ≡ x.current) → (x.current == n) ≡ false → x.info.auto ≡ true
has_auto x n (inl auto) other = auto
has_auto x n (inr same) other = absurd (false≢true (sym other ∙ eq-eqb x.current n (sym same)))

number_chain : (named : StoreNames) (x : Store) (n : ℕ) → (x.info.auto ≡ true) ⊎ (n ≡ x.current) → Chain named x (number_changes named x.current n) (with_current x n)
number_chain named x n may = elim (x.current == n) as (λ b. (x.current == n) ≡ b → Chain named x (cond b [] (Current named.database named.store n ∷ [])) (with_current x n)) [
  | true ↦ λ same. same_store x n same
  | false ↦ λ other. (with_current x n, number_leads named x n (has_auto x n may other), refl)
] refl

stored_chain : (named : StoreNames) (x : Store) (e : Entry) → (x.info.auto ≡ true) ⊎ (e.current ≡ x.current) → Chain named x (entry_changes named x.current e) (with_entry x e)
stored_chain named x e may = chain_both named x (with_current x e.current) (with_entry x e) _ _ (number_chain named x e.current may) (with_entry x e, put_leads named (with_current x e.current) e.key e.value, refl)

run_chain : (named : StoreNames) (x : Store) (add : Bool) (o : Option Entry) → NumberStays x.info.auto x.current o → Leaves named x (entry_run named x add o)
run_chain named x add None may = chain_leaves named x (refused_run x) refl
run_chain named x add (Some e) may = elim (is_refused x.info.indexes x.records add e.key e.value) as (λ b. Leaves named x (cond b (refused_run x) (stored_run named x e))) [
  | true ↦ chain_leaves named x (refused_run x) refl
  | false ↦ chain_leaves named x (stored_run named x e) (stored_chain named x e may)
]

pub storing_leaves : (named : StoreNames) (store : Store) (value : Tree) (key : Option KeyTree) (add : Bool) → CanStore store.info.path store.info.auto value key → Leaves named store (storing named store value key add)
storing_leaves named store value key add can = run_chain named store add _ (number_stays store.info.path store.info.auto store.current value key can)

-- ---- clearing
pub clearing_leaves : (named : StoreNames) (store : Store) → Leaves named store (clearing named store)
clearing_leaves named store = chain_leaves named store (clearing named store) (cleared store, clear_leads named store, refl)

-- ---- deleting
-- each key is less than those behind it
abbrev Rise : List KeyTree → Type 0
Rise [] = ⊤
Rise (k ∷ ks) = AllByRecursion (λ j. key_cmp k j ≡ Less) ks × Rise ks

abbrev Stand : Store → List KeyTree → Type 0
Stand x ks = AllByRecursion (λ k. IsSome (finite.get x.records k)) ks

still_there : (x : Store) (k j : KeyTree) → key_cmp k j ≡ Less → IsSome (finite.get x.records j) → IsSome (finite.get (store_without_record x k).records j)
still_there x k j less there = subst IsSome (sym (finite.get-remove key_cmp_total x.records k j ∙ ap (λ o. cond (is_eq o) None (finite.get x.records j)) (key_cmp_total.antisymm j k ∙ ap ordering_reverse less))) there

all_still_there : (x : Store) (k : KeyTree) (ks : List KeyTree) → AllByRecursion (λ j. key_cmp k j ≡ Less) ks → Stand x ks → Stand (store_without_record x k) ks
all_still_there x k [] below there = tt
all_still_there x k (j ∷ ks) below there = (still_there x k j below.0 there.0, all_still_there x k ks below.1 there.1)

removal_chain : (named : StoreNames) (x : Store) (ks : List KeyTree) → Rise ks → Stand x ks → Chain named x (removals named ks) (without_records x ks)
removal_chain named x [] rise there = refl
removal_chain named x (k ∷ ks) rise there = (store_without_record x k, remove_leads named x k there.0, removal_chain named (store_without_record x k) ks rise.1 (all_still_there x k ks rise.0 there.1))

abbrev own : KeyTree × Tree → RowTree
own e = (e.0, e.0)

below_in : (k : KeyTree) (range : Range) (es : List (KeyTree × Tree)) → T (below_all key_cmp k es) → AllByRecursion (λ j. key_cmp k j ≡ Less) (primary_keys (selected range (map own es)))
below_in k range [] h = tt
below_in k range (e ∷ es) h = elim (includes range e.0) as (λ b. AllByRecursion (λ j. key_cmp k j ≡ Less) (primary_keys (cond b (own e ∷ selected range (map own es)) (selected range (map own es))))) [
  | true ↦ (is_less _ (first _ _ h), below_in k range es (second _ _ h))
  | false ↦ below_in k range es (second _ _ h)
]

rise_in : (range : Range) (es : List (KeyTree × Tree)) → T (is_sorted key_cmp es) → Rise (primary_keys (selected range (map own es)))
rise_in range [] h = tt
rise_in range (e ∷ es) h = elim (includes range e.0) as (λ b. Rise (primary_keys (cond b (own e ∷ selected range (map own es)) (selected range (map own es))))) [
  | true ↦ (below_in e.0 range es (first _ _ h), rise_in range es (second _ _ h))
  | false ↦ rise_in range es (second _ _ h)
]

stand_in : (x : Store) (range : Range) (es : List (KeyTree × Tree)) → ((i : ℕ) (e : KeyTree × Tree) → slice_get es i ≡ Some e → IsSome (finite.get x.records e.0)) → Stand x (primary_keys (selected range (map own es)))
stand_in x range [] h = tt
stand_in x range (e ∷ es) h = elim (includes range e.0) as (λ b. Stand x (primary_keys (cond b (own e ∷ selected range (map own es)) (selected range (map own es))))) [
  | true ↦ (h 0 e refl, stand_in x range es (λ i. h (suc i)))
  | false ↦ stand_in x range es (λ i. h (suc i))
]

found_there : (x : Store) (i : ℕ) (e : KeyTree × Tree) → slice_get (finite.entries x.records) i ≡ Some e → IsSome (finite.get x.records e.0)
found_there x i e at = subst IsSome (sym (record_found x.records i e at)) refl

pub deleting_leaves : (named : StoreNames) (store : Store) (range : Range) → Leaves named store (deleting named store range)
deleting_leaves named store range =
    let keys = primary_keys (in_reach store over.Store range) in
    chain_leaves named store (deleting named store range) (subst (Chain named store (removals named keys)) (sym (deleted_changes store range))
    (removal_chain named store keys (rise_in range (finite.entries store.records) (finite.entries_sorted store.records)) (stand_in store range (finite.entries store.records) (found_there store))))
