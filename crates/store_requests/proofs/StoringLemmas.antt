-- What storing a record comes to, from the key and the store that a store's own call gives.
use Rattle.std.proofs.Common.{◌≡◌, Bool, true, false, cond, List, ◌++◌, refl, sym, ap, subst, ◌∙◌, Option, Some, None}
use Rattle.std.specs.FinMap as finite
use Rattle.std.specs.Cmp.{tied_itself}
use Rattle.std.specs.Ordering.{is_eq}
use Rattle.clone_values.specs.Tree.{Tree}
use Rattle.clone_values.specs.KeyTree.{KeyTree}
use Rattle.clone_values.specs.KeyValues.{value_of_key}
use Rattle.key_order.proofs.Laws.{key_cmp_total}
use Rattle.item_changes.specs.Store.{Store}
use Rattle.item_changes.specs.Storing.{Entry, Outcome, entry_for, is_refused, outcome_of, stored_as, stored, refused, with_entry}
use Rattle.std.proofs.lemmas.List.{append-nil}
use Rattle.idb_calls.specs.Deltas.{DeltaTree}
use Rattle.store_requests.specs.Runs.{Ran, HasRun, storing, entry_run, stored_run, refused_run, number_changes, record_changes}
use Rattle.store_requests.specs.declared.changes.StoreNames.{StoreNames}

-- the record that an entry leaves
entry_there : (store : Store) (entry : Entry) → finite.get (with_entry store entry).records entry.key ≡ Some entry.value
entry_there store entry =
    finite.get-insert key_cmp_total store.records entry.key entry.value entry.key
    ∙ ap (λ o. cond (is_eq o) (Some entry.value) (finite.get store.records entry.key)) (tied_itself key_cmp_total entry.key)

abbrev left_run : StoreNames → Store → KeyTree → Store → Ran
left_run named old key new = record { answer = Some (value_of_key key); store = new; changes = number_changes named old.current new.current ++ record_changes named key (finite.get new.records key) }

by_entry : (named : StoreNames) (store : Store) (entry : Entry) → stored_run named store entry ≡ left_run named store entry.key (with_entry store entry)
by_entry named store entry = ap (λ o. record { answer = Some (value_of_key entry.key); store = with_entry store entry; changes = number_changes named store.current entry.current ++ record_changes named entry.key o }) (sym (entry_there store entry))

abbrev runs_left : StoreNames → Store → Outcome → Ran → Type 0
runs_left named store refused ran = ran ≡ refused_run store
runs_left named store (stored key new) ran = ran ≡ left_run named store key new

runs_by : (named : StoreNames) (store : Store) (add : Bool) (entry : Option Entry) → runs_left named store (outcome_of store add entry) (entry_run named store add entry)
runs_by named store add None = refl
runs_by named store add (Some entry) = elim (is_refused store.info.indexes store.records add entry.key entry.value) as (λ b. runs_left named store (cond b refused (stored entry.key (with_entry store entry))) (cond b (refused_run store) (stored_run named store entry))) [
  | true ↦ refl
  | false ↦ by_entry named store entry
]

runs_as : (named : StoreNames) (store : Store) (value : Tree) (key : Option KeyTree) (add : Bool) → runs_left named store (stored_as store value key add) (storing named store value key add)
runs_as named store value key add = runs_by named store add (entry_for store.info.path store.info.auto store.current value key)

pub runs_stored : (named : StoreNames) (store new : Store) (value : Tree) (key : Option KeyTree) (add : Bool) (k : KeyTree) → stored_as store value key add ≡ stored k new → storing named store value key add ≡ left_run named store k new
runs_stored named store new value key add k is = subst (λ o. runs_left named store o (storing named store value key add)) is (runs_as named store value key add)

pub runs_refused : (named : StoreNames) (store : Store) (value : Tree) (key : Option KeyTree) (add : Bool) → stored_as store value key add ≡ refused → storing named store value key add ≡ refused_run store
runs_refused named store value key add is = subst (λ o. runs_left named store o (storing named store value key add)) is (runs_as named store value key add)

module _ (named : StoreNames) (store new : Store) (value : Tree) (key : Option KeyTree) (add : Bool) (before after : List DeltaTree) where
  pub has_stored : (k : KeyTree) (answer : Tree) → stored_as store value key add ≡ stored k new → answer ≡ value_of_key k
      → after ≡ before ++ (number_changes named store.current new.current ++ record_changes named k (finite.get new.records k))
      → HasRun (storing named store value key add) (Some answer) new before after
  has_stored k answer is answers notes =
      let same = runs_stored named store new value key add k is in
      record { answered = ap Some answers ∙ sym (ap (λ r. r.answer) same); left = sym (ap (λ r. r.store) same); noted = notes ∙ ap (λ r. before ++ r.changes) (sym same) }

  pub has_refused : stored_as store value key add ≡ refused → new ≡ store → after ≡ before → HasRun (storing named store value key add) None new before after
  has_refused is kept notes =
      let same = runs_refused named store value key add is in
      record { answered = sym (ap (λ r. r.answer) same); left = kept ∙ sym (ap (λ r. r.store) same); noted = notes ∙ sym (append-nil before) ∙ ap (λ r. before ++ r.changes) (sym same) }
