-- What a request leaves of the store.
--     storing_info          its definition
--     storing_refused       all of it, where it is refused
--     taken_back, can_take_back       the store at a mark of before;  it can be given back as it was then
use Rattle.std.proofs.Common.{◌≡◌, Bool, true, false, if◌then◌else◌, length, List, Option, Some, None, Result, Ok, Err, IfOk, refl, sym, ◌∙◌, subst, arith}
use Rattle.std.proofs.lemmas.Option.{none-some}
use Rattle.clone_values.specs.Tree.{Tree}
use Rattle.clone_values.specs.KeyTree.{KeyTree}
use Rattle.clone_values.specs.KeyValues.{value_of_key}
use Rattle.object_stores.specs.Store.{Store, Kept, at_mark, KeepsPast}
use Rattle.object_stores.specs.IsStore.{IsStore, IsCurrent}
use Rattle.object_stores.specs.declared.store.Mark.{Mark}
use Rattle.object_stores.specs.Storing.{Entry, entry_for, is_refused}
use Rattle.store_requests.specs.declared.changes.StoreNames.{StoreNames}
use Rattle.store_requests.specs.Runs.{refused_run, stored_run, entry_run, storing}
use Rattle.clone_values.specs.declared.value_types.Value.{Value}
use Rattle.clone_values.specs.View.{tree_of}
use Rattle.idb_calls.specs.Deltas.{DeltaTree}
use Rattle.object_stores.specs.declared.error.StoreError.{StoreError}
use Rattle.live_stores.specs.declared.changing.StoreChange.{StoreChange}
use Rattle.live_stores.specs.Changing.{IsMarkOf, HasRunOn, change_run}

module _ (named : StoreNames) (store : Store) where
  either_info : (b : Bool) (entry : Entry) → (if b then refused_run store else stored_run named store entry).store.info ≡ store.info
  either_info true entry = refl
  either_info false entry = refl

  entry_info : (add : Bool) (entry : Option Entry) → (entry_run named store add entry).store.info ≡ store.info
  entry_info add None = refl
  entry_info add (Some entry) = either_info (is_refused store.info.indexes store.records add entry.key entry.value) entry

  pub storing_info : (value : Tree) (key : Option KeyTree) (add : Bool) → (storing named store value key add).store.info ≡ store.info
  storing_info value key add = entry_info add (entry_for store.info.path store.info.auto store.current value key)

  either_refused : (b : Bool) (entry : Entry) → None ≡ (if b then refused_run store else stored_run named store entry).answer → (if b then refused_run store else stored_run named store entry).store ≡ store
  either_refused true entry e = refl
  either_refused false entry e = absurd (none-some (value_of_key entry.key) e)

  entry_refused : (add : Bool) (entry : Option Entry) → None ≡ (entry_run named store add entry).answer → (entry_run named store add entry).store ≡ store
  entry_refused add None e = refl
  entry_refused add (Some entry) e = either_refused (is_refused store.info.indexes store.records add entry.key entry.value) entry e

  pub storing_refused : (value : Tree) (key : Option KeyTree) (add : Bool) → None ≡ (storing named store value key add).answer → (storing named store value key add).store ≡ store
  storing_refused value key add e = entry_refused add (entry_for store.info.path store.info.auto store.current value key) e

-- ---- marks
module _ (old new : Kept) (mark : Mark) (place : mark.place ≡ length old.past) (here : at_mark old mark.place mark.current ≡ old.store) (keeps : KeepsPast old new) where
  pub taken_back : at_mark new mark.place mark.current ≡ old.store
  taken_back = keeps.places mark.place mark.current (omega (arith, place)) ∙ here

  pub can_take_back : mark.current ≡ old.store.current → IsStore old.store → IsMarkOf mark new
  can_take_back current sound = record {
    place = omega (arith, place, keeps.longer);
    current = subst (λ (s : Store). IsCurrent s.info.auto mark.current) (sym taken_back) (subst (λ n. IsCurrent old.store.info.auto n) (sym current) sound.current);
  }

-- ---- what notes nothing notes it in any list
pub any_ran : (r : Result Value StoreError) (change : StoreChange) (old new : Option Store) (named : StoreNames) (noted : List DeltaTree)
    → IfOk r (λ v. (names : StoreNames) (noted : List DeltaTree) → HasRunOn old (change_run change names) (Some (tree_of v)) new noted noted)
    → IfOk r (λ v. HasRunOn old (change_run change named) (Some (tree_of v)) new noted noted)
any_ran (Ok v) change old new named noted h = h named noted
any_ran (Err e) change old new named noted h = tt
