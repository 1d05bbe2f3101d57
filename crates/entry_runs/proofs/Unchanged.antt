-- A request that reads leaves all as it was.
--     come_read             what it comes to
use Rattle.std.proofs.Common.{◌≡◌, Bool, true, false, cond, [], Option, Some, None, refl, sym, ◌∙◌, ap, subst}
use Rattle.std.specs.FinMap as finite
use Rattle.std.specs.FinMap.{get-insert, same_map}
use Rattle.clone_values.specs.Tree.{Tree}
use Rattle.idb_calls.specs.declared.calls.Call.{Call}
use Rattle.idb_calls.specs.declared.calls.Target.{Target}
use Rattle.object_stores.specs.Store.{Store}
use Rattle.item_changes.specs.Items.{Name, is_same_name, Database}
use Rattle.item_changes.proofs.Laws.{names_total, one_name, same_name}
use Rattle.store_requests.specs.Leaving.{with_named_store}
use Rattle.request_lists.specs.Fronts.{Front}
use Rattle.request_lists.specs.Placing.{over_of}
use Rattle.request_reads.specs.Reads.{reading_answer}
use Rattle.list_machine.specs.Requests.{StoreHere, answered_run}
use Rattle.list_machine.proofs.Laws.{Stands, stands}
use Rattle.tx_courses.specs.Courses.{CourseData, HasCome, state_with}
use Rattle.tx_courses.specs.Changes.{store_in}
use Rattle.entry_runs.specs.Asked.{done_in, reading_at, answer_reading}
use Rattle.entry_runs.proofs.Asking.{unchanged}

-- the store that stands there put in its place again
module _ (d : Database) (name : Name) (x : Store) (there : finite.get d.stores name ≡ Some x) where
  kept_at : (q : Name) (b : Bool) → is_same_name q name ≡ b → cond b (Some x) (finite.get d.stores q) ≡ finite.get d.stores q
  kept_at q true same = sym (ap (finite.get d.stores) (same_name q name same) ∙ there)
  kept_at q false same = refl

  put_again : with_named_store d name x ≡ d
  put_again = ap (λ stores. record d { stores = stores }) (same_map names_total one_name _ _ (λ q. get-insert names_total d.stores name x q ∙ kept_at q (is_same_name q name) refl))

module _ (old : CourseData) (target : Target) (call : Call) (f : Store → Tree) (answers : (x : Store) → reading_answer x (over_of old.schema target.index) call ≡ Some (f x)) where
  read_in : (o : Option StoreHere) → ((here : StoreHere) → o ≡ Some here → Stands old.database here)
      → done_in old o (λ named x. answered_run x (f x)) ≡ record { answer = reading_at old target call o; database = old.database; changes = [] }
  read_in None there = refl
  read_in (Some here) there =
      let is = there here refl in
      let same : Some (with_named_store here.database here.name here.store) ≡ old.database = ap Some (put_again here.database here.name here.store is.store) ∙ sym is.database in
      (λ i. record { answer = sym (answers here.store) i; database = same i; changes = [] })

  pub come_read : {D : Type 0} (front : Front D) (answer : Option Tree) → answer ≡ answer_reading old target call
      → HasCome (done_in old (store_in old target.store) (λ named x. answered_run x (f x))) answer old old
  come_read front answer e = subst (λ d. HasCome d answer old old) (sym (read_in (store_in old target.store) (stands (state_with front old) target.store))) (record { answered = e; left = unchanged old })
