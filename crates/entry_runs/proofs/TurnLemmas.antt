-- What the turn of a cursor comes to, over the store that was found.
--     answered, moved       what it answers;  and the front after it
use Rattle.std.proofs.Common.{◌≡◌, ℕ, List, Option, Some, option_map, Bor, sym, ◌∙◌, ap}
use Rattle.std.specs.Option.{option_and_then}
use Rattle.clone_values.specs.Tree.{Tree}
use Rattle.idb_keys.specs.declared.names.Over.{Over}
use Rattle.idb_schema.specs.declared.definitions.StoreInfo.{StoreInfo}
use Rattle.idb_schema.specs.Schemas.{SchemaData, store_of}
use Rattle.idb_calls.specs.declared.calls.Call.{Call}
use Rattle.object_stores.specs.Store.{Kept}
use Rattle.idb_databases.specs.Stores.{store_alone}
use Rattle.request_lists.specs.declared.entries.FrontCursor.{FrontCursor}
use Rattle.request_lists.specs.Fronts.{Front, cursor_of}
use Rattle.request_lists.specs.Placing.{over_of}
use Rattle.request_reads.specs.Reads.{turn_answer_at, turn_answered, cursors_at, with_turn_made}
use Rattle.list_machine.specs.Requests.{StoreHere, store_under, store_asked, turn_answer}
use Rattle.list_machine.specs.Entries.{done_by_turn, with_turn_taken, cursors_turned, turned_on, answer_of_turn}
use Rattle.tx_courses.specs.Courses.{CourseData, state_with}
use Rattle.entry_runs.proofs.Asking.{found_here}

module _ {D : Type 0} (front : Front D) (course : CourseData) (number : ℕ) (call : Call) (c : FrontCursor D) (is : cursor_of front number ≡ Some c) where
  abbrev at_index : Over
  at_index = over_of course.schema c.target.index

  module _ (here : StoreHere) (at : store_asked (state_with front course) c.target.store ≡ Some here) where
    answered_over : (answer : Tree) → answer ≡ turn_answered front number here.store at_index call → Some answer ≡ (done_by_turn (state_with front course) call (cursor_of front number)).answer
    answered_over answer a =
        ap Some (a ∙ ap (turn_answer_at here.store at_index call) is)
        ∙ sym (ap (λ o. (done_by_turn (state_with front course) call o).answer) is ∙ ap (λ there. Some (answer_of_turn there (λ found. turn_answer found.store at_index c.cursor call))) at)

    moved_over : (last : Front D) → last ≡ with_turn_made front number here.store at_index call → last ≡ (with_turn_taken (state_with front course) number call).front
    moved_over last m =
        m ∙ ap (λ (cursors : List (FrontCursor D)). record front { cursors = cursors })
        (ap (λ o. cursors_at number here.store at_index call o front.cursors) is
        ∙ sym (ap (cursors_turned (state_with front course) number call) is ∙ ap (λ there. turned_on there at_index number call c.cursor front.cursors) at))

  -- ---- as the store was found
  module _ (schema again : SchemaData) (same : schema ≡ course.schema) (same_again : again ≡ course.schema) (info : StoreInfo) (defined : Some info ≡ store_of schema c.target.store)
      (k : Bor Kept) (found : Some (store_alone k.now) ≡ option_map (λ here. here.store) (store_under course.database info.name)) (over : Over) (index : over ≡ over_of again c.target.index) where
    asked : (here : StoreHere) → store_under course.database info.name ≡ Some here → store_asked (state_with front course) c.target.store ≡ Some here
    asked here e = ap (λ (o : Option StoreInfo). option_and_then (λ i. store_under course.database i.name) o) (sym (defined ∙ ap (λ s. store_of s c.target.store) same)) ∙ e

    at_place : over ≡ at_index
    at_place = index ∙ ap (λ s. over_of s c.target.index) same_again

    pub answered : (answer : Tree) → answer ≡ turn_answered front number k.now.store over call → Some answer ≡ (done_by_turn (state_with front course) call (cursor_of front number)).answer
    answered answer a =
        let there = found_here k (store_under course.database info.name) found in
        answered_over there.0 (asked there.0 there.1.0) answer (a ∙ ap (λ o. turn_answered front number k.now.store o call) at_place ∙ ap (λ x. turn_answered front number x at_index call) (sym there.1.1))

    pub moved : (last : Front D) → last ≡ with_turn_made front number k.now.store over call → last ≡ (with_turn_taken (state_with front course) number call).front
    moved last m =
        let there = found_here k (store_under course.database info.name) found in
        moved_over there.0 (asked there.0 there.1.0) last (m ∙ ap (λ o. with_turn_made front number k.now.store o call) at_place ∙ ap (λ x. with_turn_made front number x at_index call) (sym there.1.1))
