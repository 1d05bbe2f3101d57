-- What the turns of a cursor come to.
use Rattle.std.proofs.Common.{◌≡◌, ℕ, Bool, Option, Some, None, sym, ◌∙◌, ap, subst}
use Rattle.std.specs.Prelude.{slice_get}
use Rattle.std.specs.Option.{option_and_then}
use Rattle.clone_values.specs.Tree.{Tree, null}
use Rattle.clone_values.specs.KeyTree.{KeyTree}
use Rattle.clone_values.specs.WellFormed.{IsValue}
use Rattle.idb_keys.specs.declared.names.Over.{Over}
use Rattle.idb_calls.specs.declared.calls.Call.{Call}
use Rattle.idb_cursors.specs.Cursors.{turn_of, iterated}
use Rattle.object_stores.specs.Store.{Store}
use Rattle.object_stores.specs.IsStore.{IsStore}
use Rattle.object_stores.specs.Showing.{shown_in}
use Rattle.store_cursors.specs.Members.{valued}
use Rattle.store_requests.specs.Answers.{cursor_answer}
use Rattle.request_lists.specs.declared.entries.FrontCursor.{FrontCursor}
use Rattle.request_lists.specs.Fronts.{Front, cursor_of, cursor_changed}
use Rattle.request_lists.specs.Running.{turn_found, cursor_turned, with_cursor_turned}
use Rattle.list_machine.specs.Requests.{key_asked, primary_asked, more_turns, turn_asked, place_taken}
use Rattle.placed_calls.specs.Fitting.{AreFit}
use Rattle.request_reads.specs.Reads.{HasValidPath, turn_answered, turn_answer_at, cursors_at, with_turn_made}
use Rattle.request_reads.proofs.Formed.{cursor_formed, turn_fits}

module _ {D : Type 0} (front : Front D) (number : ℕ) (store : Store) (over : Over) (call : Call) (c : FrontCursor D) (key primary : Option KeyTree) (more : ℕ) (place : Option ℕ)
    (here : cursor_of front number ≡ Some c) (k : key ≡ key_asked call) (p : primary ≡ primary_asked call) (m : more ≡ more_turns call)
    (found : place ≡ turn_found (shown_in store over) (cursor_of front number) key primary more) where
  is_place : place ≡ place_taken store over c.cursor call
  is_place =
      found ∙ ap (λ o. turn_found (shown_in store over) o key primary more) here
      ∙ ap (λ x. iterated (shown_in store over) (turn_of c.cursor x primary) more) k
      ∙ ap (λ y. iterated (shown_in store over) (turn_of c.cursor (key_asked call) y) more) p
      ∙ ap (iterated (shown_in store over) (turn_asked c.cursor call)) m

  pub moved : (after : Front D) → after ≡ with_cursor_turned number (shown_in store over) place front → after ≡ with_turn_made front number store over call
  moved after e =
      e ∙ ap (λ q. record front { cursors = cursor_changed number (cursor_turned (shown_in store over) q) front.cursors }) is_place
      ∙ ap (λ o. record front { cursors = cursors_at number store over call o front.cursors }) (sym here)

  pub answered : (at : ℕ) (keys_only : Bool) (t : Tree) → place ≡ Some at → keys_only ≡ c.cursor.keys_only → t ≡ cursor_answer keys_only (option_and_then (valued store) (slice_get (shown_in store over) at)) → t ≡ turn_answered front number store over call
  answered at keys_only t e is a =
      a ∙ ap (λ b. cursor_answer b (option_and_then (valued store) (slice_get (shown_in store over) at))) is
      ∙ ap (λ q. cursor_answer c.cursor.keys_only (option_and_then (valued store) (option_and_then (slice_get (shown_in store over)) q))) (sym e ∙ is_place)
      ∙ ap (turn_answer_at store over call) (sym here)

  pub nothing : place ≡ None → null ≡ turn_answered front number store over call
  nothing e =
      ap (λ q. cursor_answer c.cursor.keys_only (option_and_then (valued store) (option_and_then (slice_get (shown_in store over)) q))) (sym e ∙ is_place)
      ∙ ap (turn_answer_at store over call) (sym here)

  pub formed : IsStore store → HasValidPath store.info.indexes over → (t : Tree) → t ≡ turn_answered front number store over call → IsValue t
  formed sound valid t e = subst IsValue (sym (e ∙ ap (turn_answer_at store over call) here)) (cursor_formed store sound over valid c.cursor.keys_only (turn_asked c.cursor call) (more_turns call))

pub fits : {D : Type 0} (front : Front D) (number : ℕ) (store : Store) (over : Over) (call : Call) → IsStore store → (after : Front D) → after ≡ with_turn_made front number store over call → AreFit front → AreFit after
fits front number store over call sound after e f = subst AreFit (sym e) (turn_fits store sound front number over call f)
