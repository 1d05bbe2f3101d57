-- What turns keep, and what an aborted transaction leaves.
--     turn_keeps            no turn changes the database before, or the name
--     aborted_leaves        the database before is back, and no change is left
use Rattle.std.proofs.Common.{◌≡◌, Bool, true, false, if◌then◌else◌, List, [], ◌∷◌, Option, Some, None, refl, sym, ◌∙◌, subst}
use Rattle.std.specs.Prelude.{⊤}
use Rattle.idb_keys.specs.declared.names.ErrorName.{ErrorName}
use Rattle.idb_keys.specs.declared.names.ErrorName.TheVariants.{QuotaExceededError}
use Rattle.request_lists.specs.declared.entries.ListEntry.{ListEntry}
use Rattle.request_lists.specs.declared.entries.ListEntry.TheVariants.{Request, Turn as CursorTurn, Change}
use Rattle.request_lists.specs.declared.entries.Phase.{Phase}
use Rattle.request_lists.specs.declared.entries.Phase.TheVariants as phase
use Rattle.request_lists.specs.Fronts.{cursor_of}
use Rattle.list_machine.specs.declared.steps.Step.{Step}
use Rattle.list_machine.specs.declared.steps.Step.TheVariants.{Did, Idle, Aborted}
use Rattle.list_machine.specs.States.{State}
use Rattle.list_machine.specs.Entries.{Came, stopped, took_effect, resulted, came, came_unless, done_by_request, done_by_turn, with_done, with_turn_taken, ran_change, deltas_of_call, stop_of_change, is_past_limit, bytes_to_store}
use Rattle.list_machine.specs.Machine.{Reacts, Writes, Turn, TurnIn, TurnAt, Ensues, EndsAs, Aborts, GoesOn, Begins, Goes, Runs, with_entries}

-- one of the database before, and the state
pub record Keeps {D : Type 0} (old new : State D) : Type 0 where
  pub before : new.before ≡ old.before
  pub name : new.name ≡ old.name

pub record LeavesBefore {D : Type 0} (old new : State D) : Type 0 where
  pub database : new.database ≡ old.before
  pub changes : new.changes ≡ []

abbrev CameKeeps : {D : Type 0} → State D → Came D → Type 0
CameKeeps old (stopped error) = ⊤
CameKeeps old (took_effect state) = Keeps old state
CameKeeps old (resulted state number result) = Keeps old state

limit_keeps : {D : Type 0} (old : State D) (past : Bool) (error : ErrorName) (otherwise : Came D) → CameKeeps old otherwise → CameKeeps old (if past then stopped error else otherwise)
limit_keeps old true error otherwise k = tt
limit_keeps old false error otherwise k = k

unless_keeps : {D : Type 0} (old : State D) (stop : Option ErrorName) (state : State D) → Keeps old state → CameKeeps old (came_unless stop state)
unless_keeps old (Some error) state k = tt
unless_keeps old None state k = k

came_keeps : {D : Type 0} (old : State D) (entries : List (ListEntry D)) (entry : ListEntry D) → CameKeeps old (came (with_entries old entries) entry)
came_keeps old entries (Request request call handler) =
    let state = with_entries old entries in
    let done = done_by_request state call in
    limit_keeps old (is_past_limit state 1 (bytes_to_store call) done.changes) QuotaExceededError (resulted (with_done state done (bytes_to_store call)) request done.answer) (record { before = refl; name = refl })
came_keeps old entries (CursorTurn number call) =
    let state = with_entries old entries in
    let turned = with_turn_taken state number call in
    let done = done_by_turn state call (cursor_of state.front number) in
    limit_keeps old (is_past_limit turned 1 0 done.changes) QuotaExceededError (resulted (with_done turned done 0) number done.answer) (record { before = refl; name = refl })
came_keeps old entries (Change call) =
    let state = with_entries old entries in
    limit_keeps old (is_past_limit state 0 0 (deltas_of_call state call)) QuotaExceededError (came_unless (stop_of_change state call) (ran_change state call))
    (unless_keeps old (stop_of_change state call) (ran_change state call) (record { before = refl; name = refl }))

module _ {D L : Type 0} (reacts : Reacts D) (writes : Writes D L) where
  pub abort_leaves : (old : State D) (error : Option ErrorName) (new : State D) (lines : List L) → Aborts reacts writes old error new lines → Keeps old new × LeavesBefore old new
  abort_leaves old error new lines a = (
    subst (Keeps old) (sym a.back) (record { before = refl; name = refl }),
    subst (LeavesBefore old) (sym a.back) (record { database = refl; changes = refl }),
  )

  -- what a turn from one state is of another that has the same database before
  abbrev Ending : State D → Step → State D → Type 0
  Ending old Did new = Keeps old new
  Ending old Idle new = new ≡ old
  Ending old (Aborted error) new = Keeps old new × LeavesBefore old new
  Ending old _ new = ⊤

  ending_did : (old state new : State D) (step : Step) → Keeps old state → step ≡ Did → new ≡ state → Ending old step new
  ending_did old state new step k is same = subst (λ s. Ending old s new) (sym is) (subst (Keeps old) (sym same) k)

  ending_aborted : (old state new : State D) (step : Step) (error : Option ErrorName) (lines : List L) → Keeps old state → step ≡ Aborted error → Aborts reacts writes state error new lines → Ending old step new
  ending_aborted old state new step error lines k is a =
      let ends = abort_leaves state error new lines a in
      subst (λ s. Ending old s new) (sym is) (
        record { before = ends.0.before ∙ k.before; name = ends.0.name ∙ k.name },
        record { database = ends.1.database ∙ k.before; changes = ends.1.changes },
      )

  ends_as : (old state new : State D) (step : Step) (lines : List L) (v : Option (Option ErrorName)) → Keeps old state → EndsAs reacts writes v state step new lines → Ending old step new
  ends_as old state new step lines None k e = ending_did old state new step k e.0 e.1
  ends_as old state new step lines (Some error) k e = ending_aborted old state new step error lines k e.0 e.1

  ensues : (old : State D) (entry : ListEntry D) (new : State D) (step : Step) (lines : List L) (c : Came D) → CameKeeps old c → Ensues reacts writes old entry c step new lines → Ending old step new
  ensues old entry new step lines (stopped error) k e = ending_aborted old old new step (Some error) lines (record { before = refl; name = refl }) e.0 e.1
  ensues old entry new step lines (took_effect state) k e = ending_did old state new step k e.0 e.1
  ensues old entry new step lines (resulted state number result) k e = ends_as old (record state { front = e.last }) new step e.abort_lines _ (record { before = k.before; name = k.name }) e.ended

  turn_at : (old : State D) (entries : List (ListEntry D)) (step : Step) (new : State D) (lines : List L) → TurnAt reacts writes old entries step new lines → Ending old step new
  turn_at old [] step new lines t = subst (λ s. Ending old s new) (sym t.0) t.1
  turn_at old (entry ∷ entries) step new lines t = ensues old entry new step lines _ (came_keeps old entries entry) t

  turn_in : (p : Phase) (old : State D) (step : Step) (new : State D) (lines : List L) → TurnIn reacts writes p old step new lines → Ending old step new
  turn_in phase.Active old step new lines t = turn_at old old.front.waiting step new lines t
  turn_in phase.Inactive old step new lines t = turn_at old old.front.waiting step new lines t
  turn_in phase.Committing old step new lines t = turn_at old old.front.waiting step new lines t
  turn_in phase.Committed old step new lines t = turn_at old old.front.waiting step new lines t
  turn_in (phase.Aborted error) old step new lines t = ending_aborted old old new step error lines (record { before = refl; name = refl }) t.0 t.1

  pub turn_ends : (old : State D) (step : Step) (new : State D) (lines : List L) → Turn reacts writes old step new lines → Ending old step new
  turn_ends old step new lines t = turn_in old.front.phase old step new lines t

  pub goes_keeps : (old new : State D) (lines : List L) → GoesOn reacts writes old new lines → Keeps old new
  goes_keeps old _ _ Begins = record { before = refl; name = refl }
  goes_keeps old _ _ (Goes mid last first rest g t) =
      let k = goes_keeps old mid first g in
      let more = turn_ends mid Did last rest t in
      record { before = more.before ∙ k.before; name = more.name ∙ k.name }

  pub run_aborted : (old last : State D) (error : Option ErrorName) (lines : List L) → Runs reacts writes old (Aborted error) last lines → LeavesBefore old last
  run_aborted old last error lines r =
      let k = goes_keeps old r.mid r.first r.goes in
      let ends = turn_ends r.mid (Aborted error) last r.rest r.ends in
      record { database = ends.1.database ∙ k.before; changes = ends.1.changes }
