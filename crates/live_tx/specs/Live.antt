-- A live transaction as contracts see it (Indexed Database API 3.0, "transaction" and "transaction lifetime").
--     LiveState             its number, its durability, the state of the list machine, what was told, and where it stands
--     next_number           the number of the request whose entry is run next
--     standing_after        where it stands after a step
--     IsReadyState, IsOver  between turns its entries can be run;  it has aborted
--     StandsSo              what is known of the state where it stands there
--     abort_error           an error from outside counts where the script had not aborted it before
--     reverted              every store as it was, no change, and nothing waits
--     AbortsFrom            an abort from outside, by where it stood
--     RunsToEnd             a whole run, with what was added to the notes
use Rattle.std.specs.Prelude.{◌≡◌, ℕ, List, [], ◌∷◌, ◌++◌, Option, Some, None, ⊤}
use Rattle.idb_keys.specs.declared.names.Durability.{Durability}
use Rattle.idb_keys.specs.declared.names.ErrorName.{ErrorName}
use Rattle.idb_calls.specs.declared.events.Event.{Event}
use Rattle.request_lists.specs.declared.entries.ListEntry.{ListEntry}
use Rattle.request_lists.specs.declared.entries.Phase.{Phase}
use Rattle.request_lists.specs.declared.entries.Phase.TheVariants as phase
use Rattle.request_lists.specs.Placing.{aborted_by}
use Rattle.list_machine.specs.declared.steps.Step.{Step}
use Rattle.list_machine.specs.declared.steps.Step.TheVariants as steps
use Rattle.list_machine.specs.States.{State}
use Rattle.list_machine.specs.Machine.{Reacts, Writes, Runs, number_in, with_waiting}
use Rattle.machine_laws.specs.Keeping.{IsState}
use Rattle.placed_calls.specs.Fitting.{AreFit}
use Rattle.handler_calls.specs.Attending.{IsAttended}
use Rattle.handler_calls.specs.Cancelling.{cancel_error}
use Rattle.live_tx.specs.declared.standing.Standing.{Standing}
use Rattle.live_tx.specs.declared.standing.Standing.TheVariants as standing
use Rattle.live_tx.specs.Telling.{AbortsInto}

pub record LiveState (D : Type 0) : Type 0 where
  pub number : ℕ
  pub durability : Durability
  pub state : State D
  pub told : List Event
  pub standing : Standing

-- none where nothing waits, or a call of an upgrade is next
abbrev pub next_number : {D : Type 0} → List (ListEntry D) → Option ℕ
next_number [] = None
next_number (entry ∷ entries) = number_in entry

abbrev pub standing_after : Step → Standing
standing_after steps.Did = standing.Running
standing_after steps.Idle = standing.Idle
standing_after (steps.Aborted error) = standing.Aborted error
standing_after steps.NoMemory = standing.Stuck

-- ---- between turns
-- each entry has its handler, and its call was checked
pub record IsReadyState {D : Type 0} (state : State D) : Type 0 where
  pub attended : IsAttended state.front
  pub fit : AreFit state.front
  pub meets : IsState state

-- the database before is back, no change is left, and nothing waits
pub record IsOver {D : Type 0} (error : Option ErrorName) (state : State D) : Type 0 where
  pub phase : state.front.phase ≡ phase.Aborted error
  pub waiting : state.front.waiting ≡ []
  pub database : state.database ≡ state.before
  pub changes : state.changes ≡ []

-- after want of memory nothing is known
abbrev pub StandsSo : {D : Type 0} → Standing → State D → Type 0
StandsSo standing.Running state = IsReadyState state
StandsSo standing.Idle state = IsReadyState state
StandsSo (standing.Aborted error) state = IsOver error state
StandsSo standing.Stuck state = ⊤

-- ---- from outside
abbrev pub abort_error : Phase → Option ErrorName → Option ErrorName
abort_error phase.Active error = error
abort_error phase.Inactive error = error
abort_error phase.Committing error = error
abort_error phase.Committed error = error
abort_error (phase.Aborted own) error = own

abbrev pub reverted : {D : Type 0} → State D → State D
reverted state = record state { front = with_waiting (aborted_by (cancel_error state.front.phase) state.front) []; database = state.before; changes = [] }

-- one that has aborted stays as it is
abbrev pub AbortsFrom : {D L : Type 0} → Reacts D → Writes D L → Standing → State D → Option ErrorName → State D → List L → List L → List Event → List Event → Type 0
AbortsFrom reacts writes standing.Running old error new before after told_before told_after = AbortsInto reacts writes old (abort_error old.front.phase error) new before after told_before told_after
AbortsFrom reacts writes standing.Idle old error new before after told_before told_after = AbortsInto reacts writes old (abort_error old.front.phase error) new before after told_before told_after
AbortsFrom reacts writes (standing.Aborted own) old error new before after told_before told_after = (new ≡ old) × (after ≡ before) × (told_after ≡ told_before)
AbortsFrom reacts writes standing.Stuck old error new before after told_before told_after = ⊥

abbrev pub standing_aborted : Standing → Phase → Option ErrorName → Standing
standing_aborted standing.Running p error = standing.Aborted (abort_error p error)
standing_aborted standing.Idle p error = standing.Aborted (abort_error p error)
standing_aborted (standing.Aborted own) p error = standing.Aborted own
standing_aborted standing.Stuck p error = standing.Stuck

-- ---- a run
pub record RunsToEnd {D L : Type 0} (reacts : Reacts D) (writes : Writes D L) (old : State D) (step : Step) (new : State D) (before after : List L) : Type 0 where
  pub lines : List L
  pub runs : Runs reacts writes old step new lines
  pub added : after ≡ before ++ lines
