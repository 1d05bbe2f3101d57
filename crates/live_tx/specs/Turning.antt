-- What the parts of a turn come to.
--     error_of_phase        the error of a transaction that has aborted
--     first_kind            what the entry that is run next asks for
--     event_of              the event that tells what was replied to a request;  none past a limit
--     Results               running an entry came to a result, which the event tells
--     HasStopped            the entry that is run next stops the transaction with this error
--     FirstCame             what the request that is run next came to
--     FirstChanged          what the call of an upgrade that is run next came to
--     CancelsInto           the entries that wait were told
--     AnswersInto           the event of an entry was handled, and the transaction goes on or has aborted
use Rattle.std.specs.Prelude.{◌≡◌, ℕ, List, [], ◌∷◌, ◌++◌, Option, Some, None, drop}
use Rattle.clone_values.specs.Tree.{Tree}
use Rattle.idb_keys.specs.declared.names.ErrorName.{ErrorName}
use Rattle.idb_keys.specs.declared.names.ErrorName.TheVariants.{ConstraintError, QuotaExceededError}
use Rattle.idb_calls.specs.declared.events.Event.{Event}
use Rattle.idb_calls.specs.declared.events.Event.TheVariants.{Success, Error}
use Rattle.request_lists.specs.declared.entries.ListEntry.{ListEntry}
use Rattle.request_lists.specs.declared.entries.ListEntry.TheVariants.{Request, Turn as CursorTurn, Change}
use Rattle.request_lists.specs.declared.entries.Phase.{Phase}
use Rattle.request_lists.specs.declared.entries.Phase.TheVariants as phase
use Rattle.request_lists.specs.declared.handlers.HandlerEnd.{HandlerEnd}
use Rattle.request_lists.specs.Fronts.{Front}
use Rattle.request_lists.specs.Placing.{aborted_by}
use Rattle.list_machine.specs.declared.steps.Step.{Step}
use Rattle.list_machine.specs.States.{State}
use Rattle.list_machine.specs.Entries.{stopped, took_effect, resulted, came}
use Rattle.list_machine.specs.Machine.{Reacts, Writes, Handles, Cancels, EndsAs, Tells, verdict, with_entries, with_waiting}
use Rattle.handler_calls.specs.Telling.{abort_events}
use Rattle.entry_runs.specs.Courses.{CourseData, state_with, course_in, restored}
use Rattle.entry_runs.specs.declared.replies.Reply.{Reply}
use Rattle.entry_runs.specs.declared.replies.Reply.TheVariants.{PastLimit, Answered, Failed}
use Rattle.live_tx.specs.declared.next.Next.{Next}
use Rattle.live_tx.specs.declared.next.Next.TheVariants as next
use Rattle.live_tx.specs.Telling.{events_after}

abbrev pub error_of_phase : Phase → Option (Option ErrorName)
error_of_phase phase.Active = None
error_of_phase phase.Inactive = None
error_of_phase phase.Committing = None
error_of_phase phase.Committed = None
error_of_phase (phase.Aborted error) = Some error

abbrev pub kind_of_entry : {D : Type 0} → ListEntry D → Next
kind_of_entry (Request request call handler) = next.Request
kind_of_entry (CursorTurn number call) = next.Turn
kind_of_entry (Change call) = next.Change

abbrev pub first_kind : {D : Type 0} → List (ListEntry D) → Next
first_kind [] = next.Nothing
first_kind (entry ∷ entries) = kind_of_entry entry

abbrev pub event_of : ℕ → Reply → Option Event
event_of number PastLimit = None
event_of number (Answered value) = Some (Success number value)
event_of number Failed = Some (Error number ConstraintError)

-- ---- an entry
-- taken off the list of the state
pub record Results {D : Type 0} (state : State D) (entry : ListEntry D) (event : Event) (new : State D) : Type 0 where
  pub number : ℕ
  pub result : Option Tree
  pub came : came state entry ≡ resulted new number result
  pub tells : Tells number result event

abbrev pub rest_of : {D : Type 0} → State D → State D
rest_of state = with_entries state (drop 1 state.front.waiting)

-- it isn't run, and what was begun of it can be undone
pub record HasStopped {D : Type 0} (old : State D) (entry : ListEntry D) (error : ErrorName) (course : CourseData) : Type 0 where
  pub came : came (rest_of old) entry ≡ stopped error
  pub kept : restored course ≡ restored (course_in old)

abbrev pub RequestCame : {D : Type 0} → State D → ListEntry D → Option Event → CourseData → Type 0
RequestCame old entry None course = HasStopped old entry QuotaExceededError course
RequestCame old entry (Some event) course = Results (rest_of old) entry event (state_with (rest_of old).front course)

pub record FirstCame {D : Type 0} (old : State D) (event : Option Event) (course : CourseData) : Type 0 where
  pub entry : ListEntry D
  pub first : old.front.waiting ≡ entry ∷ drop 1 old.front.waiting
  pub came : RequestCame old entry event course

abbrev pub ChangeCame : {D : Type 0} → State D → ListEntry D → Option ErrorName → CourseData → Type 0
ChangeCame old entry None course = came (rest_of old) entry ≡ took_effect (state_with (rest_of old).front course)
ChangeCame old entry (Some error) course = HasStopped old entry error course

pub record FirstChanged {D : Type 0} (old : State D) (stop : Option ErrorName) (course : CourseData) : Type 0 where
  pub entry : ListEntry D
  pub first : old.front.waiting ≡ entry ∷ drop 1 old.front.waiting
  pub came : ChangeCame old entry stop course

-- ---- handlers
pub record CancelsInto {D L : Type 0} (reacts : Reacts D) (writes : Writes D L) (front : Front D) (error : Option ErrorName) (last : Front D) (before after : List L) (told_before told_after : List Event) : Type 0 where
  pub lines : List L
  pub cancels : Cancels reacts writes front.waiting (aborted_by error front) last lines
  pub added : after ≡ before ++ lines
  pub told : told_after ≡ told_before ++ abort_events front.waiting

pub record AnswersInto {D L : Type 0} (reacts : Reacts D) (writes : Writes D L) (state : State D) (entry : ListEntry D) (event : Event) (step : Step) (new : State D) (before after : List L) (told_before told_after : List Event) : Type 0 where
  pub last : Front D
  pub how : HandlerEnd
  pub event_lines : List L
  pub abort_lines : List L
  pub handled : Handles reacts writes state.front entry event last how event_lines
  pub ended : EndsAs reacts writes (verdict last.phase event how) (record state { front = last }) step new abort_lines
  pub added : after ≡ before ++ (event_lines ++ abort_lines)
  pub told : told_after ≡ told_before ++ event ∷ events_after (verdict last.phase event how) last
