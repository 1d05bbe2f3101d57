-- The list machine of a transaction (Indexed Database API 3.0, "transaction lifetime", "fire a success event", "fire an error event" and
-- "abort a transaction"). It is the same for every handler, which is a relation; all else is determined.
--     Reacts, Writes        what a handler of plain data D does to itself and the front, and which lines it writes
--     handler_in, lent, returned      the handler of an entry;  the front while it is called, and after
--     Handles               the event of an entry is handled
--     Tells                 the event that tells a result, or ConstraintError where there is none
--     verdict               whether the transaction goes on after an event, or with which error it aborts
--     Cancels               each entry that is left is told that the transaction aborted, in order
--     Aborts                the database before is back, and then the entries are told
--     RunsFirst, TurnAt, Turn       one turn
--     GoesOn, Runs          turns that go on;  and the one that ends the run
use Rattle.std.specs.Prelude.{◌≡◌, ◌≢◌, ℕ, Bool, true, false, List, [], ◌∷◌, ◌++◌, Option, Some, None}
use Rattle.clone_values.specs.Tree.{Tree}
use Rattle.clone_values.specs.View.{tree_of}
use Rattle.idb_keys.specs.declared.names.ErrorName.{ErrorName}
use Rattle.idb_keys.specs.declared.names.ErrorName.TheVariants.{AbortError, ConstraintError}
use Rattle.idb_schema.specs.declared.calls.SchemaCall.{SchemaCall}
use Rattle.idb_calls.specs.declared.events.Event.{Event}
use Rattle.idb_calls.specs.declared.events.Event.TheVariants.{Success, Error}
use Rattle.request_lists.specs.declared.entries.ListEntry.{ListEntry}
use Rattle.request_lists.specs.declared.entries.ListEntry.TheVariants.{Request, Turn as CursorTurn, Change}
use Rattle.request_lists.specs.declared.entries.Phase.{Phase}
use Rattle.request_lists.specs.declared.entries.Phase.TheVariants as phase
use Rattle.request_lists.specs.declared.handlers.HandlerEnd.{HandlerEnd}
use Rattle.request_lists.specs.declared.handlers.HandlerEnd.TheVariants as end
use Rattle.request_lists.specs.Fronts.{Front, handler_of}
use Rattle.request_lists.specs.Running.{awake, with_handler_lent, with_handler_returned}
use Rattle.request_lists.specs.Placing.{Becomes, aborted_by, after_rest}
use Rattle.list_machine.specs.declared.steps.Step.{Step}
use Rattle.list_machine.specs.declared.steps.Step.TheVariants.{Did, Idle, Aborted}
use Rattle.list_machine.specs.States.{State}
use Rattle.list_machine.specs.Entries.{Came, stopped, took_effect, resulted, came}

-- ---- handlers
-- the handler, the front and the event before, and the handler, the front and how the handler ended after
abbrev pub Reacts : Type 0 → Type 1
Reacts D = D → Front D → Event → D → Front D → HandlerEnd → Type 0

abbrev pub Writes : Type 0 → Type 0 → Type 1
Writes D L = D → Front D → Event → List L → Type 0

-- of a cursor's request it stands with the cursor
abbrev pub handler_in : {D : Type 0} → Front D → ListEntry D → Option D
handler_in front (Request request call handler) = Some handler
handler_in front (CursorTurn number call) = handler_of front.cursors number
handler_in front (Change call) = None

-- The front is active for a handler, unless it is committing or finished. While a cursor's handler is called it is not in the front.
abbrev pub lent : {D : Type 0} → Front D → ListEntry D → Front D
lent front (Request request call handler) = awake front
lent front (CursorTurn number call) = with_handler_lent number (awake front)
lent front (Change call) = awake front

abbrev pub returned : {D : Type 0} → Front D → ListEntry D → D → Front D
returned front (Request request call own) handler = after_rest front
returned front (CursorTurn number call) handler = after_rest (with_handler_returned number handler front)
returned front (Change call) handler = after_rest front

-- What the handler leaves of the front is what its calls make of it. Where memory ran out nothing is said.
pub record Handles {D L : Type 0} (reacts : Reacts D) (writes : Writes D L) (front : Front D) (entry : ListEntry D) (event : Event) (last : Front D) (how : HandlerEnd) (lines : List L) : Type 0 where
  pub handler : D
  pub is_handler : handler_in front entry ≡ Some handler
  pub after : D
  pub mid : Front D
  pub reacted : reacts handler (lent front entry) event after mid how
  pub grew : Becomes (lent front entry) mid
  pub written : writes handler (lent front entry) event lines
  pub back : last ≡ returned mid entry after
  pub whole : how ≢ end.NoMemory

-- ---- events
abbrev pub Tells : ℕ → Option Tree → Event → Type 0
Tells number (Some result) (Success request value) = (request ≡ number) × (tree_of value ≡ result)
Tells number None (Error request name) = (request ≡ number) × (name ≡ ConstraintError)
Tells number (Some result) (Error request name) = ⊥
Tells number None (Success request value) = ⊥

-- the request's own error, unless the handler prevented it
abbrev pub error_left : Event → Bool → Option ErrorName
error_left (Success request result) prevented = None
error_left (Error request name) true = None
error_left (Error request name) false = Some name

abbrev pub aborts_with : Option ErrorName → Option (Option ErrorName)
aborts_with None = None
aborts_with (Some error) = Some (Some error)

abbrev pub verdict_of_end : Event → HandlerEnd → Option (Option ErrorName)
verdict_of_end event (end.Returned prevented) = aborts_with (error_left event prevented)
verdict_of_end event end.Threw = Some (Some AbortError)
verdict_of_end event end.NoMemory = None

-- where the script aborted its error stands, which is none
abbrev pub verdict : Phase → Event → HandlerEnd → Option (Option ErrorName)
verdict phase.Active event how = verdict_of_end event how
verdict phase.Inactive event how = verdict_of_end event how
verdict phase.Committing event how = verdict_of_end event how
verdict phase.Committed event how = verdict_of_end event how
verdict (phase.Aborted error) event how = Some error

-- ---- aborting
-- the number of the request that the entry is of; a call of an upgrade has none
abbrev pub number_in : {D : Type 0} → ListEntry D → Option ℕ
number_in (Request request call handler) = Some request
number_in (CursorTurn number call) = Some number
number_in (Change call) = None

abbrev pub with_waiting : {D : Type 0} → Front D → List (ListEntry D) → Front D
with_waiting front entries = record front { waiting = entries }

pub data Cancels {D L : Type 0} (reacts : Reacts D) (writes : Writes D L) : List (ListEntry D) → Front D → Front D → List L → Type 0 where
  CancelsNone : (front : Front D) → Cancels reacts writes [] front (with_waiting front []) []
  CancelsFirst : (entry : ListEntry D) (entries : List (ListEntry D)) (front mid last : Front D) (number : ℕ) (how : HandlerEnd) (first rest : List L) → number_in entry ≡ Some number
      → Handles reacts writes (with_waiting front entries) entry (Error number AbortError) mid how first → Cancels reacts writes entries mid last rest → Cancels reacts writes (entry ∷ entries) front last (first ++ rest)
  CancelsChange : (call : SchemaCall) (entries : List (ListEntry D)) (front last : Front D) (rest : List L)
      → Cancels reacts writes entries front last rest → Cancels reacts writes (Change call ∷ entries) front last rest

-- the entries that wait are told when the database before is back; nothing is changed then
pub record Aborts {D L : Type 0} (reacts : Reacts D) (writes : Writes D L) (old : State D) (error : Option ErrorName) (new : State D) (lines : List L) : Type 0 where
  pub last : Front D
  pub told : Cancels reacts writes old.front.waiting (aborted_by error old.front) last lines
  pub back : new ≡ record old { front = last; database = old.before; changes = [] }

-- ---- one turn
abbrev pub EndsAs : {D L : Type 0} → Reacts D → Writes D L → Option (Option ErrorName) → State D → Step → State D → List L → Type 0
EndsAs reacts writes None state step new lines = (step ≡ Did) × (new ≡ state) × (lines ≡ [])
EndsAs reacts writes (Some error) state step new lines = (step ≡ Aborted error) × Aborts reacts writes state error new lines

-- the event of a request that has its result is handled, and then the transaction goes on or aborts
pub record Answers {D L : Type 0} (reacts : Reacts D) (writes : Writes D L) (state : State D) (entry : ListEntry D) (number : ℕ) (result : Option Tree) (step : Step) (new : State D) (lines : List L) : Type 0 where
  pub event : Event
  pub tells : Tells number result event
  pub last : Front D
  pub how : HandlerEnd
  pub event_lines : List L
  pub abort_lines : List L
  pub handled : Handles reacts writes state.front entry event last how event_lines
  pub ended : EndsAs reacts writes (verdict last.phase event how) (record state { front = last }) step new abort_lines
  pub all_lines : lines ≡ event_lines ++ abort_lines

-- an entry that isn't run waits still
abbrev pub Ensues : {D L : Type 0} → Reacts D → Writes D L → State D → ListEntry D → Came D → Step → State D → List L → Type 0
Ensues reacts writes old entry (stopped error) step new lines = (step ≡ Aborted (Some error)) × Aborts reacts writes old (Some error) new lines
Ensues reacts writes old entry (took_effect state) step new lines = (step ≡ Did) × (new ≡ state) × (lines ≡ [])
Ensues reacts writes old entry (resulted state number result) step new lines = Answers reacts writes state entry number result step new lines

abbrev pub with_entries : {D : Type 0} → State D → List (ListEntry D) → State D
with_entries state entries = record state { front = with_waiting state.front entries }

abbrev pub TurnAt : {D L : Type 0} → Reacts D → Writes D L → State D → List (ListEntry D) → Step → State D → List L → Type 0
TurnAt reacts writes old [] step new lines = (step ≡ Idle) × (new ≡ old) × (lines ≡ [])
TurnAt reacts writes old (entry ∷ entries) step new lines = Ensues reacts writes old entry (came (with_entries old entries) entry) step new lines

-- a front that was aborted, by its body, runs no entry
abbrev pub TurnIn : {D L : Type 0} → Reacts D → Writes D L → Phase → State D → Step → State D → List L → Type 0
TurnIn reacts writes phase.Active old step new lines = TurnAt reacts writes old old.front.waiting step new lines
TurnIn reacts writes phase.Inactive old step new lines = TurnAt reacts writes old old.front.waiting step new lines
TurnIn reacts writes phase.Committing old step new lines = TurnAt reacts writes old old.front.waiting step new lines
TurnIn reacts writes phase.Committed old step new lines = TurnAt reacts writes old old.front.waiting step new lines
TurnIn reacts writes (phase.Aborted error) old step new lines = (step ≡ Aborted error) × Aborts reacts writes old error new lines

abbrev pub Turn : {D L : Type 0} → Reacts D → Writes D L → State D → Step → State D → List L → Type 0
Turn reacts writes old step new lines = TurnIn reacts writes old.front.phase old step new lines

-- ---- a run
-- by any number of turns, none of which ended it
pub data GoesOn {D L : Type 0} (reacts : Reacts D) (writes : Writes D L) (old : State D) : State D → List L → Type 0 where
  Begins : GoesOn reacts writes old old []
  Goes : (mid last : State D) (first rest : List L) → GoesOn reacts writes old mid first → Turn reacts writes mid Did last rest → GoesOn reacts writes old last (first ++ rest)

-- the last turn found no entry, or the transaction aborted
pub record Runs {D L : Type 0} (reacts : Reacts D) (writes : Writes D L) (old : State D) (step : Step) (new : State D) (lines : List L) : Type 0 where
  pub mid : State D
  pub first : List L
  pub rest : List L
  pub goes : GoesOn reacts writes old mid first
  pub ends : Turn reacts writes mid step new rest
  pub is_end : step ≢ Did
  pub all_lines : lines ≡ first ++ rest
