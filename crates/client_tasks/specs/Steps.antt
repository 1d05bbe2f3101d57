-- The steps of a client in its office, one record for each kind. Each is a step of the client machine by its constructor.
--     Whether               the one where so, else the other
--     StaysAsIs             nothing was done
--     RunsTaskInto          it ran its oldest task
--     TakesEventInto        it took an event and met it
--     IsStray               the desk tells of an open that it doesn't have, or of a transaction without a number or a schema
--     StartsInto            a transaction started
--     TurnInto              a turn of a transaction was run
--     EndsInto              a transaction ended
--     FinishesInto          a transaction that had started finished
--     FinishesUnstartedInto         one that never started finished
--     can_start, can_turn, can_finish, can_drop     without a task: it may start, have a turn, finish, be taken out unstarted
use Rattle.std.specs.Prelude.{◌≡◌, ℕ, Bool, true, false, not, ◌&&◌, ◌||◌, List, [], ◌∷◌, ◌++◌, map, Option, Some, None, is_none}
use Rattle.idb_calls.specs.declared.traces.Outcome.{Outcome}
use Rattle.idb_schema.specs.Schemas.{SchemaData}
use Rattle.name_queues.specs.Mails.{conn_of}
use Rattle.name_queues.specs.declared.events.ClientEvent.{ClientEvent}
use Rattle.name_queues.specs.declared.events.ClientEvent.TheVariants as event
use Rattle.desk_steps.specs.declared.steps.DeskStep.TheVariants as step
use Rattle.idb_desk.specs.Refusals.{is_allowed, has_some}
use Rattle.idb_desk.specs.Steps.{desk_run, event_for}
use Rattle.serial_order.specs.FinishEntries.{TxBody}
use Rattle.serial_order.specs.SerialRuns.{joined_lines}
use Rattle.script_runs.specs.declared.notes.Note.{Note}
use Rattle.script_runs.specs.declared.notes.Task.{Task}
use Rattle.script_handlers.specs.Handling.{Script}
use Rattle.client_machine.specs.Acts.{Told, Act, Makes, TakesTurn}
use Rattle.client_machine.specs.Answering.{told_by}
use Rattle.client_machine.specs.ClientStates.{ClientTx, ClientTxKind, open_at, tx_at, without_tx, with_started, with_notes}
use Rattle.client_machine.specs.ClientSteps.{Meets, EndsTx, may_begin, with_tasks}
use Rattle.client_machine.specs.TaskRuns.{RunsNow}
use Rattle.client_parts.specs.Standing.{may_start_of, started_of, waits_of}
use Rattle.task_statements.specs.Offices.{OfficeState}
use Rattle.client_tasks.specs.Between.{ActsBetween}

abbrev pub Whether : Bool → Type 0 → Type 0 → Type 0
Whether true A B = A
Whether false A B = B

pub record StaysAsIs (old : OfficeState) (before : List Note) (new : OfficeState) (after : List Note) : Type 0 where
  pub office : new ≡ old
  pub notes : after ≡ before

-- ---- tasks
pub record RunsTaskInto (old : OfficeState) (before : List Note) (new : OfficeState) (after : List Note) : Type 0 where
  pub task : Task
  pub tasks : List Task
  pub acts : List Act
  pub first : old.client.tasks ≡ task ∷ tasks
  pub runs : RunsNow old.blocks (with_tasks old.client tasks) task.env (Some task.block) acts new.client
  pub follows : ActsBetween old acts before new after

-- ---- events
abbrev pub told_take : OfficeState → Told
told_take o = told_by (desk_run o.run) (step.Takes o.client.number)

pub record TakesEventInto (old : OfficeState) (before : List Note) (new : OfficeState) (after : List Note) : Type 0 where
  pub event : ClientEvent
  pub acts : List Act
  pub idle : old.client.tasks ≡ []
  pub told : (told_take old).event ≡ Some event
  pub meets : Meets old.blocks (told_take old) old.client event acts new.client
  pub follows : ActsBetween old (Makes (step.Takes old.client.number) (told_take old) ∷ acts) before new after

-- whether the event begins a transaction, and whether it has a front
abbrev pub wants_number : ClientEvent → Bool
wants_number (event.Upgrade who old new) = true
wants_number (event.Blocked who old new) = false
wants_number (event.Success who version) = false
wants_number (event.Error who name) = false
wants_number (event.VersionChange who old new) = false
wants_number (event.Closed who) = false
wants_number (event.DeleteReady who old) = true

abbrev pub wants_schema : ClientEvent → Bool
wants_schema (event.Upgrade who old new) = true
wants_schema _ = false

-- an event of an open that the client doesn't have, or that begins a transaction without a number or a schema
abbrev pub is_stray : OfficeState → ClientEvent → Bool
is_stray o e = is_none (open_at o.client (conn_of e).request) || (wants_number e && is_none (told_take o).number || wants_schema e && is_none (told_take o).schema)

pub record IsStray (o : OfficeState) : Type 0 where
  pub event : ClientEvent
  pub told : event_for (desk_run o.run) o.client.number ≡ Some event
  pub stray : is_stray o event ≡ true

-- ---- transactions
abbrev pub is_idle : OfficeState → Bool
is_idle o = not (has_some o.client.tasks)

abbrev pub can_start : OfficeState → ℕ → Bool
can_start o number = is_idle o && (may_start_of (tx_at o.client number) && is_allowed (desk_run o.run) (step.Starts o.client.number number))

pub record StartsInto (number : ℕ) (old : OfficeState) (body : TxBody Script) (new : OfficeState) : Type 0 where
  pub tx : ClientTx
  pub idle : old.client.tasks ≡ []
  pub found : tx_at old.client number ≡ Some tx
  pub waits : tx.started ≡ false
  pub begins : may_begin tx.body ≡ true
  pub given : body ≡ tx.body
  pub client : new.client ≡ with_started old.client number
  pub follows : ActsBetween old (Makes (step.Starts old.client.number number) (told_by (desk_run old.run) (step.Starts old.client.number number)) ∷ []) [] new []

abbrev pub can_turn : OfficeState → ℕ → Bool
can_turn o number = is_idle o && started_of (tx_at o.client number)

pub record TurnInto (number : ℕ) (old : OfficeState) (notes : List Note) (new : OfficeState) : Type 0 where
  pub tx : ClientTx
  pub idle : old.client.tasks ≡ []
  pub found : tx_at old.client number ≡ Some tx
  pub runs : tx.started ≡ true
  pub client : new.client ≡ with_notes old.client notes
  pub follows : ActsBetween old (TakesTurn number notes ∷ []) [] new notes

pub record EndsInto (number : ℕ) (outcome : Outcome) (kind : ClientTxKind) (old : OfficeState) (before : List Note) (new : OfficeState) (after : List Note) : Type 0 where
  pub acts : List Act
  pub ends : EndsTx old.blocks old.client number outcome kind acts new.client
  pub follows : ActsBetween old acts before new after

abbrev pub can_finish : OfficeState → ℕ → Outcome → Option SchemaData → Bool
can_finish o number outcome kept = can_turn o number && is_allowed (desk_run o.run) (step.Leaves o.client.number number outcome kept)

pub record FinishesInto (number : ℕ) (outcome : Outcome) (kept : Option SchemaData) (old : OfficeState) (before : List Note) (new : OfficeState) (after : List Note) : Type 0 where
  pub tx : ClientTx
  pub acts : List Act
  pub idle : old.client.tasks ≡ []
  pub found : tx_at old.client number ≡ Some tx
  pub ran : tx.started ≡ true
  pub ends : EndsTx old.blocks (without_tx old.client number) number outcome tx.kind acts new.client
  pub follows : ActsBetween old (Makes (step.Leaves old.client.number number outcome kept) (told_by (desk_run old.run) (step.Leaves old.client.number number outcome kept)) ∷ acts) before new after

abbrev pub can_drop : OfficeState → ℕ → Bool
can_drop o number = is_idle o && waits_of (tx_at o.client number)

-- the notes of its turns are the last of those before
pub record FinishesUnstartedInto (number : ℕ) (turns : List (List Note)) (outcome : Outcome) (old : OfficeState) (before : List Note) (new : OfficeState) (after : List Note) : Type 0 where
  pub tx : ClientTx
  pub acts : List Act
  pub idle : old.client.tasks ≡ []
  pub found : tx_at old.client number ≡ Some tx
  pub waits : tx.started ≡ false
  pub ends : EndsTx old.blocks (with_notes (without_tx old.client number) (joined_lines turns)) number outcome tx.kind acts new.client
  pub follows : ActsBetween old (map (TakesTurn number) turns ++ Makes (step.Leaves old.client.number number outcome None) (told_by (desk_run old.run) (step.Leaves old.client.number number outcome None)) ∷ acts) before new after
