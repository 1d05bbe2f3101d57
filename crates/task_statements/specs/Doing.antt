-- What a statement of a task makes of an office.
--     OfficeDid, OfficeDoes it does what it does to the client, and the desk makes its steps at once
--     office_at             the office of these blocks, this client, and this run
--     DidInto               the same, with what was noted
--     own_conn              the connection that is named, where it is one of the client's
--     AsksInto, ClosesInto  an open or a delete was asked;  a connection was closed, where the desk takes that
--     BeginsInto            the body of a transaction ran
--     CreatesInto           a transaction was created
use Rattle.std.specs.Prelude.{◌≡◌, ℕ, false, List, [], ◌∷◌, ◌++◌, Option, Some, None, if◌then◌else◌}
use Rattle.idb_keys.specs.declared.names.ErrorName.{ErrorName}
use Rattle.idb_schema.specs.Schemas.{SchemaData}
use Rattle.item_changes.specs.Items.{Name}
use Rattle.name_queues.specs.declared.ids.ConnId.{ConnId}
use Rattle.name_queues.specs.declared.asks.Wants.{Wants}
use Rattle.desk_steps.specs.declared.steps.DeskStep.{DeskStep}
use Rattle.desk_steps.specs.declared.steps.DeskStep.TheVariants as step
use Rattle.idb_desk.specs.Refusals.{is_allowed, refusal_of_step}
use Rattle.idb_desk.specs.Steps.{DeskRun, desk_run, with_step}
use Rattle.connection_queues.specs.Machine.{schema_of}
use Rattle.request_lists.specs.Fronts.{Front, new_front}
use Rattle.report_lines.specs.declared.lines.Line.TheVariants as line
use Rattle.script_statements.specs.declared.script.Block.{Block as Named}
use Rattle.script_statements.specs.declared.statement.Stmt.{Stmt}
use Rattle.script_runs.specs.declared.environments.Env.{Env}
use Rattle.script_runs.specs.declared.notes.Note.{Note}
use Rattle.script_runs.specs.declared.notes.Note.TheVariants as note
use Rattle.script_runs.specs.declared.worlds.RunEnd.{RunEnd}
use Rattle.script_handlers.specs.Handling.{Script, BodyRuns}
use Rattle.script_runs.specs.Going.{Does, DoesInto}
use Rattle.client_machine.specs.Acts.{Act, notes_of_act}
use Rattle.client_machine.specs.Answering.{MadeAtOnce}
use Rattle.client_machine.specs.ClientStates.{OpenAsked, ClientTx, ClientState, is_clients, id_of, with_open, with_tx}
use Rattle.client_machine.specs.TaskRuns.{TaskDoes, names_once, own_tx, body_left}
use Rattle.client_seats.specs.Seating.{ask_step}
use Rattle.task_statements.specs.Offices.{OfficeState}
use Rattle.task_statements.specs.declared.creating.TxAsked.{TxAsked}

pub record OfficeDid (w : OfficeState) (env : Env) (statement : Stmt) (acts : List Act) (after : OfficeState) (refusal : Option ErrorName) : Type 0 where
  pub did : TaskDoes w.blocks w.client env statement acts after.client refusal
  pub made : MadeAtOnce w.client.number w.run acts after.run
  pub number : after.client.number ≡ w.client.number
  pub same : after.blocks ≡ w.blocks

-- the blocks are those of the office
abbrev pub OfficeDoes : Does OfficeState Act
OfficeDoes shared w env statement acts after refusal = OfficeDid w env statement acts after refusal

abbrev pub office_at : List Named → ClientState → DeskRun → OfficeState
office_at blocks c r = record { blocks = blocks; client = c; run = r }

-- what was noted was added to the notes
abbrev pub DidInto : List Named → ClientState → DeskRun → Env → Stmt → List Note → ClientState → DeskRun → Option ErrorName → List Note → Type 0
DidInto blocks c r env statement before new last refusal after = DoesInto notes_of_act (OfficeDid) (office_at blocks c r) env statement before (office_at blocks new last) refusal after

abbrev pub own_conn : ClientState → Option ℕ → Option ConnId
own_conn c None = None
own_conn c (Some request) = if is_clients c request then Some (id_of c request) else None

-- ---- opens, deletes and closes
-- the desk took it, or refused it
pub data AsksInto (c : ClientState) (r : DeskRun) (wants : Wants) (o : OpenAsked) (new : ClientState) (last : DeskRun) : Option ErrorName → Type 0 where
  TookAsk : new ≡ with_open c o → last ≡ with_step r (ask_step c o wants) → AsksInto c r wants o new last None
  RefusedAsk : (name : ErrorName) → new ≡ c → last ≡ r → refusal_of_step (desk_run r) (ask_step c o wants) ≡ Some name → AsksInto c r wants o new last (Some name)

pub data ClosesInto (r : DeskRun) (who : ConnId) (last : DeskRun) : Type 0 where
  TookClose : last ≡ with_step r (step.Closes who) → ClosesInto r who last
  LeftClose : last ≡ r → is_allowed (desk_run r) (step.Closes who) ≡ false → ClosesInto r who last

-- ---- transactions
-- the names of its scope, each once
abbrev pub scope_asked : TxAsked → List Name
scope_asked asked = names_once [] asked.scope

pub record BeginsInto (blocks : List Named) (number : ℕ) (schema : SchemaData) (env : Env) (asked : TxAsked) (before : List Note) (tx : ClientTx) (after : List Note) : Type 0 where
  pub notes : List Note
  pub front : Front Script
  pub how : RunEnd
  pub runs : BodyRuns blocks number asked.body env (new_front asked.mode schema (scope_asked asked)) notes front how
  pub made : tx ≡ own_tx number asked.complete asked.abort env (body_left asked.mode schema (scope_asked asked) front how)
  pub lines : after ≡ before ++ note.Line (line.Created number asked.mode asked.durability) ∷ notes

abbrev pub create_step : DeskRun → TxAsked → DeskStep
create_step r asked = step.Creates (desk_run r).board.scopes.next asked.who (scope_asked asked) asked.mode asked.durability

pub data CreatesInto (blocks : List Named) (c : ClientState) (r : DeskRun) (env : Env) (asked : TxAsked) (before : List Note) (new : ClientState) (last : DeskRun) : Option ErrorName → List Note → Type 0 where
  TookCreate : (schema : SchemaData) (tx : ClientTx) (after : List Note) → schema_of (desk_run r).queues asked.who ≡ Some schema → BeginsInto blocks (desk_run r).board.scopes.next schema env asked before tx after
      → new ≡ with_tx c tx → last ≡ with_step r (create_step r asked) → CreatesInto blocks c r env asked before new last None after
  RefusedCreate : (name : ErrorName) → new ≡ c → last ≡ r → refusal_of_step (desk_run r) (create_step r asked) ≡ Some name → CreatesInto blocks c r env asked before new last (Some name) before
