-- The client machine: what a client may do next.
--     event_line, event_block, event_env    of an event of an open or a delete: its line, the block for it, and that block's environment
--     Meets                 an event that was taken is met
--     EndsTx                a transaction ends: its line, and then the block for it
--     ClientStep            one step: its oldest task; else an event, a start, a turn or a finish
--     ClientRuns            any number of them
use Rattle.std.specs.Prelude.{◌≡◌, ℕ, pos, Bool, true, false, not, ◌&&◌, ◌||◌, List, [], ◌∷◌, ◌++◌, map, Option, Some, None, unwrap_or, codes}
use Rattle.clone_values.specs.Tree.{int, text}
use Rattle.idb_keys.specs.Names.{error_name}
use Rattle.idb_keys.specs.declared.names.ErrorName.{ErrorName}
use Rattle.idb_keys.specs.declared.names.Mode.TheVariants as mode
use Rattle.idb_schema.specs.Schemas.{SchemaData}
use Rattle.idb_calls.specs.declared.traces.Outcome.{Outcome}
use Rattle.idb_calls.specs.declared.traces.Outcome.TheVariants.{Committed, Aborted}
use Rattle.item_changes.specs.Items.{Name}
use Rattle.name_queues.specs.declared.ids.ConnId.{ConnId}
use Rattle.name_queues.specs.declared.events.ClientEvent.{ClientEvent}
use Rattle.name_queues.specs.declared.events.ClientEvent.TheVariants as event
use Rattle.name_queues.specs.Mails.{conn_of}
use Rattle.desk_steps.specs.declared.steps.DeskStep.TheVariants as step
use Rattle.request_lists.specs.declared.entries.Phase.{Phase}
use Rattle.request_lists.specs.declared.entries.Phase.TheVariants as phase
use Rattle.request_lists.specs.Fronts.{Front, new_front}
use Rattle.report_lines.specs.declared.lines.Line.{Line}
use Rattle.report_lines.specs.declared.lines.Line.TheVariants as line
use Rattle.serial_order.specs.FinishEntries.{ScriptedBody, TxBody, Scripted, Deletion, front_left}
use Rattle.serial_order.specs.SerialRuns.{joined_lines}
use Rattle.script_statements.specs.declared.script.Block.{Block as Named}
use Rattle.script_runs.specs.declared.environments.Env.{Env}
use Rattle.script_runs.specs.declared.notes.Task.{Task}
use Rattle.script_runs.specs.declared.notes.Note.{Note}
use Rattle.script_runs.specs.declared.notes.Note.TheVariants as note
use Rattle.script_runs.specs.declared.worlds.RunEnd.{RunEnd}
use Rattle.script_runs.specs.declared.worlds.RunEnd.TheVariants.{Went}
use Rattle.script_runs.specs.Words.{with_variable}
use Rattle.script_handlers.specs.Handling.{Script, BodyRuns}
use Rattle.client_machine.specs.Acts.{Told, Act, Noted, Makes, Fails, Begins, TakesTurn}
use Rattle.client_machine.specs.ClientStates.{OpenAsked, ClientTxKind, OwnTx, OfUpgrade, OfDeletion, ClientTx, ClientState, open_at, with_open_at, tx_at, with_tx, without_tx, with_started, with_notes}
use Rattle.client_machine.specs.TaskRuns.{RunsNow, body_left}

-- ---- events of opens and deletes
abbrev pub noted_line : Line → Act
noted_line l = Noted (note.Line l)

-- none of those that begin a transaction
abbrev pub is_plain_event : ClientEvent → Bool
is_plain_event (event.Upgrade who old new) = false
is_plain_event (event.Blocked who old new) = true
is_plain_event (event.Success who version) = true
is_plain_event (event.Error who name) = true
is_plain_event (event.VersionChange who old new) = false
is_plain_event (event.Closed who) = true
is_plain_event (event.DeleteReady who old) = false

abbrev pub blocked_line : Bool → ℕ → ℕ → Option ℕ → Line
blocked_line true request old new = line.DeleteBlocked request old
blocked_line false request old new = line.OpenBlocked request old (unwrap_or new 0)

abbrev pub success_line : Bool → ℕ → ℕ → Line
success_line true request version = line.DeleteSuccess request version
success_line false request version = line.OpenSuccess request version

abbrev pub error_line : Bool → ℕ → ErrorName → Line
error_line true request name = line.DeleteError request name
error_line false request name = line.OpenError request name

abbrev pub event_line : OpenAsked → ℕ → ClientEvent → Line
event_line o number (event.Upgrade who old new) = line.OpenUpgrade who.request old new number
event_line o number (event.Blocked who old new) = blocked_line o.is_delete who.request old new
event_line o number (event.Success who version) = success_line o.is_delete who.request version
event_line o number (event.Error who name) = error_line o.is_delete who.request name
event_line o number (event.VersionChange who old new) = line.VersionChange who.request old new
event_line o number (event.Closed who) = line.Closed who.request
event_line o number (event.DeleteReady who old) = line.DeleteTransaction who.request number

abbrev pub event_block : OpenAsked → ClientEvent → Option ℕ
event_block o (event.Upgrade who old new) = o.upgrade
event_block o (event.Blocked who old new) = o.blocked
event_block o (event.Success who version) = o.success
event_block o (event.Error who name) = o.error
event_block o (event.VersionChange who old new) = o.version_change
event_block o (event.Closed who) = o.closed
event_block o (event.DeleteReady who old) = None

-- the connection of an open is at hand in the blocks for its events
abbrev pub env_of_open : Bool → ℕ → Env → Env
env_of_open true request env = env
env_of_open false request env = record env { connection = Some request }

abbrev pub with_result : ClientEvent → Env → Env
with_result (event.Success who version) env = with_variable env (codes "result") (int (pos version))
with_result (event.Error who name) env = with_variable env (codes "error") (text (error_name name))
with_result _ env = env

abbrev pub event_env : OpenAsked → ClientEvent → Env
event_env o e = with_result e (env_of_open o.is_delete (conn_of e).request o.env)

-- from its first upgrade or success event on, the connection of an open is the client's
abbrev pub gives : ClientEvent → Bool
gives (event.Upgrade who old new) = true
gives (event.Success who version) = true
gives _ = false

abbrev pub given_by_event : ClientEvent → OpenAsked → OpenAsked
given_by_event e o = record o { is_given = (not o.is_delete && gives e) || o.is_given }

abbrev pub after_event_of : ClientState → OpenAsked → ClientEvent → ClientState
after_event_of c o e = with_open_at c (conn_of e).request (given_by_event e o)

abbrev pub upgrade_tx : ℕ → ScriptedBody Script → ClientTx
upgrade_tx number body = record { number = number; kind = OfUpgrade; body = Scripted body; started = false }

abbrev pub deletion_tx : ℕ → Name → ClientTx
deletion_tx number name = record { number = number; kind = OfDeletion; body = Deletion name; started = false }

-- the upgrade's block runs on its new front
pub data UpgradeRuns (blocks : List Named) (number : ℕ) (env : Env) (front : Front Script) : Option ℕ → List Note → Front Script → RunEnd → Type 0 where
  NoUpgradeBlock : UpgradeRuns blocks number env front None [] front Went
  UpgradeBlock : (block : ℕ) (notes : List Note) (after : Front Script) (how : RunEnd) → BodyRuns blocks number block env front notes after how → UpgradeRuns blocks number env front (Some block) notes after how

pub data Meets (blocks : List Named) (told : Told) (c : ClientState) : ClientEvent → List Act → ClientState → Type 0 where
  MeetsPlain : (e : ClientEvent) (o : OpenAsked) (acts : List Act) (last : ClientState) → is_plain_event e ≡ true → open_at c (conn_of e).request ≡ Some o
      → RunsNow blocks (after_event_of c o e) (event_env o e) (event_block o e) acts last → Meets blocks told c e (noted_line (event_line o 0 e) ∷ acts) last
  MeetsChange : (who : ConnId) (old : ℕ) (new : Option ℕ) (o : OpenAsked) (acts : List Act) (last : ClientState) (handled : Told) → open_at c who.request ≡ Some o
      → RunsNow blocks c (event_env o (event.VersionChange who old new)) o.version_change acts last
      → Meets blocks told c (event.VersionChange who old new) (noted_line (line.VersionChange who.request old new) ∷ acts ++ Makes (step.Handles c.number) handled ∷ []) last
  MeetsChangeClosed : (who : ConnId) (old : ℕ) (new : Option ℕ) (o : OpenAsked) (acts : List Act) (last : ClientState) → open_at c who.request ≡ Some o
      → RunsNow blocks c (event_env o (event.VersionChange who old new)) o.version_change acts last
      → Meets blocks told c (event.VersionChange who old new) (noted_line (line.VersionChange who.request old new) ∷ acts ++ Fails (step.Handles c.number) None ∷ []) last
  MeetsUpgrade : (who : ConnId) (old new number : ℕ) (schema : SchemaData) (o : OpenAsked) (notes : List Note) (front : Front Script) (how : RunEnd) (tx : ClientTx) → open_at c who.request ≡ Some o → told.number ≡ Some number → told.schema ≡ Some schema
      → UpgradeRuns blocks number (event_env o (event.Upgrade who old new)) (new_front mode.VersionChange schema []) o.upgrade notes front how
      → tx ≡ upgrade_tx number (body_left mode.VersionChange schema [] front how)
      → Meets blocks told c (event.Upgrade who old new) (Begins tx ∷ noted_line (line.OpenUpgrade who.request old new number) ∷ map Noted notes) (with_notes (with_tx (after_event_of c o (event.Upgrade who old new)) tx) notes)
  MeetsDeletion : (who : ConnId) (old number : ℕ) (o : OpenAsked) (tx : ClientTx) → open_at c who.request ≡ Some o → told.number ≡ Some number → tx ≡ deletion_tx number o.name
      → Meets blocks told c (event.DeleteReady who old) (Begins tx ∷ noted_line (line.DeleteTransaction who.request number) ∷ []) (with_tx c tx)

-- ---- the end of a transaction
abbrev pub end_line : ℕ → Outcome → Line
end_line number Committed = line.Complete number
end_line number (Aborted error doubt) = line.Abort number error doubt

abbrev pub end_block : Option ℕ → Option ℕ → Outcome → Option ℕ
end_block complete abort Committed = complete
end_block complete abort (Aborted error doubt) = abort

-- where the script itself aborted, the variable `error` stays as it was
abbrev pub end_env : Env → Outcome → Env
end_env env Committed = env
end_env env (Aborted None doubt) = env
end_env env (Aborted (Some name) doubt) = with_variable env (codes "error") (text (error_name name))

pub data EndsTx (blocks : List Named) (c : ClientState) (number : ℕ) (outcome : Outcome) : ClientTxKind → List Act → ClientState → Type 0 where
  EndsOwn : (complete abort : Option ℕ) (env : Env) (acts : List Act) (last : ClientState) → RunsNow blocks c (end_env env outcome) (end_block complete abort outcome) acts last
      → EndsTx blocks c number outcome (OwnTx complete abort env) (noted_line (end_line number outcome) ∷ acts) last
  EndsUpgrade : EndsTx blocks c number outcome OfUpgrade (noted_line (end_line number outcome) ∷ []) c
  EndsDeletion : EndsTx blocks c number outcome OfDeletion [] c

-- ---- steps
abbrev pub is_going : Phase → Bool
is_going phase.Active = true
is_going phase.Inactive = true
is_going phase.Committing = true
is_going phase.Committed = false
is_going (phase.Aborted error) = false

-- what its body aborted finishes without starting
abbrev pub may_begin : TxBody Script → Bool
may_begin (Scripted body) = is_going (front_left body).phase
may_begin (Deletion name) = true

abbrev pub with_tasks : ClientState → List Task → ClientState
with_tasks c tasks = record c { tasks = tasks }

-- Where it has a task, it runs the oldest. The number of turns and the outcome are those of the transaction's run.
pub data ClientStep (blocks : List Named) (c : ClientState) : List Act → ClientState → Type 0 where
  RunsTask : (t : Task) (ts : List Task) (acts : List Act) (last : ClientState) → c.tasks ≡ t ∷ ts → RunsNow blocks (with_tasks c ts) t.env (Some t.block) acts last → ClientStep blocks c acts last
  TakesEvent : (e : ClientEvent) (told : Told) (acts : List Act) (last : ClientState) → c.tasks ≡ [] → told.event ≡ Some e → Meets blocks told c e acts last → ClientStep blocks c (Makes (step.Takes c.number) told ∷ acts) last
  StartsTx : (tx : ClientTx) (number : ℕ) (told : Told) → c.tasks ≡ [] → tx_at c number ≡ Some tx → tx.started ≡ false → may_begin tx.body ≡ true → ClientStep blocks c (Makes (step.Starts c.number number) told ∷ []) (with_started c number)
  RunsTurn : (tx : ClientTx) (number : ℕ) (notes : List Note) → c.tasks ≡ [] → tx_at c number ≡ Some tx → tx.started ≡ true → ClientStep blocks c (TakesTurn number notes ∷ []) (with_notes c notes)
  FinishesTx : (tx : ClientTx) (number : ℕ) (outcome : Outcome) (kept : Option SchemaData) (told : Told) (acts : List Act) (last : ClientState) → c.tasks ≡ [] → tx_at c number ≡ Some tx → tx.started ≡ true
      → EndsTx blocks (without_tx c number) number outcome tx.kind acts last → ClientStep blocks c (Makes (step.Leaves c.number number outcome kept) told ∷ acts) last
  FinishesUnstarted : (tx : ClientTx) (number : ℕ) (turns : List (List Note)) (outcome : Outcome) (told : Told) (acts : List Act) (last : ClientState) → c.tasks ≡ [] → tx_at c number ≡ Some tx → tx.started ≡ false
      → EndsTx blocks (with_notes (without_tx c number) (joined_lines turns)) number outcome tx.kind acts last → ClientStep blocks c (map (TakesTurn number) turns ++ Makes (step.Leaves c.number number outcome None) told ∷ acts) last

pub data ClientRuns (blocks : List Named) (c : ClientState) : List Act → ClientState → Type 0 where
  Rests : ClientRuns blocks c [] c
  StepsOn : (acts more : List Act) (mid last : ClientState) → ClientRuns blocks c acts mid → ClientStep blocks mid more last → ClientRuns blocks c (acts ++ more) last
