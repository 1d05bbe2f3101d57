-- A transaction is run to its end.
--     begun_run, one_turn_more      a transaction that runs, before its first turn;  with one turn more
--     run_seen              as the transaction that is run shows it
--     outcome_in_doubt               how a transaction ends whose commit met a fault
--     left_items            what a transaction with this outcome and these changes leaves
--     LeavesSound           what it leaves can be logged
--     TurnLeads, EndLeads   what a turn leads to, whose handlers wrote these last of the notes;  and what its finish leads to
--     DoubtLeads            what the finish of one leads to whose commit met a fault
--     DropLeads             what the finish of one leads to that never started
--     IsRunSo               the one that runs is at its end, and is told so
--     IsClosed              with its part of the databases, which lack it
--     ClosesAtEnd, StandsClosed      it came to be so;  and its client stands so
--     RunsOnInto            it ran on, and its client with it
--     HasSureEnd            it came to its end, and isn't in doubt
--     FinishedWith          one more is noted as finished
--     HoldsTx               the client has it, started
--     HoldsBegun            it began with this body, and its client has no task
--     IsDue                 the least transaction is one of the client's that waits
--     IsDropped             it is due, and its body aborted it, or the host is faulted
--     EndsBody              a transaction that never starts is told so, in these turns
--     BookGoesOn            a session's book is that of the same session, its disk counted the fault at which it stopped, if any, and
--                           wasn't started again
use Rattle.std.specs.Prelude.{◌≡◌, ◌⊎◌, ◌<◌, ◌≤◌, ℕ, Bool, true, false, length, ◌&&◌, List, [], ◌∷◌, ◌++◌, Option, Some, None, is_some, if◌then◌else◌}
use Rattle.edge_traits.specs.Faults.{Rose}
use Rattle.disk_trait.specs.Disk.{DiskView}
use Rattle.idb_keys.specs.declared.names.ErrorName.TheVariants.{UnknownError}
use Rattle.idb_schema.specs.Schemas.{SchemaData}
use Rattle.idb_calls.specs.Deltas.{DeltaTree}
use Rattle.idb_calls.specs.declared.traces.Outcome.{Outcome}
use Rattle.idb_calls.specs.declared.traces.Outcome.TheVariants.{Aborted}
use Rattle.idb_calls.specs.declared.traces.TxTrace.{TxTrace}
use Rattle.idb_desk.specs.Durabilities.{durability_drawn}
use Rattle.idb_desk.specs.Refusals.{is_allowed}
use Rattle.desk_steps.specs.declared.steps.DeskStep.TheVariants as step
use Rattle.idb_desk.specs.Steps.{DeskRun, desk_run}
use Rattle.item_changes.specs.Items.{Items}
use Rattle.item_changes.specs.Effects.{applied_all}
use Rattle.item_changes.specs.Scopes.{part_of}
use Rattle.serial_order.specs.FinishEntries.{ScriptedBody, TxBody, Scripted, scope_of_body, did_commit}
use Rattle.serial_order.specs.SerialRuns.{joined_lines, RunsOn, NeverStarts}
use Rattle.serial_order.specs.NumberOrder.{FitsItems}
use Rattle.log_history.specs.Replayed.{are_unbroken}
use Rattle.script_runs.specs.declared.notes.Note.{Note}
use Rattle.script_handlers.specs.Handling.{Script, ScriptReacts, ScriptWrites}
use Rattle.client_machine.specs.ClientStates.{ClientTx, ClientState, tx_at}
use Rattle.client_machine.specs.ClientSteps.{may_begin}
use Rattle.client_ties.specs.Unfinished.{least_of}
use Rattle.legal_sessions.specs.Legal.{is_in_doubt, may_write}
use Rattle.session_states.specs.Telling.{RunningTx}
use Rattle.client_tasks.specs.Offices.{OfficeState}
use Rattle.session_databases.specs.Parts.{without_part}
use Rattle.session_txs.specs.Running.{SessionTxState, PartState}
use Rattle.session_books.specs.States.{SessionBookState}
use Rattle.session_books.specs.Entering.{is_commit}
use Rattle.office_scenes.specs.Measures.{beyond_memory}
use Rattle.office_scenes.specs.Scenes.{DoneNow, met_fault, scene_of, LeadsTo, StandsOn, with_finish_of, with_number}

abbrev pub begun_run : ℕ → TxBody Script → RunningTx
begun_run number body = record { number = number; body = body; turns = [] }

abbrev pub one_turn_more : RunningTx → List Note → RunningTx
one_turn_more t lines = record t { turns = t.turns ++ lines ∷ [] }

abbrev pub run_seen : SessionTxState → RunningTx
run_seen tx = record { number = tx.number; body = Scripted tx.body; turns = tx.turns }

-- its commit met a fault of the disk
abbrev pub outcome_in_doubt : Outcome
outcome_in_doubt = Aborted (Some UnknownError) true

abbrev pub left_items : Items → Outcome → List DeltaTree → Items
left_items items outcome changes = applied_all items (if did_commit outcome then changes else [])

-- it was made by the schema of its part of the databases, and no unique index is broken behind it
pub record LeavesSound (body : TxBody Script) (outcome : Outcome) (changes : List DeltaTree) (items : Items) : Type 0 where
  pub fits : FitsItems (part_of (scope_of_body body) items) body
  pub unbroken : are_unbroken (left_items items outcome changes) ≡ true

pub record TurnLeads (number : ℕ) (old : OfficeState) (lines : List Note) (new : OfficeState) : Type 0 where
  pub goes : (t : RunningTx) (before : List Note) (done : DoneNow) (items : Items) → t.number ≡ number → LeadsTo (Some t) (Some (one_turn_more t lines)) (scene_of old before done items) (scene_of new (before ++ lines) done items)

pub record EndLeads (number : ℕ) (outcome : Outcome) (kept : Option SchemaData) (old : OfficeState) (before : List Note) (new : OfficeState) (after : List Note) : Type 0 where
  pub goes : (t : RunningTx) (changes : List DeltaTree) (done : DoneNow) (items : Items) → t.number ≡ number
      → RunsOn ScriptReacts ScriptWrites (part_of (scope_of_body t.body) items) t.body t.turns changes kept false outcome → is_in_doubt outcome ≡ false
      → LeavesSound t.body outcome changes items
      → LeadsTo (Some t) None (scene_of old before done items) (scene_of new after (with_finish_of done old.run number (did_commit outcome && may_write t.body) false changes) (left_items items outcome changes))

pub record DoubtLeads (number : ℕ) (old : OfficeState) (before : List Note) (new : OfficeState) (after : List Note) : Type 0 where
  pub goes : (t : RunningTx) (changes : List DeltaTree) (done : DoneNow) (items : Items) → t.number ≡ number
      → RunsOn ScriptReacts ScriptWrites (part_of (scope_of_body t.body) items) t.body t.turns changes None false outcome_in_doubt → may_write t.body ≡ true
      → LeadsTo (Some t) None (scene_of old before done items) (scene_of new after (with_finish_of done old.run number false true changes) items)

pub record DropLeads (number : ℕ) (old : OfficeState) (before : List Note) (new : OfficeState) (after : List Note) : Type 0 where
  pub goes : (done : DoneNow) (items : Items) → LeadsTo None None (scene_of old before done items) (scene_of new after (with_number number done) items)

-- ---- at its end
-- by the office where it ran, before it leaves the desk
pub record IsRunSo (t : RunningTx) (items : Items) (office : OfficeState) (trace : TxTrace) (kept : Option SchemaData) : Type 0 where
  pub number_is : trace.number ≡ t.number
  pub commit : is_commit trace ≡ (did_commit trace.outcome && may_write t.body)
  pub durability : trace.durability ≡ durability_drawn office.run.order t.number
  pub ran : RunsOn ScriptReacts ScriptWrites (part_of (scope_of_body t.body) items) t.body t.turns trace.deltas kept false trace.outcome
  pub in_doubt : did_commit trace.outcome ≡ true → RunsOn ScriptReacts ScriptWrites (part_of (scope_of_body t.body) items) t.body t.turns trace.deltas None false outcome_in_doubt
  pub sure : is_in_doubt trace.outcome ≡ false
  pub fits : FitsItems (part_of (scope_of_body t.body) items) t.body

pub record IsClosed (t : RunningTx) (items : Items) (office : OfficeState) (rest : Items) (trace : TxTrace) (kept : Option SchemaData) (left : PartState) : Type 0 where
  pub runs : IsRunSo t items office trace kept
  pub part : left.part ≡ part_of left.scope items
  pub changes : left.changes ≡ (if did_commit trace.outcome then trace.deltas else [])
  pub rest_is : rest ≡ without_part left.scope items

-- it ran on its part of the databases to its end
pub record ClosesAtEnd (number : ℕ) (body : ScriptedBody Script) (old : OfficeState) (before : List Note) (items : Items) (new : OfficeState) (after : List Note) (rest : Items) (trace : TxTrace) (kept : Option SchemaData) (left : PartState) : Type 0 where
  pub t : RunningTx
  pub number_is : t.number ≡ number
  pub goes : (done : DoneNow) → LeadsTo (Some (begun_run number (Scripted body))) (Some t) (scene_of old before done items) (scene_of new after done items)
  pub closed : IsClosed t items new rest trace kept left

-- and its client stands so
pub record StandsClosed (t : RunningTx) (items : Items) (number : ℕ) (office : OfficeState) (notes : List Note) (done : DoneNow) (rest : Items) (trace : TxTrace) (kept : Option SchemaData) (left : PartState) : Type 0 where
  pub number_is : t.number ≡ number
  pub on : StandsOn (Some t) (scene_of office notes done items)
  pub closed : IsClosed t items office rest trace kept left

pub record RunsOnInto (old : OfficeState) (before : List Note) (tx : SessionTxState) (new : OfficeState) (after : List Note) (last : SessionTxState) : Type 0 where
  pub number : last.number ≡ tx.number
  pub body : last.body ≡ tx.body
  pub part : last.part ≡ tx.part
  pub goes : (done : DoneNow) (items : Items) → LeadsTo (Some (run_seen tx)) (Some (run_seen last)) (scene_of old before done items) (scene_of new after done items)

pub record HasSureEnd (tx : SessionTxState) : Type 0 where
  pub outcome : Outcome
  pub end : tx.end ≡ Some outcome
  pub sure : is_in_doubt outcome ≡ false

pub record FinishedWith (old : DoneNow) (number : ℕ) (new : DoneNow) : Type 0 where
  pub finish : new.finish ≡ old.finish ++ number ∷ []
  pub few : length new.finish < beyond_memory

-- ---- what its client holds
pub record HoldsTx (office : OfficeState) (number : ℕ) : Type 0 where
  pub tx : ClientTx
  pub found : tx_at office.client number ≡ Some tx
  pub started : tx.started ≡ true

pub record HoldsBegun (office : OfficeState) (number : ℕ) (body : TxBody Script) : Type 0 where
  pub idle : office.client.tasks ≡ []
  pub held : HoldsTx office number
  pub body_is : held.tx.body ≡ body

-- ---- its turn
-- the least transaction is one of the client's that waits, and the desk lets it start unless the host is faulted
pub record IsDue (r : DeskRun) (c : ClientState) (number : ℕ) : Type 0 where
  pub tx : ClientTx
  pub idle : c.tasks ≡ []
  pub found : tx_at c number ≡ Some tx
  pub waits : tx.started ≡ false
  pub allowed : (desk_run r).board.is_faulted ≡ false → is_allowed (desk_run r) (step.Starts c.number number) ≡ true
  pub least : least_of (desk_run r) ≡ Some number

-- ---- without starting
pub record IsDropped (office : OfficeState) (number : ℕ) : Type 0 where
  pub due : IsDue office.run office.client number
  pub why : ((desk_run office.run).board.is_faulted ≡ true) ⊎ (may_begin due.tx.body ≡ false)

pub record EndsBody (body : TxBody Script) (outcome : Outcome) (before after : List Note) : Type 0 where
  pub turns : List (List Note)
  pub by_host : Bool
  pub never : NeverStarts ScriptReacts ScriptWrites body turns [] None by_host outcome
  pub added : after ≡ before ++ joined_lines turns

-- ---- the book
pub record BookGoesOn {D : Type 0} (shows : D → DiskView) (old new : SessionBookState D) : Type 0 where
  pub opening : new.opening ≡ old.opening
  pub rose : met_fault old.end ≡ false → met_fault new.end ≡ true → Rose (shows old.log.disk).faults (shows new.log.disk).faults
  pub count : (shows old.log.disk).faults ≤ (shows new.log.disk).faults
  pub started : (shows new.log.disk).starts ≡ (shows old.log.disk).starts
  pub told : is_some (shows new.log.disk).reads ≡ is_some (shows old.log.disk).reads
