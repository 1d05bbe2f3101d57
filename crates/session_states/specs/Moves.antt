-- A client of a session that moves.
--     Moves                 the client of a place did these acts: the desk made their steps at once, and it noted what they note
--     entry_ran, entry_dropped      what became of the transaction that ran;  of one that never started
--     entry_by_host         of one that never started, which the host ended since it is faulted
--     HasReady              the least unfinished transaction is one of a client's, and may start unless the host is faulted
use Rattle.std.specs.Prelude.{◌≡◌, ℕ, ◌+◌, true, false, List, [], ◌++◌, slice_get, Option, Some, None}
use Rattle.idb_schema.specs.Schemas.{SchemaData}
use Rattle.idb_calls.specs.Deltas.{DeltaTree}
use Rattle.idb_calls.specs.declared.traces.Outcome.{Outcome}
use Rattle.desk_steps.specs.declared.stands.DrawnTx.{DrawnTx}
use Rattle.desk_steps.specs.declared.steps.DeskStep.TheVariants as step
use Rattle.idb_desk.specs.Refusals.{is_allowed}
use Rattle.idb_desk.specs.Steps.{DeskRun, desk_run, IsDeskRun}
use Rattle.client_ties.specs.FinishEntries.{TxBody, FinishEntry}
use Rattle.script_statements.specs.declared.script.Client.{Client}
use Rattle.script_statements.specs.declared.script.ScriptSession.{ScriptSession}
use Rattle.script_runs.specs.declared.notes.Note.{Note}
use Rattle.script_handlers.specs.Handling.{Script}
use Rattle.client_ties.specs.Acts.{Act, notes_of_acts}
use Rattle.client_ties.specs.Answering.{MadeAtOnce}
use Rattle.client_ties.specs.ClientStates.{ClientTx, tx_at}
use Rattle.session_states.specs.Sessions.{SeatNow, SessionNow}
use Rattle.session_states.specs.Telling.{RunningTx}

-- ---- what became of a transaction
-- the one that ran, which changed this
abbrev pub entry_ran : RunningTx → List DeltaTree → Option SchemaData → Outcome → FinishEntry Script Note
entry_ran t changes kept outcome = record { number = t.number; body = t.body; started = true; turns = t.turns; changes = changes; kept = kept; by_host = false; outcome = outcome }

-- one that never started
abbrev pub entry_dropped : ℕ → TxBody Script → List (List Note) → Outcome → FinishEntry Script Note
entry_dropped number body turns outcome = record { number = number; body = body; started = false; turns = turns; changes = []; kept = None; by_host = false; outcome = outcome }

-- one that the host ended
abbrev pub entry_by_host : ℕ → TxBody Script → List (List Note) → Outcome → FinishEntry Script Note
entry_by_host number body turns outcome = record (entry_dropped number body turns outcome) { by_host = true }

-- ---- a client
-- the client has these blocks, and was so before
pub record Moves (session : ScriptSession) (now : SessionNow) (place : ℕ) (script : Client) (before : SeatNow) (acts : List Act) (r : DeskRun) (seat : SeatNow) : Type 0 where
  pub script_at : slice_get session.clients place ≡ Some script
  pub seat_at : slice_get now.seats place ≡ Some before
  pub made : MadeAtOnce before.client.number now.run acts r
  pub run : IsDeskRun r
  pub lines : seat.notes ≡ before.notes ++ notes_of_acts acts

pub record HasReady (session : ScriptSession) (now : SessionNow) (number : ℕ) (t : DrawnTx) : Type 0 where
  pub place : ℕ
  pub script : Client
  pub seat : SeatNow
  pub tx : ClientTx
  pub client : t.who.client ≡ place + 1
  pub script_at : slice_get session.clients place ≡ Some script
  pub seat_at : slice_get now.seats place ≡ Some seat
  pub client_number : seat.client.number ≡ place + 1
  pub found : tx_at seat.client number ≡ Some tx
  pub waits : tx.started ≡ false
  pub allowed : (desk_run now.run).board.is_faulted ≡ false → is_allowed (desk_run now.run) (step.Starts seat.client.number number) ≡ true
