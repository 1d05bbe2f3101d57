-- A transaction that never starts (Indexed Database API 3.0, "abort a transaction").
--     cancel_error          the error by which its body aborted it, or AbortError
--     cancelled             its front, which has aborted
--     cancelled_trace       no change, and what its requests are told
use Rattle.std.specs.Prelude.{ℕ, false, [], Option, Some}
use Rattle.idb_keys.specs.declared.names.Durability.{Durability}
use Rattle.idb_keys.specs.declared.names.ErrorName.{ErrorName}
use Rattle.idb_keys.specs.declared.names.ErrorName.TheVariants.{AbortError}
use Rattle.idb_calls.specs.declared.traces.TxTrace.{TxTrace}
use Rattle.idb_calls.specs.declared.traces.Outcome.TheVariants as outcome
use Rattle.request_lists.specs.declared.entries.Phase.{Phase}
use Rattle.request_lists.specs.declared.entries.Phase.TheVariants as phase
use Rattle.request_lists.specs.Fronts.{Front}
use Rattle.request_lists.specs.Placing.{aborted_by}
use Rattle.handler_calls.specs.Telling.{abort_events}

abbrev pub cancel_error : Phase → Option ErrorName
cancel_error (phase.Aborted error) = error
cancel_error _ = Some AbortError

abbrev pub cancelled : {D : Type 0} → Front D → Front D
cancelled front = aborted_by (cancel_error front.phase) front

abbrev pub cancelled_trace : {D : Type 0} → ℕ → Durability → Front D → TxTrace
cancelled_trace number durability front = record {
  number = number;
  mode = front.mode;
  durability = durability;
  deltas = [];
  lines = abort_events front.waiting;
  outcome = outcome.Aborted (cancel_error front.phase) false;
}
