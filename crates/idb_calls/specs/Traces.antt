-- What became of a transaction.
--     IsWithinDeltaCount    its changes are at most as many as a transaction may make
use Rattle.std.specs.Prelude.{◌≤◌, length}
use Rattle.idb_calls.specs.declared.traces.TxTrace.{TxTrace}
use Rattle.idb_calls.specs.declared.traces.TheConstants.{GREATEST_DELTA_COUNT}

-- the changes are at most as many as a transaction may make
abbrev pub IsWithinDeltaCount : TxTrace → Type 0
IsWithinDeltaCount trace = length trace.deltas ≤ GREATEST_DELTA_COUNT
