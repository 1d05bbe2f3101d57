-- How a transaction of a client stands.
--     may_start_of          it waits for its start, and may begin
--     started_of, waits_of  it has started;  it waits for its start
--     begins_of             what it begins with, until it starts
use Rattle.std.specs.Prelude.{Bool, false, not, ◌&&◌, Option, Some, None, if◌then◌else◌}
use Rattle.client_seats.specs.FinishEntries.{TxBody}
use Rattle.script_handlers.specs.Handling.{Script}
use Rattle.client_seats.specs.ClientStates.{ClientTx}
use Rattle.client_seats.specs.ClientSteps.{may_begin}

abbrev pub may_start_of : Option ClientTx → Bool
may_start_of None = false
may_start_of (Some tx) = not tx.started && may_begin tx.body

abbrev pub started_of : Option ClientTx → Bool
started_of None = false
started_of (Some tx) = tx.started

abbrev pub waits_of : Option ClientTx → Bool
waits_of None = false
waits_of (Some tx) = not tx.started

-- what it begins with, until it starts
abbrev pub begins_of : Option ClientTx → Option (TxBody Script)
begins_of None = None
begins_of (Some tx) = if tx.started then None else Some tx.body
