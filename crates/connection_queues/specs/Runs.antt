-- Runs of calls, with the queues moved after each as far as they can.
--     QueueStep             a call with its arguments
--     state_by              what the call makes of the state
--     settled, settled_name one name, its queue moved as far as it can
--     settled_all           each name so, in the order of the bytes of the names
--     after_step            the state after a call, and with the queues moved
--     run_of                the state after these calls
use Rattle.std.specs.Prelude.{ℕ, zero, suc, ◌*◌, Bool, List, [], ◌∷◌, ◌++◌, map, length, Option, Some, None}
use Rattle.std.specs.List.{flat_map}
use Rattle.idb_schema.specs.Schemas.{SchemaData}
use Rattle.name_queues.specs.Moves.{Moved, turned, unmoved}
use Rattle.name_queues.specs.Mails.{sent_all}
use Rattle.connection_queues.specs.Machine.{QueueState, after_ask, closed, taken, handled, tx_begun, tx_done, upgrade_done, delete_done, faulted_state}
use Rattle.name_queues.specs.declared.ids.ConnId.{ConnId}
use Rattle.name_queues.specs.declared.asks.Wants.{Wants}
use Rattle.name_queues.specs.declared.events.ClientEvent.{ClientEvent}
use Rattle.name_queues.specs.declared.names.Named.{Named}

pub data QueueStep : Type 0 where
  Asks : ConnId → List ℕ → Wants → QueueStep
  Takes : ℕ → QueueStep
  Handles : ℕ → QueueStep
  Closes : ConnId → QueueStep
  BeginsTx : ConnId → QueueStep
  EndsTx : ConnId → QueueStep
  EndsUpgrade : List ℕ → Option SchemaData → QueueStep
  EndsDeletion : List ℕ → Bool → QueueStep
  Faults : QueueStep

-- what the call makes of the state
abbrev pub state_by : QueueState → QueueStep → QueueState
state_by s (Asks who name want) = after_ask s who name want
state_by s (Takes client) = taken s client
state_by s (Handles client) = handled s client
state_by s (Closes who) = closed s who
state_by s (BeginsTx who) = tx_begun s who
state_by s (EndsTx who) = tx_done s who
state_by s (EndsUpgrade name kept) = upgrade_done s name kept
state_by s (EndsDeletion name kept) = delete_done s name kept
state_by s Faults = faulted_state s

abbrev pub then_moved : List ClientEvent → Moved → Moved
then_moved sent m = record { named = m.named; sent = sent ++ m.sent }

abbrev pub settled_by : (Named → Moved) → Named → Option Moved → Moved
settled_by go_on n None = unmoved n
settled_by go_on n (Some m) = then_moved m.sent (go_on m.named)

-- at most so many moves
abbrev pub settled : ℕ → Named → Moved
settled zero n = unmoved n
settled (suc moves) n = settled_by (λ m. settled moves m) n (turned n)

-- a request moves three times at most: it is begun, it waits, and it is ready
abbrev pub settled_name : Named → Moved
settled_name n = settled (3 * length n.traffic.queue) n

-- each queue has moved as far as it can, in the order of the bytes of the names
abbrev pub settled_all : QueueState → QueueState
settled_all s = record s {
  names = map (λ n. (settled_name n).named) s.names;
  mails = sent_all (flat_map (λ n. (settled_name n).sent) s.names) s.mails;
}

-- the state after a call, with the queues moved
abbrev pub after_step : QueueState → QueueStep → QueueState
after_step s step = settled_all (state_by s step)

-- the state after these calls
abbrev pub run_of : QueueState → List QueueStep → QueueState
run_of s [] = s
run_of s (step ∷ steps) = run_of (after_step s step) steps
