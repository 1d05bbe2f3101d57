-- Requests that aren't answered at the end, and whether anything is left to do.
--     own_steps             a client's own steps of a run, each with its answer
--     pending_of            the opens and deletes that aren't answered, by client and request
use Rattle.std.specs.Prelude.{ℕ, Bool, true, false, List, [], ◌∷◌, ◌++◌, map, filter, Option, Some, None, if◌then◌else◌}
use Rattle.std.specs.List.{flat_map}
use Rattle.std.specs.Ordering.{is_lt}
use Rattle.idb_calls.specs.declared.orders.Pending.{Pending}
use Rattle.name_queues.specs.Ids.{by_id_order}
use Rattle.name_queues.specs.declared.ids.ConnId.{ConnId}
use Rattle.name_queues.specs.declared.asks.Ask.{Ask}
use Rattle.name_queues.specs.declared.connections.Conn.{Conn}
use Rattle.name_queues.specs.declared.names.Named.{Named}
use Rattle.desk_steps.specs.declared.steps.DeskStep.{DeskStep}
use Rattle.desk_steps.specs.Desks.{DeskState}
use Rattle.desk_steps.specs.Steps.{DeskRun, DeskAnswer, new_desk, answered_steps}
use Rattle.desk_steps.specs.Tokens.{is_step_of}

-- the client's own steps of the run, each with its answer; `unfoldable`, so that it stays short
unfoldable pub own_steps : ℕ → DeskRun → List (DeskStep × DeskAnswer)
own_steps client r = filter (λ e. is_step_of client e.0) (answered_steps (new_desk r.opening) r.order)

-- it waits for this connection, or stands behind this request
abbrev pub pending_on : Bool → ConnId → Ask → Pending
pending_on waits who ask = record { client = ask.who.client; request = ask.who.request; waits = waits; of_client = who.client; of_request = who.request }

-- the request at the front waits for the least connection that isn't closed
abbrev pub front_waits : Ask → List (ConnId × Conn) → List Pending
front_waits ask [] = []
front_waits ask (e ∷ es) = pending_on true e.0 ask ∷ []

abbrev pub queue_pending : List (ConnId × Conn) → List Ask → List Pending
queue_pending conns [] = []
queue_pending conns (ask ∷ asks) = front_waits ask conns ++ map (pending_on false ask.who) asks

abbrev pub pending_where : Named → Option Ask → List Pending
pending_where n None = queue_pending n.traffic.conns n.traffic.queue
pending_where n (Some ask) = map (pending_on false ask.who) n.traffic.queue

abbrev pub pending_of_name : Named → List Pending
pending_of_name n = pending_where n n.running

abbrev pub pending_id : Pending → ConnId
pending_id p = record { client = p.client; request = p.request }

-- in its place by client and request
abbrev pub put_pending : Pending → List Pending → List Pending
put_pending p [] = p ∷ []
put_pending p (q ∷ qs) = if is_lt (by_id_order (pending_id q) (pending_id p)) then q ∷ put_pending p qs else p ∷ q ∷ qs

abbrev pub sorted_pending : List Pending → List Pending
sorted_pending [] = []
sorted_pending (p ∷ ps) = put_pending p (sorted_pending ps)

-- the opens and deletes that aren't answered, by client and request
unfoldable pub pending_of : DeskState → List Pending
pending_of d = sorted_pending (flat_map pending_of_name d.queues.names)
