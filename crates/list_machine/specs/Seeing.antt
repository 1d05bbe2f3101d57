-- A transaction whose handlers are seen otherwise, as by their plain data.
--     state_map             the state with each handler seen by f
--     pulled_reacts, pulled_writes    what handlers do, said of what f sees of them
use Rattle.request_lists.specs.Fronts.{front_map}
use Rattle.list_machine.specs.States.{State}
use Rattle.list_machine.specs.Machine.{Reacts, Writes}

abbrev pub state_map : {H D : Type 0} → (H → D) → State H → State D
state_map f state = record {
  front = front_map f state.front;
  name = state.name;
  schema = state.schema;
  before = state.before;
  database = state.database;
  changes = state.changes;
  requests = state.requests;
  bytes = state.bytes;
}

abbrev pub pulled_reacts : {H D : Type 0} → (H → D) → Reacts D → Reacts H
pulled_reacts f reacts handler front event after last how = reacts (f handler) (front_map f front) event (f after) (front_map f last) how

abbrev pub pulled_writes : {H D L : Type 0} → (H → D) → Writes D L → Writes H L
pulled_writes f writes handler front event lines = writes (f handler) (front_map f front) event lines
