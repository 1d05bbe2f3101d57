-- All of a running transaction but its front (Indexed Database API 3.0, "transaction").
--     CourseData            its schema, its database before it and now, its changes, and the counts
--     state_with, course_in the state of the list machine with a front;  and without it
--     live_in               its database before it and now
--     course_opened         as it begins
--     restored              the database before is back, and no change is left
--     is_past               so many requests, bytes and changes more pass a limit
--     HasCome               what a call answered and left is what the request came to
use Rattle.std.specs.Prelude.{◌≡◌, ℕ, ◌+◌, nat_le, Bool, not, ◌&&◌, List, [], ◌++◌, length, Option}
use Rattle.clone_values.specs.Tree.{Tree}
use Rattle.idb_keys.specs.declared.names.Mode.{Mode}
use Rattle.idb_schema.specs.Schemas.{SchemaData}
use Rattle.idb_calls.specs.Deltas.{DeltaTree}
use Rattle.idb_calls.specs.declared.traces.TheConstants.{GREATEST_DELTA_COUNT}
use Rattle.item_changes.specs.Items.{Database}
use Rattle.item_changes.specs.Effects.{made_all}
use Rattle.request_lists.specs.Fronts.{Front}
use Rattle.list_machine.specs.declared.limits.TheConstants.{GREATEST_REQUEST_COUNT, GREATEST_VALUE_BYTES}
use Rattle.list_machine.specs.States.{State, opening_changes}
use Rattle.list_machine.specs.Entries.{Done}
use Rattle.live_stores.specs.Live.{LiveData}

-- The schema is as the entries that have run left it. The changes stand in the order in which they took effect. The counts are of the
-- requests that have run, and of the bytes of the values that these stored.
pub record CourseData : Type 0 where
  pub schema : SchemaData
  pub before : Option Database
  pub database : Option Database
  pub changes : List DeltaTree
  pub requests : ℕ
  pub bytes : ℕ

abbrev pub state_with : {D : Type 0} → Front D → CourseData → State D
state_with front course = record {
  front = front;
  name = course.schema.name;
  schema = course.schema;
  before = course.before;
  database = course.database;
  changes = course.changes;
  requests = course.requests;
  bytes = course.bytes;
}

abbrev pub course_in : {D : Type 0} → State D → CourseData
course_in state = record {
  schema = state.schema;
  before = state.before;
  database = state.database;
  changes = state.changes;
  requests = state.requests;
  bytes = state.bytes;
}

abbrev pub live_in : CourseData → LiveData
live_in course = record { before = course.before; database = course.database }

-- with the changes with which it begins; by these an upgrade raises its database to the version of its schema
abbrev pub course_opened : Mode → SchemaData → LiveData → List DeltaTree → CourseData
course_opened mode schema live changes = record {
  schema = schema;
  before = live.before;
  database = made_all (opening_changes mode schema) live.database;
  changes = changes;
  requests = 0;
  bytes = 0;
}

abbrev pub restored : CourseData → CourseData
restored course = record course { database = course.before; changes = [] }

abbrev pub is_past : CourseData → ℕ → ℕ → ℕ → Bool
is_past course requests bytes changes = not (
    nat_le (course.requests + requests) GREATEST_REQUEST_COUNT
    && (nat_le (course.bytes + bytes) GREATEST_VALUE_BYTES
    && nat_le (length course.changes + changes) GREATEST_DELTA_COUNT))

-- nothing is counted yet
pub record HasCome (done : Done) (answer : Option Tree) (old new : CourseData) : Type 0 where
  pub answered : answer ≡ done.answer
  pub left : new ≡ record old { database = done.database; changes = old.changes ++ done.changes }
