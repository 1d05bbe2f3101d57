-- What running a call of an upgrade comes to (Indexed Database API 3.0, "createObjectStore", "deleteObjectStore", "createIndex" and
-- "deleteIndex").
--     ChangesBy             it took effect, or the upgrade aborts with this error
--     deltas_in             the changes that a call makes
--     is_store_too_many     it would make one store too many
--     store_in, is_index_broken     the store of an id;  the call makes a unique index that the records break
--     with_changes          with these changes more, made and noted
use Rattle.std.specs.Prelude.{◌≡◌, nat_le, Bool, false, List, [], ◌++◌, length, Option, Some, None, ⊤}
use Rattle.std.specs.Option.{option_and_then}
use Rattle.idb_keys.specs.declared.names.ErrorName.{ErrorName}
use Rattle.idb_keys.specs.declared.names.Mode.TheVariants as mode
use Rattle.idb_schema.specs.declared.calls.SchemaCall.{SchemaCall}
use Rattle.idb_schema.specs.declared.calls.SchemaCall.TheVariants as change
use Rattle.idb_schema.specs.declared.identities.StoreId.{StoreId}
use Rattle.idb_schema.specs.Schemas.{store_of}
use Rattle.idb_calls.specs.Deltas.{DeltaTree}
use Rattle.item_changes.specs.Effects.{new_index, made_all}
use Rattle.request_lists.specs.Fronts.{new_front}
use Rattle.list_machine.specs.declared.limits.TheConstants.{GREATEST_STORE_COUNT}
use Rattle.list_machine.specs.States.{State}
use Rattle.list_machine.specs.Requests.{StoreHere, store_under}
use Rattle.list_machine.specs.Entries.{stopped, took_effect, came_of_change, ran_change, deltas_of_call, is_broken_by}
use Rattle.tx_courses.specs.Courses.{CourseData, state_with, course_in, restored}

-- where it aborts, what is left is restored to what was before
abbrev pub ChangesBy : {D : Type 0} → State D → SchemaCall → Option ErrorName → CourseData → Type 0
ChangesBy state call (Some error) course = (came_of_change state call ≡ stopped error) × (restored course ≡ restored (course_in state))
ChangesBy state call None course = (came_of_change state call ≡ took_effect (ran_change state call)) × (course ≡ course_in (ran_change state call))

-- ---- whatever waits
-- with a front on which nothing waits
abbrev pub state_alone : CourseData → State ⊤
state_alone course = state_with (new_front mode.VersionChange course.schema []) course

abbrev pub deltas_in : CourseData → SchemaCall → List DeltaTree
deltas_in course call = deltas_of_call (state_alone course) call

abbrev pub is_store_too_many : CourseData → SchemaCall → Bool
is_store_too_many course (change.CreateStore name path auto) = nat_le GREATEST_STORE_COUNT (length course.schema.entries)
is_store_too_many course (change.DropStore name) = false
is_store_too_many course (change.CreateIndex store name path unique multi) = false
is_store_too_many course (change.DropIndex store name) = false

abbrev pub store_in : CourseData → StoreId → Option StoreHere
store_in course id = option_and_then (λ info. store_under course.database info.name) (store_of course.schema id)

abbrev pub is_index_broken : CourseData → SchemaCall → Bool
is_index_broken course (change.CreateStore name path auto) = false
is_index_broken course (change.DropStore name) = false
is_index_broken course (change.CreateIndex store name path unique multi) = is_broken_by (new_index name path unique multi) (store_in course store)
is_index_broken course (change.DropIndex store name) = false

-- in the database, and at the end of the list
abbrev pub with_changes : CourseData → List DeltaTree → CourseData
with_changes course deltas = record course { database = made_all deltas course.database; changes = course.changes ++ deltas }
