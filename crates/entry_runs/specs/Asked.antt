-- What a request comes to in a running transaction, of the store that an id names.
--     names_asked           the names by which its changes are noted;  none where the id names no store
--     done_with             what a request comes to that changes it;  without it nothing is done, and Undefined answered
--     place_here            the store and the primary key of a cursor's place, where it has taken a member
--     done_at               the same at such a place
--     answer_reading        what a request that reads answers
--     CanStoreIn            the store takes the value, with the key that is given or without one
use Rattle.std.specs.Prelude.{[], Option, Some, None, option_map, unwrap_or}
use Rattle.std.specs.Option.{option_and_then}
use Rattle.clone_values.specs.Tree.{Tree, undefined}
use Rattle.clone_values.specs.KeyTree.{KeyTree}
use Rattle.idb_schema.specs.declared.identities.StoreId.{StoreId}
use Rattle.idb_schema.specs.Schemas.{store_of}
use Rattle.idb_calls.specs.declared.calls.Call.{Call}
use Rattle.idb_calls.specs.declared.calls.Target.{Target}
use Rattle.object_stores.specs.Store.{Store}
use Rattle.store_requests.specs.declared.changes.StoreNames.{StoreNames}
use Rattle.store_requests.specs.Runs.{Ran}
use Rattle.request_lists.specs.declared.entries.FrontCursor.{FrontCursor}
use Rattle.request_lists.specs.Placing.{over_of}
use Rattle.list_machine.specs.Requests.{StoreHere}
use Rattle.list_machine.specs.Entries.{Done, done_on}
use Rattle.live_stores.specs.Live.{CanStoreHere}
use Rattle.request_reads.specs.Reads.{reading_answer}
use Rattle.tx_courses.specs.Courses.{CourseData}
use Rattle.tx_courses.specs.Changes.{store_in}

abbrev pub names_asked : CourseData → StoreId → Option StoreNames
names_asked course id = option_map (λ info. record { database = course.schema.name; store = info.name }) (store_of course.schema id)

-- ---- changing
abbrev pub nothing_done : CourseData → Done
nothing_done course = record { answer = Some undefined; database = course.database; changes = [] }

abbrev pub done_in : CourseData → Option StoreHere → (StoreNames → Store → Ran) → Done
done_in course there run = unwrap_or (option_map (λ here. done_on here (run (record { database = course.schema.name; store = here.name }) here.store)) there) (nothing_done course)

abbrev pub done_with : CourseData → StoreId → (StoreNames → Store → Ran) → Done
done_with course id run = done_in course (store_in course id) run

-- ---- at a cursor's place
abbrev pub place_here : {D : Type 0} → Option (FrontCursor D) → Option (StoreId × KeyTree)
place_here cursor = option_and_then (λ c. option_map (λ place. (c.target.store, place.1)) c.cursor.place) cursor

abbrev pub done_at : CourseData → Option (StoreId × KeyTree) → (KeyTree → StoreNames → Store → Ran) → Done
done_at course None run = nothing_done course
done_at course (Some place) run = done_with course place.0 (run place.1)

-- ---- reading
abbrev pub reading_at : CourseData → Target → Call → Option StoreHere → Option Tree
reading_at course target call None = Some undefined
reading_at course target call (Some here) = reading_answer here.store (over_of course.schema target.index) call

abbrev pub answer_reading : CourseData → Target → Call → Option Tree
answer_reading course target call = reading_at course target call (store_in course target.store)

-- ---- storing
abbrev pub CanStoreIn : CourseData → StoreId → Tree → Option KeyTree → Type 0
CanStoreIn course id value key = CanStoreHere (store_in course id) value key
