-- What running a request came to.
--     Replies               a request was answered, or failed, or would have passed a limit
--     IsFormed              what was answered is a well formed value
--     HasTurned             the front is as the turn of a cursor left it, or as it was
use Rattle.std.specs.Prelude.{◌≡◌, ℕ, true, false, Some, None, ⊤}
use Rattle.clone_values.specs.View.{tree_of}
use Rattle.clone_values.specs.WellFormed.{IsValue}
use Rattle.request_lists.specs.Fronts.{Front}
use Rattle.list_machine.specs.States.{State}
use Rattle.list_machine.specs.Entries.{Done, is_past_limit, with_done}
use Rattle.entry_runs.specs.declared.replies.Reply.{Reply}
use Rattle.entry_runs.specs.declared.replies.Reply.TheVariants.{PastLimit, Answered, Failed}
use Rattle.tx_courses.specs.Courses.{CourseData, course_in, restored}

-- what would have passed a limit may have been begun, and can be undone
abbrev pub Replies : {D : Type 0} → State D → ℕ → Done → Reply → CourseData → Type 0
Replies state bytes done PastLimit course = (is_past_limit state 1 bytes done.changes ≡ true) × (restored course ≡ restored (course_in state))
Replies state bytes done (Answered value) course = (is_past_limit state 1 bytes done.changes ≡ false) × (done.answer ≡ Some (tree_of value)) × (course ≡ course_in (with_done state done bytes))
Replies state bytes done Failed course = (is_past_limit state 1 bytes done.changes ≡ false) × (done.answer ≡ None) × (course ≡ course_in (with_done state done bytes))

abbrev pub IsFormed : Reply → Type 0
IsFormed PastLimit = ⊤
IsFormed (Answered value) = IsValue (tree_of value)
IsFormed Failed = ⊤

-- past a limit no cursor moves
abbrev pub HasTurned : {D : Type 0} → Reply → Front D → Front D → Front D → Type 0
HasTurned PastLimit old turned new = new ≡ old
HasTurned (Answered value) old turned new = new ≡ turned
HasTurned Failed old turned new = new ≡ turned
