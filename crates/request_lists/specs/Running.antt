-- What a front is after what the layer above does to it, which runs its list.
--     without_first         the entry that is run next is taken
--     awake                 an inactive front becomes active, for the handler of an event
--     ended_as              the transaction has committed or aborted
--     with_handler_lent, with_handler_returned      a cursor's handler is called, and comes back
--     cursor_turned, with_cursor_turned             a cursor has made its turns, and got the member that it then takes
use Rattle.std.specs.Prelude.{ℕ, List, Option, Some, None, is_some, drop}
use Rattle.clone_values.specs.KeyTree.{KeyTree}
use Rattle.idb_cursors.specs.Rows.{RowTree}
use Rattle.idb_cursors.specs.Cursors.{cursor_after, iterated, turn_of}
use Rattle.request_lists.specs.declared.entries.Phase.{Phase}
use Rattle.request_lists.specs.declared.entries.Phase.TheVariants as phase
use Rattle.request_lists.specs.declared.entries.FrontCursor.{FrontCursor}
use Rattle.request_lists.specs.Fronts.{Front, cursor_changed, handler_lent, handler_returned}

abbrev pub without_first : {D : Type 0} → Front D → Front D
without_first front = record front { waiting = drop 1 front.waiting }

abbrev pub woken : Phase → Phase
woken phase.Active = phase.Active
woken phase.Inactive = phase.Active
woken phase.Committing = phase.Committing
woken phase.Committed = phase.Committed
woken (phase.Aborted error) = phase.Aborted error

abbrev pub awake : {D : Type 0} → Front D → Front D
awake front = record front { phase = woken front.phase }

abbrev pub ended_as : {D : Type 0} → Phase → Front D → Front D
ended_as phase front = record front { phase = phase }

abbrev pub with_handler_lent : {D : Type 0} → ℕ → Front D → Front D
with_handler_lent number front = record front { cursors = cursor_changed number handler_lent front.cursors }

abbrev pub with_handler_returned : {D : Type 0} → ℕ → D → Front D → Front D
with_handler_returned number handler front = record front { cursors = cursor_changed number (handler_returned handler) front.cursors }

-- the place of the member that a cursor takes; none where there is no cursor
abbrev pub turn_found : {D : Type 0} → List RowTree → Option (FrontCursor D) → Option KeyTree → Option KeyTree → ℕ → Option ℕ
turn_found rows None key primary more = None
turn_found rows (Some c) key primary more = iterated rows (turn_of c.cursor key primary) more

-- it has moved there, and has got a member where one was found
abbrev pub cursor_turned : {D : Type 0} → List RowTree → Option ℕ → FrontCursor D → FrontCursor D
cursor_turned rows place c = record c { cursor = cursor_after rows c.cursor place; got = is_some place }

abbrev pub with_cursor_turned : {D : Type 0} → ℕ → List RowTree → Option ℕ → Front D → Front D
with_cursor_turned number rows place front = record front { cursors = cursor_changed number (cursor_turned rows place) front.cursors }
