-- How a cursor moves (Indexed Database API 3.0, "iterate a cursor"), over the whole list of members that its source shows.
--     CursorData            a cursor as plain data;  fresh_cursor, moved_to: one that has taken nothing yet, or this member
--     TurnData              what one turn goes by;  turn_of: a cursor's, with the keys that are given
--     meets                 what a member must meet for a turn to take it
--     next_place            the place of the member that one turn takes
--     iterated              the place after one turn and so many more
--     key_beyond, row_beyond      what lies beyond a key, or a pair of keys, in a direction
--     key_beyond_place, pair_beyond_place      the same of a cursor's place, which a fresh cursor has not
use Rattle.std.specs.Prelude.{ℕ, zero, suc, Bool, true, false, ◌&&◌, List, [], ◌∷◌, if◌then◌else◌, slice_get, Option, Some, None, option_map}
use Rattle.std.specs.List.{position}
use Rattle.std.specs.Option.{option_and_then, option_or}
use Rattle.std.specs.declared.cmp.Ordering.{Ordering}
use Rattle.std.specs.Ordering.{is_eq, is_lt, is_le, ordering_reverse}
use Rattle.clone_values.specs.KeyTree.{KeyTree}
use Rattle.key_order.specs.KeyOrder.{key_cmp}
use Rattle.idb_keys.specs.declared.names.Direction.{Direction}
use Rattle.idb_keys.specs.declared.names.Direction.TheVariants.{Next, NextUnique, Prev, PrevUnique}
use Rattle.idb_keys.specs.declared.names.Over.{Over}
use Rattle.idb_keys.specs.KeyRange.{Range, includes}
use Rattle.index_tables.specs.Rows.{RowTree, row_cmp}

-- what the cursor goes over, which way and in which range, whether it shows keys alone, and the key and the primary key of the
-- member that it took last ("position" and "object store position"); the two keys of a record of a store are one
pub record CursorData : Type 0 where
  pub over : Over
  pub direction : Direction
  pub range : Range
  pub keys_only : Bool
  pub place : Option RowTree

abbrev pub fresh_cursor : Over → Direction → Range → Bool → CursorData
fresh_cursor over direction range keys_only = record { over = over; direction = direction; range = range; keys_only = keys_only; place = None }

abbrev pub moved_to : CursorData → Option RowTree → CursorData
moved_to cursor place = record cursor { place = place }

-- which way a turn goes, in which range and from which place, and the key and the primary key that are given
pub record TurnData : Type 0 where
  pub direction : Direction
  pub range : Range
  pub place : Option RowTree
  pub key : Option KeyTree
  pub primary : Option KeyTree

abbrev pub turn_of : CursorData → Option KeyTree → Option KeyTree → TurnData
turn_of cursor key primary = record { direction = cursor.direction; range = cursor.range; place = cursor.place; key = key; primary = primary }

-- ---- in a direction
-- next and nextunique go the way of the order, prev and prevunique the other way
abbrev pub is_forward : Direction → Bool
is_forward Next = true
is_forward NextUnique = true
is_forward Prev = false
is_forward PrevUnique = false

-- nextunique and prevunique take one member of each key
abbrev pub is_unique : Direction → Bool
is_unique Next = false
is_unique NextUnique = true
is_unique Prev = false
is_unique PrevUnique = true

-- an order as a direction meets it
abbrev pub toward : Direction → Ordering → Ordering
toward direction order = if is_forward direction then order else ordering_reverse order

-- the second key lies beyond the first, or is at least not before it
abbrev pub key_beyond : Direction → KeyTree → KeyTree → Bool
key_beyond direction j k = is_lt (toward direction (key_cmp j k))

abbrev pub key_from : Direction → KeyTree → KeyTree → Bool
key_from direction j k = is_le (toward direction (key_cmp j k))

-- the same of pairs of a key and a primary key, which decides where the keys tie
abbrev pub row_beyond : Direction → RowTree → RowTree → Bool
row_beyond direction p q = is_lt (toward direction (row_cmp p q))

abbrev pub row_from : Direction → RowTree → RowTree → Bool
row_from direction p q = is_le (toward direction (row_cmp p q))

-- ---- what a turn asks of a member
-- it is not before the key that is given, nor before the pair where a primary key is given too, which counts for nothing in the
-- unique directions
abbrev pub is_reached : Direction → Option KeyTree → Option KeyTree → RowTree → Bool
is_reached direction None primary member = true
is_reached direction (Some key) None member = key_from direction key member.0
is_reached direction (Some key) (Some primary) member = if is_unique direction then key_from direction key member.0 else row_from direction (key, primary) member

-- it lies beyond the place of the cursor, in the unique directions by its key
abbrev pub is_passed : Direction → Option RowTree → RowTree → Bool
is_passed direction None member = true
is_passed direction (Some place) member = if is_unique direction then key_beyond direction place.0 member.0 else row_beyond direction place member

-- it is in range, reached, and beyond the place
abbrev pub meets : TurnData → RowTree → Bool
meets turn member = includes turn.range member.0 && (is_reached turn.direction turn.key turn.primary member && is_passed turn.direction turn.place member)

-- ---- one turn
-- the place of the last member that passes the test
abbrev pub last_position : {A : Type 0} → (A → Bool) → List A → Option ℕ
last_position test [] = None
last_position test (x ∷ xs) = option_or (option_map suc (last_position test xs)) (if test x then Some 0 else None)

-- the place of the first member that has the key of the one at this place
abbrev pub first_of_key : List RowTree → ℕ → Option ℕ
first_of_key rows place = option_and_then (λ found. position (λ row. is_eq (key_cmp row.0 found.0)) rows) (slice_get rows place)

-- next and nextunique take the first, prev the last; prevunique takes the first that has the key of the last
abbrev pub place_by : Direction → (RowTree → Bool) → List RowTree → Option ℕ
place_by Next test rows = position test rows
place_by NextUnique test rows = position test rows
place_by Prev test rows = last_position test rows
place_by PrevUnique test rows = option_and_then (first_of_key rows) (last_position test rows)

-- the place of the member that the turn takes; none where no member meets what it asks
abbrev pub next_place : List RowTree → TurnData → Option ℕ
next_place rows turn = place_by turn.direction (meets turn) rows

-- ---- so many turns
-- the same turn from the member at this place
abbrev pub turn_from : List RowTree → TurnData → ℕ → TurnData
turn_from rows turn place = record turn { place = slice_get rows place }

-- so many turns more, each from the member that the one before took; none at the first that finds nothing
abbrev pub turns_from : List RowTree → TurnData → ℕ → ℕ → Option ℕ
turns_from rows turn zero place = Some place
turns_from rows turn (suc more) place = option_and_then (turns_from rows turn more) (next_place rows (turn_from rows turn place))

-- one turn and so many more
abbrev pub iterated : List RowTree → TurnData → ℕ → Option ℕ
iterated rows turn more = option_and_then (turns_from rows turn more) (next_place rows turn)

-- the cursor then: at the member that was taken; as it was where none was
abbrev pub cursor_after : List RowTree → CursorData → Option ℕ → CursorData
cursor_after rows cursor None = cursor
cursor_after rows cursor (Some place) = moved_to cursor (slice_get rows place)

-- ---- what a caller may ask for
-- the key lies beyond that of the place ("continue"); the pair lies beyond the place ("continuePrimaryKey")
abbrev pub key_beyond_place : Direction → Option RowTree → KeyTree → Bool
key_beyond_place direction None key = true
key_beyond_place direction (Some place) key = key_beyond direction place.0 key

abbrev pub pair_beyond_place : Direction → Option RowTree → RowTree → Bool
pair_beyond_place direction None pair = true
pair_beyond_place direction (Some place) pair = row_beyond direction place pair
