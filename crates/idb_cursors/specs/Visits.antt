-- What a cursor visits over members that do not change.
--     visits                the members that it takes, turn by turn, so many turns at most
--     visited               all that it takes, from the first turn on
--     rows_in_range         the members in range
--     firsts_of_keys        the first member of each key
use Rattle.std.specs.Prelude.{ℕ, zero, suc, List, [], ◌∷◌, if◌then◌else◌, length, filter, None, option_map, unwrap_or, slice_get}
use Rattle.std.specs.Option.{option_and_then}
use Rattle.std.specs.Ordering.{is_eq}
use Rattle.clone_values.specs.KeyTree.{KeyTree}
use Rattle.key_order.specs.KeyOrder.{key_cmp}
use Rattle.idb_keys.specs.declared.names.Direction.{Direction}
use Rattle.idb_keys.specs.KeyRange.{Range, includes}
use Rattle.index_tables.specs.Rows.{RowTree}
use Rattle.idb_cursors.specs.Cursors.{TurnData, next_place, turn_from}

-- a turn of a fresh cursor, with no key given
abbrev pub first_turn : Direction → Range → TurnData
first_turn direction range = record { direction = direction; range = range; place = None; key = None; primary = None }

-- at each turn the member that it takes; nothing more where it finds nothing
abbrev pub visits : ℕ → List RowTree → TurnData → List RowTree
visits zero rows turn = []
visits (suc more) rows turn = unwrap_or (option_and_then (λ place. option_map (λ member. member ∷ visits more rows (turn_from rows turn place)) (slice_get rows place)) (next_place rows turn)) []

-- no more turns than there are members find something
abbrev pub visited : List RowTree → Direction → Range → List RowTree
visited rows direction range = visits (length rows) rows (first_turn direction range)

abbrev pub rows_in_range : Range → List RowTree → List RowTree
rows_in_range range rows = filter (λ member. includes range member.0) rows

-- those whose key is not that of the one before, which has this one
abbrev pub firsts_after : KeyTree → List RowTree → List RowTree
firsts_after key [] = []
firsts_after key (m ∷ ms) = if is_eq (key_cmp key m.0) then firsts_after key ms else m ∷ firsts_after m.0 ms

abbrev pub firsts_of_keys : List RowTree → List RowTree
firsts_of_keys [] = []
firsts_of_keys (m ∷ ms) = m ∷ firsts_after m.0 ms
