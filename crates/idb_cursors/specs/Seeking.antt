-- How a member is sought by halving: what a turn asks, side by side.
--     begins, ends          the bound of the range on the side where a direction comes from, and the one on the other side
--     is_near               all that a turn asks but the bound on the other side: a member beyond one that meets it meets it too
--     is_behind             a test that the members fail up to a place and pass from there on, in the way of the order
--     place_within, nearest_place      the nearest member, once it is found that it meets the bound on the other side too
use Rattle.std.specs.Prelude.{ℕ, Bool, List, Option, Some, None, slice_get, ◌&&◌, not, if◌then◌else◌}
use Rattle.std.specs.List.{position}
use Rattle.std.specs.Option.{option_and_then}
use Rattle.clone_values.specs.KeyTree.{KeyTree}
use Rattle.idb_keys.specs.declared.names.Direction.{Direction}
use Rattle.idb_keys.specs.KeyRange.{Range, meets_lower, meets_upper}
use Rattle.index_tables.specs.Rows.{RowTree}
use Rattle.idb_cursors.specs.Cursors.{TurnData, is_forward, is_reached, is_passed, meets, last_position}

-- the bound on the side where the direction comes from
abbrev pub begins : Direction → Range → KeyTree → Bool
begins direction range key = if is_forward direction then meets_lower range.lower key else meets_upper range.upper key

-- the bound on the other side
abbrev pub ends : Direction → Range → KeyTree → Bool
ends direction range key = if is_forward direction then meets_upper range.upper key else meets_lower range.lower key

-- all that a turn asks but the bound on the other side
abbrev pub is_near : TurnData → RowTree → Bool
is_near turn member = is_passed turn.direction turn.place member && (is_reached turn.direction turn.key turn.primary member && begins turn.direction turn.range member.0)

-- near ones stand at the end where the direction goes the way of the order, and else in front
abbrev pub is_behind : TurnData → RowTree → Bool
is_behind turn member = if is_forward turn.direction then is_near turn member else not (is_near turn member)

-- the place, where a member stands there that meets the bound on the other side
abbrev pub place_within : List RowTree → TurnData → ℕ → Option ℕ
place_within rows turn place = option_and_then (λ row. if ends turn.direction turn.range row.0 then Some place else None) (slice_get rows place)

-- the place of the first or the last member that meets what the turn asks, as the direction goes
abbrev pub nearest_place : List RowTree → TurnData → Option ℕ
nearest_place rows turn = if is_forward turn.direction then position (meets turn) rows else last_position (meets turn) rows
