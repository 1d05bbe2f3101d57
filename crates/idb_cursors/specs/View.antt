-- What contracts see of what a cursor is handed.
--     row_shown             the key and the primary key of a lent member
--     key_shown             a key that may be left out
--     range_given           a range that may be left out, and then takes all keys
--     turn_seen             a turn as plain data
use denote.Ref.{Bor}
use Rattle.std.specs.Prelude.{Option, option_map, unwrap_or}
use Rattle.clone_values.specs.declared.key_types.Key.{Key}
use Rattle.clone_values.specs.KeyTree.{KeyTree}
use Rattle.clone_values.specs.View.{key_tree_of}
use Rattle.idb_keys.specs.KeyRange.{Range, every_key}
use Rattle.index_tables.specs.Rows.{RowTree}
use Rattle.idb_cursors.specs.declared.seeking.Turn.{Turn}
use Rattle.idb_cursors.specs.Cursors.{TurnData}

abbrev pub row_shown : Bor Key × Bor Key → RowTree
row_shown lent = (key_tree_of lent.0.now, key_tree_of lent.1.now)

abbrev pub key_shown : Option (Bor Key) → Option KeyTree
key_shown key = option_map (λ k. key_tree_of k.now) key

abbrev pub range_given : Option Range → Range
range_given range = unwrap_or range every_key

abbrev pub turn_seen : Turn → TurnData
turn_seen turn = record { direction = turn.direction; range = turn.range.now; place = option_map row_shown turn.place; key = key_shown turn.key; primary = key_shown turn.primary }
