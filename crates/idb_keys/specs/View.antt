-- What contracts see of a range's fields.
use Rattle.std.specs.Prelude.{Bool, Option, option_map}
use denote.Ref.{Bor}
use Rattle.key_order.specs.Key.{Key}
use Rattle.key_order.specs.View.{key_tree_of}
use Rattle.idb_keys.specs.declared.ranges.End.{End}
use Rattle.idb_keys.specs.KeyRange.{Bound, Range, bound_at}

-- the bound that an end is
abbrev pub bound_of : End → Bound
bound_of end = bound_at (key_tree_of end.key) end.is_open

-- the range of these two ends
abbrev pub range_of : Option End → Option End → Range
range_of lower upper = record { lower = option_map bound_of lower; upper = option_map bound_of upper }

-- the bound that a reader answers
abbrev pub bound_shown : Bor Key × Bool → Bound
bound_shown shown = bound_at (key_tree_of shown.0.now) shown.1
