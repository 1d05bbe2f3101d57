use Rattle.std.proofs.Common.{◌≡◌, ◌-◌, drop, map}
use Rattle.clone_values.specs.Names.{is_rising, names_of}
use Rattle.clone_values.specs.View.{prop_of}
use Rattle.value_bytes.proofs.names.names_rise.Given as goal

-- the names before this place rise
abbrev pub invariant-loop-place : goal.invariant-loop-place
invariant-loop-place l = is_rising (names_of (map prop_of (drop (l.place - 1) l.props))) ≡ is_rising (names_of (map prop_of l.props))
