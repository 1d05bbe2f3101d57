use Rattle.std.proofs.Common.{◌≡◌, drop}
use Rattle.clone_values.specs.Tree.{members_of}
use Rattle.value_json.specs.Writing.{any_marked_name}
use Rattle.value_json.proofs.writing.any_marked_name.Given as goal

-- those that are left tell
abbrev pub invariant-loop-place : goal.invariant-loop-place
invariant-loop-place l = any_marked_name (members_of (drop l.place l.props)) ≡ any_marked_name (members_of l.props)
