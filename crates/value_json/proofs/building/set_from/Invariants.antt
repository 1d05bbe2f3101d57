use Rattle.std.proofs.Common.{◌≡◌, ◌+◌, ◌≤◌, length, map}
use Rattle.std.specs.List.{fold}
use Rattle.clone_values.specs.View.{tree_of}
use Rattle.clone_values.specs.Sameness.{put_once}
use Rattle.value_json.specs.Reading.{set_of}
use Rattle.value_json.proofs.building.set_from.Given as goal

-- those so far, and then those that are left, make the whole
abbrev pub invariant-loop-value : goal.invariant-loop-value
invariant-loop-value l = (length l.once + length l.value-iterator.rest.items ≤ 4294967295) × (fold put_once l.once (map tree_of l.value-iterator.rest.items) ≡ set_of (map tree_of l.fn.values.items))
