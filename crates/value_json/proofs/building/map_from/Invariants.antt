use Rattle.std.proofs.Common.{◌≡◌, ◌+◌, ◌≤◌, length, map}
use Rattle.std.specs.List.{fold}
use Rattle.clone_values.specs.View.{pair_of}
use Rattle.clone_values.specs.Sameness.{put_pair}
use Rattle.value_json.specs.Reading.{map_of}
use Rattle.value_json.proofs.building.map_from.Given as goal

-- those so far, and then those that are left, make the whole
abbrev pub invariant-loop-pair : goal.invariant-loop-pair
invariant-loop-pair l = (length l.once + length l.pair-iterator.rest.items ≤ 4294967295)
    × (fold (λ done p. put_pair done p.0 p.1) l.once (map pair_of l.pair-iterator.rest.items) ≡ map_of (map pair_of l.fn.pairs.items))
