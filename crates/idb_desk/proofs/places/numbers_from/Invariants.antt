use Rattle.std.proofs.Common.{◌≡◌, ◌++◌, ◌+◌, ◌-◌}
use Rattle.desk_steps.specs.Numbers.{numbers_from}
use Rattle.idb_desk.proofs.places.numbers_from.Given as goal

abbrev pub invariant-loop-k : goal.invariant-loop-k
invariant-loop-k l = l.items.items ++ numbers_from (l.count - l.k) (l.first + l.k) ≡ numbers_from l.count l.first
