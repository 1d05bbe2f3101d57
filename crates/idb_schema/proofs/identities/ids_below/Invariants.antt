use Rattle.std.proofs.Common.{◌≡◌}
use Rattle.idb_schema.specs.Numbers.{numbers_below}
use Rattle.idb_schema.proofs.identities.ids_below.Given as goal

-- the numbers so far
abbrev pub invariant-loop-number : goal.invariant-loop-number
invariant-loop-number l = l.numbers.items ≡ numbers_below l.number
