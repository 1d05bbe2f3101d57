use Rattle.std.proofs.Common.{◌≤◌, ◌-◌, length, take, drop}
use Rattle.std.specs.List.{AllByRecursion}
use Rattle.idb_schema.specs.Schemas.{IsBefore, IsBehind}
use Rattle.idb_schema.proofs.places.place_in.Given as goal

-- the entries before `low` have smaller names, those from `high` on greater ones
abbrev pub invariant-loop-low : goal.invariant-loop-low
invariant-loop-low l = record {
  before : AllByRecursion (λ e. IsBefore l.name e) (take l.low l.entries);
  behind : AllByRecursion (λ e. IsBehind l.name e) (drop l.high l.entries);
  ordered : l.low ≤ l.high;
  within : l.high ≤ length l.entries;
}

abbrev pub decreases-loop-low : goal.decreases-loop-low
decreases-loop-low l = l.high - l.low
