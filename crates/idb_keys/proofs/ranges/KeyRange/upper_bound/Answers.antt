use Rattle.std.proofs.Common.{subst}
use Rattle.idb_keys.specs.KeyRange.{IsRange}
use Rattle.idb_keys.proofs.ranges.KeyRange.upper_bound.Goals as goal

pub returns-clause-valid : goal.returns-clause-valid
returns-clause-valid c = subst IsRange c.self.view_is c.self.invariant
