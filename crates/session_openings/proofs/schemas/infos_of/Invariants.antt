use Rattle.std.proofs.Common.{◌≡◌, map, take}
use Rattle.std.specs.FinMap as finite
use Rattle.session_openings.proofs.Stores.{info_there}
use Rattle.session_openings.proofs.schemas.infos_of.Given as goal

abbrev pub invariant-loop-place : goal.invariant-loop-place
invariant-loop-place g l = l.infos ≡ map info_there (take l.place (finite.entries l.stores))
