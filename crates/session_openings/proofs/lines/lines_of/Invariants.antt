use Rattle.std.proofs.Common.{◌≡◌, map, take}
use Rattle.std.specs.FinMap as finite
use Rattle.legal_sessions.specs.Legal.{has_of}
use Rattle.session_openings.proofs.lines.lines_of.Given as goal

abbrev pub invariant-loop-place : goal.invariant-loop-place
invariant-loop-place g l = l.lines ≡ map has_of (take l.place (finite.entries l.databases))
