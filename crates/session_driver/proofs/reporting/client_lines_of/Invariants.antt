use Rattle.std.proofs.Common.{◌≡◌, map}
use Rattle.session_driver.specs.Reporting.{lines_seen}
use Rattle.session_driver.proofs.reporting.client_lines_of.Given as goal

abbrev pub invariant-loop-seat : goal.invariant-loop-seat
invariant-loop-seat l = l.clients ≡ map lines_seen l.yielded
