use Rattle.std.proofs.Common.{arith}
use Rattle.gate_log.proofs.Keeps.{images_stand}
use Rattle.gate_log.proofs.log.GateLog.failed.Goals as goal

pub returns-clause-counted : goal.returns-clause-counted
returns-clause-counted g c = λ seen is. c.args.self.now.kept.counted seen is

pub returns-clause-headed : goal.returns-clause-headed
returns-clause-headed g c = c.args.self.now.kept.headed

pub returns-clause-limit : goal.returns-clause-limit
returns-clause-limit g c = omega (arith, c.args.self.now.kept.limit)

pub returns-clause-sealed : goal.returns-clause-sealed
returns-clause-sealed g c = let s = c.args.self.now in images_stand (g.D.Disk.shows s.disk) s.live s.seen s.kept

pub returns-clause-in_doubt : goal.returns-clause-in_doubt
returns-clause-in_doubt g c = λ seen is. c.args.self.now.kept.in_doubt seen is
