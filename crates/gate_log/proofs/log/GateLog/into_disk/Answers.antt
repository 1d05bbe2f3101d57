use Rattle.gate_log.proofs.Keeps.{log_found, images_stand}
use Rattle.gate_log.proofs.log.GateLog.into_disk.Goals as goal

pub returns-clause-found : goal.returns-clause-found
returns-clause-found g c = let s = c.args.self in log_found (g.D.Disk.shows s.disk) s.live s.seen s.kept

pub returns-clause-sealed : goal.returns-clause-sealed
returns-clause-sealed g c = let s = c.args.self in images_stand (g.D.Disk.shows s.disk) s.live s.seen s.kept

pub returns-clause-in_doubt : goal.returns-clause-in_doubt
returns-clause-in_doubt g c = λ seen is. c.args.self.kept.in_doubt seen is
