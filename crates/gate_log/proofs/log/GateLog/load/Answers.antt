use Rattle.gate_areas.specs.Found.{found_of}
use Rattle.gate_log.proofs.Keeps.{images_has, found_stands}
use Rattle.gate_log.proofs.log.GateLog.load.Goals as goal

pub returns-in-Ok-clause-sealed : goal.returns-in-Ok-clause-sealed
returns-in-Ok-clause-sealed g c = images_has (g.D.Disk.shows c.open_disk.new.disk) c.in-Ok.opened.live c.in-Ok.opened.batches c.in-Ok.ensures.opened.kept c.in-Ok.ensures.opened.has

pub returns-in-Ok-clause-same_batches : goal.returns-in-Ok-clause-same_batches
returns-in-Ok-clause-same_batches g c = λ areas told. found_stands c.in-Ok.opened.live c.in-Ok.opened.batches (found_of areas) (c.in-Ok.ensures.opened.found areas told)

pub returns-in-Err-clause-damaged : goal.returns-in-Err-clause-damaged
returns-in-Err-clause-damaged g c = λ area place is. c.in-Err.ensures.damaged area place (cc)
