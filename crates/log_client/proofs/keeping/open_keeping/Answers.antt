use Rattle.gate_log.specs.Log.{live_of, disk_of}
use Rattle.log_client.proofs.Staying.{opened_keeps}
use Rattle.log_client.proofs.keeping.open_keeping.Goals as goal

pub returns-in-Ok : goal.returns-in-Ok
returns-in-Ok g c =
    opened_keeps (g.D.Disk.shows c.args.disk) (g.D.Disk.shows (disk_of c.in-Ok.opened.0)) (live_of c.in-Ok.opened.0) c.in-Ok.opened.1 c.in-Ok.ensures.found c.in-Ok.ensures.any_moment
