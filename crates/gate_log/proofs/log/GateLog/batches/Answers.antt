use Rattle.gate_log.proofs.Keeps.{keeps_untouched}
use Rattle.gate_log.proofs.log.GateLog.batches.Goals as goal

pub invariant_of-self : goal.invariant_of-self
invariant_of-self g c =
    let s = c.args.self.now in
    record { kept = keeps_untouched (g.D.Disk.shows s.disk) (g.D.Disk.shows c.collect.new.disk) s.live s.seen s.kept c.collect.ensures.untouched c.collect.ensures.count }
