use Rattle.std.proofs.lemmas.Result.{on_ok_weaker}
use Rattle.disk_trait.specs.declared.area.Area.TheVariants.{Zero}
use Rattle.disk_trait.proofs.Laws.{begins, goes_on, both_pinned}
use Rattle.gate_areas.proofs.sync.sync_both.Goals as goal

pub returns-in_err-sync-clause-any_moment : goal.returns-in_err-sync-clause-any_moment
returns-in_err-sync-clause-any_moment g c = goes_on (begins (g.met.D.Disk.only_now c.args.disk.now) (λ image left. left)) c.sync.ensures.time c.sync.ensures.images

pub returns-clause-any_moment : goal.returns-clause-any_moment
returns-clause-any_moment g c =
    goes_on (goes_on (begins (g.met.D.Disk.only_now c.args.disk.now) (λ image left. left)) c.sync.ensures.time c.sync.ensures.images)
    c.sync-2.ensures.time (λ image left. c.sync.ensures.images image (c.sync-2.ensures.images image left))

pub returns-clause-settled : goal.returns-clause-settled
returns-clause-settled g c =
    on_ok_weaker c.sync-2.result
    (both_pinned Zero (g.D.Disk.shows c.args.disk.now) (g.D.Disk.shows c.sync.new.self) (g.D.Disk.shows c.sync-2.new.self) c.sync.ensures.reads c.sync-2.ensures.reads c.sync-2.ensures.images
    (g.met.D.Disk.images_are_told c.args.disk.now) c.sync.ensures.images c.in_ok-sync.ensures.durable)
    c.sync-2.ensures.durable
