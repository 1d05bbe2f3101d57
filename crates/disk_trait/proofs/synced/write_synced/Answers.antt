use Rattle.std.proofs.Common.{length}
use Rattle.disk_trait.specs.Disk.{OnArea, Torn}
use Rattle.disk_trait.specs.MemoryLaws.{torn_nothing}
use Rattle.std.proofs.lemmas.Result.{on_ok_weaker}
use Rattle.disk_trait.proofs.Laws.{synced_step}
use Rattle.disk_trait.proofs.ChangeAndSync.{changed, synced}
use Rattle.disk_trait.proofs.synced.write_synced.Goals as goal

pub returns-in_err-write_at-clause-any_moment : goal.returns-in_err-write_at-clause-any_moment
returns-in_err-write_at-clause-any_moment g c =
    changed _ _ (OnArea c.args.area (Torn c.args.from (length c.args.bytes.now))) (torn_nothing c.args.area c.args.from (length c.args.bytes.now))
    c.requires.settled (g.met.D.Disk.only_now c.args.disk.now) c.write_at.ensures.images c.write_at.ensures.time

pub returns-clause-any_moment : goal.returns-clause-any_moment
returns-clause-any_moment g c =
    synced _ _ (OnArea c.args.area (Torn c.args.from (length c.args.bytes.now))) (torn_nothing c.args.area c.args.from (length c.args.bytes.now))
    c.requires.settled (g.met.D.Disk.only_now c.args.disk.now) c.write_at.ensures.images c.write_at.ensures.time _ c.sync.ensures.images c.sync.ensures.time

pub returns-clause-settled : goal.returns-clause-settled
returns-clause-settled g c = on_ok_weaker c.sync.result
    (synced_step c.args.area _ _ (g.D.Disk.shows c.args.disk.now) (g.D.Disk.shows c.write_at.new.self) (g.D.Disk.shows c.sync.new.self) c.requires.settled c.write_at.ensures.images c.write_at.ensures.time.told c.in_ok-write_at.ensures.written c.sync.ensures.reads c.sync.ensures.images)
    c.sync.ensures.durable
