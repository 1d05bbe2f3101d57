use Rattle.std.proofs.Common.{arith}
use Rattle.disk_trait.proofs.Laws.{widens}
use Rattle.disk_trait.proofs.SinceSync.{torn_within}
use Rattle.disk_trait.proofs.synced.rewrite_synced.Goals as goal

pub returns-clause-outside : goal.returns-clause-outside
returns-clause-outside g c = widens c.write_synced.ensures.any_moment
    (λ image from.
    let long = g.met.D.Disk.lengths_are_told c.args.disk.now from.given c.args.area from.was_given in record {
      given = from.given;
      was_given = from.was_given;
      stepped = record { here = torn_within _ _ _ _ (omega (arith, long, c.requires.within)) from.stepped.here; elsewhere = from.stepped.elsewhere };
    })
