use Rattle.live_stores.proofs.Living.{back}
use Rattle.live_stores.proofs.live.LiveStores.restore.Goals as goal

pub invariant_of-self : goal.invariant_of-self
invariant_of-self g c = back c.self.inside.items.items c.self.inside.version_before c.self.inside.version c.restore_all.new.items.items c.self.invariant c.restore_all.ensures.slots c.restore_all.ensures.before c.restore_all.ensures.restored
