use Rattle.live_stores.proofs.Endings.{none_stand}
use Rattle.live_stores.proofs.stores.Stores.new.Goals as goal

pub returns : goal.returns
returns g c = none_stand c.new.result.items c.new.ensures.items
