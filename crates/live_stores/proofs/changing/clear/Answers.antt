use Rattle.live_stores.proofs.Runs.{can_take_back}
use Rattle.live_stores.proofs.changing.clear.Goals as goal

pub take_back-requires-after_bounds : goal.take_back-requires-after_bounds
take_back-requires-after_bounds g c κs within =
    can_take_back c.args.store.now c.clear_store.new.store c.mark-before.result c.mark-before.ensures.place c.mark-before.ensures.here c.in-Err.ensures.past
    c.mark-before.ensures.current c.mark-before.ensures.sound
