use Rattle.std.proofs.Common.{◌∙◌}
use Rattle.live_stores.proofs.Living.{begun, begun_seen}
use Rattle.live_stores.proofs.live.LiveStores.new.Goals as goal

pub invariant_of-result : goal.invariant_of-result
invariant_of-result g c = begun c.into_slots.result.items c.args.version c.into_slots.ensures.given (λ n. c.into_slots.ensures.stores ∙ c.requires n)

pub returns : goal.returns
returns g c = begun_seen c.into_slots.result.items c.args.version c.args.stores c.into_slots.ensures.given c.into_slots.ensures.stores
