use Rattle.std.proofs.Common.{◌∙◌, arith}
use Rattle.key_order.specs.KeyOrder.{byte_rank}
use Rattle.key_order.proofs.ByteOrder.{after_front, at_end}
use Rattle.key_order.proofs.compare_ranked.Goals as goal

pub loop-place-init : goal.loop-place-init
loop-place-init c = after_front byte_rank _ _ _ c.same_front-place.ensures.within.0 c.same_front-place.ensures.within.1 c.same_front-place.ensures.same

pub returns : goal.returns
returns c = c.cmp-2.ensures ∙ at_end byte_rank c.loop-place.place _ _ (omega arith) ∙ c.loop-place.invariant
