use Rattle.std.proofs.Common.{sym, ◌∙◌, arith}
use Rattle.key_order.proofs.ByteOrder.{longer_front}
use Rattle.key_order.specs.declared.TheConstants.{BLOCK}
use Rattle.key_order.proofs.same_front.Goals as goal

pub loop-place-preserved : goal.loop-place-preserved
loop-place-preserved c = (omega arith, omega arith, longer_front c.loop-place.place BLOCK c.args.a.now c.args.b.now c.loop-place.invariant.2 (sym c.ne.ensures ∙ c.if-ne.false))
