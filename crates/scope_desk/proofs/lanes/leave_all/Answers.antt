use Rattle.std.proofs.Common.{◌<◌, length, arith}
use Rattle.scope_desk.specs.Lanes.{lane_at}
use Rattle.scope_desk.proofs.LaneLemmas.{left_more}
use Rattle.scope_desk.proofs.lanes.leave_all.Goals as goal

pub loop-item-preserved : goal.loop-item-preserved
loop-item-preserved c = λ k.
    let within : c.loop-item.item-index < length c.args.scope.now = omega arith in
    left_more c.args.number k c.loop-item.item-index 0 c.args.scope.now (lane_at c.loop-item.lanes.items k) (lane_at c.args.lanes.now.items k) (lane_at c.leave_one.new.lanes.items k) within
    (c.loop-item.invariant k) (rw (← c.from.ensures) (c.leave_one.ensures k))
