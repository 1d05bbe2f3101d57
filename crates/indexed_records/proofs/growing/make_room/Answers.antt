use Rattle.std.proofs.Common.{arith}
use Rattle.store_contents.proofs.Laws.{kept_in_step, roomy_in_step, filled_in_step, filled_count}
use Rattle.indexed_records.proofs.growing.make_room.Goals as goal

pub returns-in_err-reserve_each-clause-kept : goal.returns-in_err-reserve_each-clause-kept
returns-in_err-reserve_each-clause-kept g c records spare h =
    kept_in_step _ _ _ records spare c.reserve_each.ensures.kept (filled_in_step _ _ _ _ records spare (omega arith) h c.in_ok-complete.ensures.ok)

pub returns-clause-kept : goal.returns-clause-kept
returns-clause-kept g c records spare h =
    kept_in_step _ _ _ records spare c.reserve_each.ensures.kept (filled_in_step _ _ _ _ records spare (omega arith) h c.in_ok-complete.ensures.ok)

pub returns-clause-room : goal.returns-clause-room
returns-clause-room g c records spare h =
    roomy_in_step _ _ _ records spare c.args.rows (filled_count _ _ _ c.in_ok-complete.ensures.ok) c.reserve_each.ensures.kept c.in_ok-reserve_each.ensures.room
    (filled_in_step _ _ _ _ records spare (omega arith) h c.in_ok-complete.ensures.ok)
