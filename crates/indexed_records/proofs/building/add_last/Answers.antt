use Rattle.std.proofs.Common.{◌∙◌, arith}
use Rattle.store_contents.proofs.Laws.{filled_in_step, filled_count, pushed_in_step}
use Rattle.indexed_records.proofs.building.add_last.Goals as goal

pub returns-in_err-push_both-clause-step : goal.returns-in_err-push_both-clause-step
returns-in_err-push_both-clause-step g c h =
    rw (c.in_err-push_both.ensures.no_index, c.in_err-push_both.ensures.no_table) (filled_in_step _ _ _ _ _ _ (omega arith) h c.in_ok-complete.ensures.ok)

pub returns-clause-step : goal.returns-clause-step
returns-clause-step g c h =
    rw (c.in_ok-push_both.ensures.index, c.in_ok-push_both.ensures.table)
    (pushed_in_step _ _ _ _ _ _ (filled_in_step _ _ _ _ _ _ (omega arith) h c.in_ok-complete.ensures.ok) (filled_count _ _ _ c.in_ok-complete.ensures.ok)
    (c.reserve.ensures.rows ∙ c.in_ok-key.ensures.rows) c.in_ok-reserve.ensures.room)
