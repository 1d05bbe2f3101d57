use Rattle.std.proofs.Common.{◌≤◌, ◌∙◌, sym, ap, subst, arith}
use Rattle.index_tables.specs.Rows.{IndexRows}
use Rattle.store_contents.proofs.Laws.{filled_in_step, filled_count, unplaced_in_step, taken_room, taken_rows}
use Rattle.indexed_records.proofs.dropping.taken_at.Goals as goal

pub returns-in_err-infos-clause-step : goal.returns-in_err-infos-clause-step
returns-in_err-infos-clause-step g c records h = filled_in_step _ _ _ _ records _ (omega arith) h c.in_ok-complete.ensures.ok

pub returns-in_err-room-clause-step : goal.returns-in_err-room-clause-step
returns-in_err-room-clause-step g c records h = filled_in_step _ _ _ _ records _ (omega arith) h c.in_ok-complete.ensures.ok

pub invariant_of-result : goal.invariant_of-result
invariant_of-result g c =
    let filled = filled_in_step _ _ _ _ c.requires.step.0 _ (omega arith) c.requires.step.1 c.in_ok-complete.ensures.ok in (
      c.in_ok-infos.ensures.items,
      c.in_ok-room.ensures.items,
      omega (arith, c.in_ok-infos.ensures.exact),
      omega (arith, c.in_ok-room.ensures.exact),
      subst (λ (t : IndexRows). c.args.spare ≤ t.spare) (sym c.boxed.ensures)
          (taken_room c.args.place _ _ _ _ filled (filled_count _ _ _ c.in_ok-complete.ensures.ok) c.requires.place _ c.remove-table.ensures.value),
    )

pub returns-clause-step : goal.returns-clause-step
returns-clause-step g c records h =
    rw (c.remove_at-index.ensures.left, c.remove-table.ensures.items)
    (unplaced_in_step c.args.place _ _ records _ (filled_in_step _ _ _ _ records _ (omega arith) h c.in_ok-complete.ensures.ok) (filled_count _ _ _ c.in_ok-complete.ensures.ok) c.requires.place)

pub returns-clause-rows : goal.returns-clause-rows
returns-clause-rows g c records h =
    ap (λ (t : IndexRows). t.rows) c.boxed.ensures
    ∙ taken_rows c.args.place _ _ records _ (filled_in_step _ _ _ _ records _ (omega arith) h c.in_ok-complete.ensures.ok) (filled_count _ _ _ c.in_ok-complete.ensures.ok) c.requires.place _ c.remove-table.ensures.value
    _ c.remove_at-index.ensures.given
