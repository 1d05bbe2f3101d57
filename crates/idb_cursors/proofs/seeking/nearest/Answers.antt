use Rattle.std.proofs.Common.{◌∙◌, ◌-◌, arith, sym, subst}
use Rattle.index_tables.specs.Halves.{IsSplitAt}
use Rattle.idb_cursors.specs.Seeking.{is_behind}
use Rattle.idb_cursors.specs.View.{turn_seen}
use Rattle.idb_cursors.proofs.Nearest.{forward_nearest, back_nearest, back_none}
use Rattle.idb_cursors.proofs.seeking.nearest.Goals as goal

pub returns-then-is_forward-clause-value : goal.returns-then-is_forward-clause-value
returns-then-is_forward-clause-value g c =
    c.place_within.ensures.value
    ∙ forward_nearest (g.R.RowView.rows c.args.rows.now) (turn_seen c.args.turn.now) (g.met.R.RowView.rises c.args.rows.now) c.split_near-place.result c.split_near-place.ensures.split (sym c.is_forward.ensures ∙ c.if-is_forward.true)

pub returns-then-place-eq0-clause-value : goal.returns-then-place-eq0-clause-value
returns-then-place-eq0-clause-value g c =
    let rows = g.R.RowView.rows c.args.rows.now in
    let turn = turn_seen c.args.turn.now in
    back_none rows turn (g.met.R.RowView.rises c.args.rows.now) (subst (λ i. IsSplitAt (is_behind turn) rows i) (omega (arith, c.if-place-eq0.true)) c.split_near-place.ensures.split) (sym c.is_forward.ensures ∙ c.if-is_forward.false)

pub returns-else-place-eq0-clause-value : goal.returns-else-place-eq0-clause-value
returns-else-place-eq0-clause-value g c =
    let rows = g.R.RowView.rows c.args.rows.now in
    let turn = turn_seen c.args.turn.now in
    c.place_within-else-place-eq0.ensures.value
    ∙ back_nearest rows turn (g.met.R.RowView.rises c.args.rows.now) (c.split_near-place.result - 1) (subst (λ i. IsSplitAt (is_behind turn) rows i) (omega (arith, c.if-place-eq0.false)) c.split_near-place.ensures.split) (sym c.is_forward.ensures ∙ c.if-is_forward.false)
