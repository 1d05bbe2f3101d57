use Rattle.std.proofs.Common.{◌∙◌, ◌-◌, arith, sym}
use Rattle.idb_cursors.specs.View.{turn_seen}
use Rattle.idb_cursors.proofs.Further.{forward_further, forward_short, back_further, back_short, plain_within}
use Rattle.idb_cursors.proofs.turns.further.Goals as goal

pub returns-then-more-len-clause-value : goal.returns-then-more-len-clause-value
returns-then-more-len-clause-value g c =
    c.place_within.ensures.value
    ∙ forward_further (g.R.RowView.rows c.args.rows.now) (g.met.R.RowView.rises c.args.rows.now) (turn_seen c.args.turn.now) c.args.more c.args.place (sym c.is_forward.ensures ∙ c.if-is_forward.true) c.requires.plain c.requires.taken

pub returns-else-more-len-clause-value : goal.returns-else-more-len-clause-value
returns-else-more-len-clause-value g c =
    let rows = g.R.RowView.rows c.args.rows.now in
    let rises = g.met.R.RowView.rises c.args.rows.now in
    let turn = turn_seen c.args.turn.now in
    let within = plain_within rows rises turn c.args.place c.requires.plain c.requires.taken in
    forward_short rows rises turn c.args.more c.args.place (omega (arith, c.if-more-len.false, c.len.ensures, within)) (sym c.is_forward.ensures ∙ c.if-is_forward.true) c.requires.plain c.requires.taken

pub returns-then-more-place-clause-value : goal.returns-then-more-place-clause-value
returns-then-more-place-clause-value g c =
    c.place_within-then-more-place.ensures.value
    ∙ back_further (g.R.RowView.rows c.args.rows.now) (g.met.R.RowView.rises c.args.rows.now) (turn_seen c.args.turn.now) c.args.more (c.args.place - c.args.more) c.args.place (omega (arith, c.if-more-place.true)) (sym c.is_forward.ensures ∙ c.if-is_forward.false) c.requires.plain c.requires.taken

pub returns-else-more-place-clause-value : goal.returns-else-more-place-clause-value
returns-else-more-place-clause-value g c =
    back_short (g.R.RowView.rows c.args.rows.now) (g.met.R.RowView.rises c.args.rows.now) (turn_seen c.args.turn.now) c.args.more c.args.place (omega (arith, c.if-more-place.false)) (sym c.is_forward.ensures ∙ c.if-is_forward.false) c.requires.plain c.requires.taken
