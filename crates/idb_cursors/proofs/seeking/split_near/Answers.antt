use Rattle.std.proofs.Common.{arith}
use Rattle.idb_cursors.specs.View.{turn_seen}
use Rattle.idb_cursors.specs.Seeking.{is_behind}
use Rattle.idb_cursors.proofs.Nearest.{behind_rises, split_here}
use Rattle.idb_cursors.proofs.seeking.split_near.Goals as goal

pub returns-then-is_behind-clause-split : goal.returns-then-is_behind-clause-split
returns-then-is_behind-clause-split g c =
    let rows = g.R.RowView.rows c.args.rows.now in
    let turn = turn_seen c.args.turn.now in
    split_here (is_behind turn) rows c.args.guess (behind_rises rows turn (g.met.R.RowView.rises c.args.rows.now)) c.if-guess-gt0.true (omega (arith, c.if-guess-len.true, c.len.ensures))
    c.is_behind.result c.is_behind.ensures.value c.if-not-is_behind.true c.is_behind-then-not-is_behind.result c.is_behind-then-not-is_behind.ensures.value c.if-is_behind.true
