use Rattle.std.proofs.Common.{◌-◌, arith}
use Rattle.sorted_table.proofs.Laws.{split_below, split_above}
use Rattle.idb_cursors.specs.View.{turn_seen}
use Rattle.idb_cursors.specs.Seeking.{is_behind}
use Rattle.idb_cursors.proofs.Costs.{halved}
use Rattle.idb_cursors.proofs.Nearest.{behind_rises}
use Rattle.idb_cursors.proofs.seeking.split.Goals as goal

pub loop-low-preserved-then-is_behind : goal.loop-low-preserved-then-is_behind
loop-low-preserved-then-is_behind g c =
    let rows = g.R.RowView.rows c.args.rows.now in
    let turn = turn_seen c.args.turn.now in
    record {
      split = split_below (is_behind turn) rows c.loop-low.low _ c.loop-low.high (behind_rises rows turn (g.met.R.RowView.rises c.args.rows.now)) c.loop-low.invariant.split (omega arith) (omega (arith, c.loop-low-test.true)) c.is_behind.result c.is_behind.ensures.value c.if-is_behind.true;
      cost = λ d short. let e = c.loop-low.invariant.cost d short in
          halved c.loop-low.steps c.is_behind.new.steps _ (c.loop-low.high - c.loop-low.low) _ e.0 c.is_behind.ensures.counted (omega (arith, c.loop-low-test.true)) (omega (arith, c.loop-low-test.true)) e.1 e.2;
    }

pub loop-low-preserved : goal.loop-low-preserved
loop-low-preserved g c =
    let rows = g.R.RowView.rows c.args.rows.now in
    let turn = turn_seen c.args.turn.now in
    record {
      split = split_above (is_behind turn) rows c.loop-low.low _ c.loop-low.high (behind_rises rows turn (g.met.R.RowView.rises c.args.rows.now)) c.loop-low.invariant.split (omega arith) (omega (arith, c.loop-low-test.true)) c.is_behind.result c.is_behind.ensures.value c.if-is_behind.false;
      cost = λ d short. let e = c.loop-low.invariant.cost d short in
          halved c.loop-low.steps c.is_behind.new.steps _ (c.loop-low.high - c.loop-low.low) _ e.0 c.is_behind.ensures.counted (omega (arith, c.loop-low-test.true)) (omega (arith, c.loop-low-test.true)) e.1 e.2;
    }
