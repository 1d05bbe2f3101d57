use Rattle.std.proofs.Common.{◌∙◌}
use Rattle.office_scenes.specs.Measures.{beyond_memory}
use Rattle.office_scenes.proofs.Laws.{one_less}
use Rattle.office_moves.proofs.Turning.{runs_still, runs_again}
use Rattle.office_moves.proofs.running.run_turns.Goals as goal

pub turns-init : goal.turns-init
turns-init g c = record { runs = runs_still c.args.office.now c.args.notes.now c.args.tx.now; number = c.requires.number; goes = c.requires.goes; holds = c.requires.holds }

pub turns-preserved : goal.turns-preserved
turns-preserved g c = record {
  runs = runs_again c.args.office.now c.turns.office c.run_turn.new.office c.args.notes.now c.turns.notes c.run_turn.new.notes c.args.tx.now c.turns.tx c.run_turn.new.tx c.turns.invariant.runs c.in_ok-on.ensures.runs;
  number = c.in_ok-on.ensures.runs.number ∙ c.turns.invariant.number;
  goes = c.in_ok-on.ensures.on c.if-not-on.false;
  holds = c.in_ok-on.ensures.holds;
}

pub turns-smaller : goal.turns-smaller
turns-smaller g c = one_less beyond_memory _ _ (c.in_ok-on.ensures.more c.if-not-on.false) (c.in_ok-on.ensures.few c.if-not-on.false)

pub returns-then-not-on-clause-runs : goal.returns-then-not-on-clause-runs
returns-then-not-on-clause-runs g c =
    runs_again c.args.office.now c.turns.office c.run_turn.new.office c.args.notes.now c.turns.notes c.run_turn.new.notes c.args.tx.now c.turns.tx c.run_turn.new.tx c.turns.invariant.runs c.in_ok-on.ensures.runs
