use Rattle.std.proofs.Common.{subst, ◌∙◌}
use Rattle.idb_desk.specs.Steps.{IsDeskRun}
use Rattle.office_scenes.proofs.Laws.{driven_turn, turn_can, held_turn}
use Rattle.office_moves.proofs.Turning.{turn_goes, whether_so}
use Rattle.office_moves.proofs.running.take_turn.Goals as goal

pub unreachable-requires : goal.unreachable-requires
unreachable-requires c = let can = c.in_ok-taken.ensures.one ∙ turn_can c.args.office.now c.args.number c.requires.idle c.requires.holds in cc

pub returns-clause-leads : goal.returns-clause-leads
returns-clause-leads c = turn_goes (driven_turn c.step_laws.ensures.turn c.fitting_laws.ensures.turn c.showing_laws.ensures.turn) c.args.number c.args.office.now c.take_turn.new.self _
    (whether_so c.in_ok-taken.taken _ _ c.if-not-taken.false c.in_ok-taken.ensures.ran) (subst IsDeskRun c.desk.ensures c.is_run.ensures)

pub returns-clause-holds : goal.returns-clause-holds
returns-clause-holds c = held_turn c.telling_laws.ensures.held_posts c.args.number c.args.office.now c.take_turn.new.self _ (whether_so c.in_ok-taken.taken _ _ c.if-not-taken.false c.in_ok-taken.ensures.ran)
