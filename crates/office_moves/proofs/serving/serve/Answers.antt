use Rattle.office_moves.proofs.Served.{served_behind, served_less}
use Rattle.office_scenes.proofs.Laws.{works_still}
use Rattle.office_moves.proofs.Turning.{keeps_again, whether_not}
use Rattle.office_moves.proofs.serving.serve.Goals as goal

pub take_event-requires : goal.take_event-requires
take_event-requires c = record { at = (c.requires.at.0, works_still c.requires.at.0 c.args.office.now c.run_task.new.office c.args.notes.now c.run_task.new.notes (whether_not c.in_ok-run_task.field-0 _ _ c.if-branch.false c.in_ok-run_task.ensures.ran) c.requires.at.1) }

pub returns-clause-served : goal.returns-clause-served
returns-clause-served c = served_behind c.args.office.now c.run_task.new.office c.take_event.new.office c.args.notes.now c.run_task.new.notes c.take_event.new.notes c.in_ok-run_task.field-0 c.in_ok-take_event.field-0
    c.if-branch.false c.in_ok-run_task.ensures.one c.in_ok-run_task.ensures.ran c.in_ok-take_event.ensures.one c.in_ok-take_event.ensures.took

pub returns-clause-keeps : goal.returns-clause-keeps
returns-clause-keeps c = keeps_again c.args.office.now c.run_task.new.office c.take_event.new.office c.args.notes.now c.run_task.new.notes c.take_event.new.notes c.in_ok-run_task.ensures.keeps c.in_ok-take_event.ensures.keeps

pub returns-clause-less : goal.returns-clause-less
returns-clause-less c = λ ready. served_less c.args.office.now c.run_task.new.office c.take_event.new.office c.args.notes.now c.run_task.new.notes c.take_event.new.notes c.in_ok-run_task.field-0 c.in_ok-take_event.field-0
    c.if-branch.false c.in_ok-run_task.ensures.one c.in_ok-run_task.ensures.ran c.in_ok-take_event.ensures.one c.in_ok-take_event.ensures.less ready
