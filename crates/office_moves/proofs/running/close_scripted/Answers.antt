use Rattle.std.proofs.Common.{ap, ◌∙◌, Some}
use Rattle.idb_desk.specs.Durabilities.{durability_drawn}
use Rattle.idb_desk.specs.Steps.{DeskRun}
use Rattle.serial_order.specs.FinishEntries.{Scripted}
use Rattle.office_scenes.specs.Running.{begun_run}
use Rattle.office_scenes.proofs.Laws.{whole_at, loggable_at}
use Rattle.office_moves.proofs.Turning.{closes_so, loggable_so}
use Rattle.office_moves.proofs.running.close_scripted.Goals as goal

pub begin-requires-clause-fits : goal.begin-requires-clause-fits
begin-requires-clause-fits g c κs within = whole_at c.showing_laws.ensures.whole (Some (begun_run c.args.number (Scripted c.args.begun.body))) c.args.office.now c.args.notes.now c.requires.on.0 c.args.databases.now c.args.number c.args.begun.body c.requires.on.1 c.requires.holds

pub begin-requires-clause-loggable : goal.begin-requires-clause-loggable
begin-requires-clause-loggable g c κs within = loggable_at c.version_laws.ensures.bodies c.limit_laws.ensures.bodies c.version_laws.ensures.held (Some (begun_run c.args.number (Scripted c.args.begun.body))) c.args.office.now c.args.notes.now c.requires.on.0 c.args.databases.now c.args.number c.args.begun.body c.requires.on.1 c.requires.holds

pub returns-clause-closes : goal.returns-clause-closes
returns-clause-closes g c =
    let trace = c.close-trace.result.trace in
    closes_so c.args.number c.args.begun.body c.args.office.now c.run_turns.new.office c.args.notes.now c.run_turns.new.notes c.in_ok-tx.tx c.run_turns.new.tx c.args.databases.now c.begin.new.databases trace c.timed-trace.result c.close-trace.result.kept c.close-trace.result.left
    c.in_ok-tx.ensures.begins c.in_ok-tx.ensures.left c.in_ok-run_turns.ensures.runs c.in_ok-run_turns.ensures.over c.close-trace.ensures.outcome c.close-trace.ensures.ran c.close-trace.ensures.doubted c.close-trace.ensures.left c.close-trace.ensures.number c.close-trace.ensures.mode
    (whole_at c.showing_laws.ensures.whole (Some (begun_run c.args.number (Scripted c.args.begun.body))) c.args.office.now c.args.notes.now c.requires.on.0 c.args.databases.now c.args.number c.args.begun.body c.requires.on.1 c.requires.holds)
    (c.timed-trace.ensures ∙ ap (λ (r : DeskRun). record trace { durability = durability_drawn r.order trace.number }) c.desk.ensures)

pub returns-clause-loggable : goal.returns-clause-loggable
returns-clause-loggable g c = λ commit. loggable_so c.close-trace.result.trace c.timed-trace.result _ c.timed-trace.ensures commit c.close-trace.ensures.loggable
