use Rattle.std.proofs.Common.{sym}
use Rattle.list_machine.specs.Seeing.{pulled_reacts, pulled_writes}
use Rattle.entry_runs.specs.Courses.{state_with}
use Rattle.live_tx.proofs.Turns.{turn_idle, first_none}
use Rattle.live_tx.proofs.turning.turn_first.Goals as goal

pub returns-in-Nothing-clause-turned : goal.returns-in-Nothing-clause-turned
returns-in-Nothing-clause-turned g c whole = turn_idle
    (pulled_reacts g.H.Handler.plain g.H.Handler.reacts) (pulled_writes g.H.Handler.plain g.H.Handler.writes)
    (state_with c.args.front.now c.args.course.now) (g.H.Handler.lines c.args.notes.now) c.args.told.now c.requires.goes_on
    (first_none c.args.front.now.waiting (sym c.in-Nothing.ensures))
