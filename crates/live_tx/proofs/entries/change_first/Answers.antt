use Rattle.std.proofs.Common.{sym}
use Rattle.entry_runs.specs.Courses.{state_with}
use Rattle.live_tx.proofs.FirstEntries.{first_finds, first_changed}
use Rattle.live_tx.proofs.entries.change_first.Goals as goal

pub run_change-requires-clause-finds : goal.run_change-requires-clause-finds
run_change-requires-clause-finds g c ks within = first_finds (state_with c.args.front.now c.args.course.now) c.in-Some.entry.now c.in-Change.call c.in-Change.is c.requires.ready (sym c.in-Some.ensures)

pub returns-in-Change-clause-came : goal.returns-in-Change-clause-came
returns-in-Change-clause-came g c = first_changed
    c.args.front.now c.args.course.now c.in-Some.entry.now c.in-Change.call c.in_ok-stop-in-Change.stop c.run_change.new.course
    c.in-Change.is (sym c.in-Some.ensures) c.in_ok-stop-in-Change.ensures.came
