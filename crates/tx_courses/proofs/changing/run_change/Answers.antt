use Rattle.std.proofs.Common.{sym, ◌∙◌}
use Rattle.tx_courses.proofs.Calls.{past}
use Rattle.tx_courses.proofs.changing.run_change.Goals as goal

pub returns-then-is_past-clause-came : goal.returns-then-is_past-clause-came
returns-then-is_past-clause-came g c = past c.args.front.now c.args.course.now c.args.call.now c.requires.checked.there (sym c.is_past.ensures ∙ c.if-is_past.true)
