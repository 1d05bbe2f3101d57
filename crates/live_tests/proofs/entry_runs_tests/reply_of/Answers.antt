use Rattle.tx_courses.specs.Courses.{state_with}
use Rattle.live_tests.proofs.entry_runs_tests.reply_of.Goals as goal

pub run_request-requires-clause-checked : goal.run_request-requires-clause-checked
run_request-requires-clause-checked g c κs = c.call_of-call.ensures.checked (state_with c.args.front.now c.args.course.now)
