use Rattle.std.proofs.Common.{sym}
use Rattle.entry_runs.specs.Courses.{state_with}
use Rattle.live_tx.proofs.FirstEntries.{first_checked, first_came}
use Rattle.live_tx.proofs.entries.request_first.Goals as goal

pub run_request-requires-clause-checked : goal.run_request-requires-clause-checked
run_request-requires-clause-checked g c ks within = first_checked (state_with c.args.front.now c.args.course.now) c.in-Some.entry.now c.in-Request.request c.in-Request.call c.in-Request.handler c.in-Request.is c.requires.ready (sym c.in-Some.ensures)

pub returns-in-Request-clause-came : goal.returns-in-Request-clause-came
returns-in-Request-clause-came g c = first_came
    c.args.front.now c.args.course.now c.in-Some.entry.now c.in-Request.request c.in-Request.call c.in-Request.handler c.in_ok-reply-in-Request.reply c.event_of.result c.run_request.new.course
    c.in-Request.is (sym c.in-Some.ensures) c.in_ok-reply-in-Request.ensures.replied c.event_of.ensures.told
