use Rattle.std.proofs.Common.{inr, ap, ◌∙◌}
use Rattle.script_runner.proofs.Within.{within_limits}
use Rattle.script_runner.proofs.Running.{ran_so, unopened_stops, stopped_in, rose_since}
use Rattle.script_runner.proofs.sessions.run_on.Goals as goal

pub run_session-ran-requires-clause-within : goal.run_session-ran-requires-clause-within
run_session-ran-requires-clause-within g c κs within = within_limits c.in-Ok.ensures.gives.batches c.in-Ok.opened.items c.in-Ok.ensures.gives.gives

pub returns-in-Err-clause-stops : goal.returns-in-Err-clause-stops
returns-in-Err-clause-stops g c =
    unopened_stops c.args.session (g.D.Disk.shows c.args.disk) (g.D.Disk.shows c.in-Err.disk) c.in-Err.error c.unopened.result c.unopened.ensures c.in-Err.ensures.left c.in-Err.ensures.disk_fault c.in-Err.ensures.damaged

pub returns-in-Ok-ran-clause-runs : goal.returns-in-Ok-ran-clause-runs
returns-in-Ok-ran-clause-runs g c =
    ran_so (g.D.Disk.shows c.args.disk) (g.D.Disk.shows c.run_session-ran.result.1) c.args.number c.args.session c.in-Ok-ran.report c.in-Ok.opened.items c.in-Ok.ensures.items
    (rw c.in-Ok-ran.is at c.run_session-ran.ensures.reports) (c.run_session-ran.ensures.started ∙ c.in-Ok.ensures.any_moment.started) (λ by_fault. rose_since _ _ _ c.in-Ok.ensures.count ((rw c.in-Ok-ran.is at c.run_session-ran.ensures.fault) by_fault))

pub returns-in-Err-ran-clause-stops : goal.returns-in-Err-ran-clause-stops
returns-in-Err-ran-clause-stops g c =
    inr (stopped_in c.args.session (g.D.Disk.shows c.args.disk) _ (g.D.Disk.shows c.run_session-ran.result.1) c.in-Ok.opened.items c.in-Ok.ensures.items c.in-Ok.ensures.count (rw c.in-Err-ran.is at c.run_session-ran.ensures.stops))
