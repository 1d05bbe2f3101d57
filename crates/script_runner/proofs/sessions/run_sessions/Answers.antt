use Rattle.std.proofs.Common.{◌∙◌, List, length, refl, ap, subst, eq-eqb, inl, arith}
use Rattle.script_statements.specs.declared.script.ScriptSession.{ScriptSession}
use Rattle.script_runner.specs.Running.{RanSoFar}
use Rattle.script_runner.proofs.Running.{none_ran, stands_still, stands_faulted, ran_more, have_stopped, rose_since, same_Err}
use Rattle.script_runner.proofs.sessions.run_sessions.Goals as goal

pub loop-session-init : goal.loop-session-init
loop-session-init g c = record {
  ran = none_ran (g.D.Disk.shows c.args.disk) c.args.sessions c.into_iter-session-iterator.result.rest.items (g.K.Sink.held c.args.sink.now) (c.into_iter-session-iterator.ensures.into_iter_gives.0 ∙ c.into_vec-session-items.ensures);
  told = refl;
  disk_count = omega arith;
  write_count = omega arith;
}

pub returns-in-Err-clause-stops : goal.returns-in-Err-clause-stops
returns-in-Err-clause-stops g c =
    let l = c.loop-session in (
      stands_faulted _ _ _ _ _ _ _ l.invariant.ran (g.D.Disk.shows c.restart.new.disk) (let k = ap length c.in-Some.ensures.steps.0 in omega (arith, k)) c.restart.ensures.images c.restart.ensures.cause.never_falls c.in-Err.ensures.cause.cause,
      rose_since _ _ _ l.invariant.disk_count c.in-Err.ensures.cause.cause,
    )

pub returns-in-Err-next_number-clause-stops : goal.returns-in-Err-next_number-clause-stops
returns-in-Err-next_number-clause-stops g c =
    inl (stands_still _ _ _ _ _ _ _ c.loop-session.invariant.ran (g.D.Disk.shows c.restart.new.disk) c.restart.ensures.images c.restart.ensures.cause.never_falls)

pub loop-session-preserved : goal.loop-session-preserved
loop-session-preserved g c =
    let l = c.loop-session in
    let d = rw c.in-Ok-reported.is at c.report_session-reported.ensures.done in
    let ran = subst (λ (rest : List ScriptSession). RanSoFar (g.D.Disk.shows c.args.disk) (g.D.Disk.shows l.disk) c.args.sessions rest (g.K.Sink.held c.args.sink.now) (g.K.Sink.held l.sink) l.number) c.in-Some.ensures.steps.0 l.invariant.ran in
    record {
      ran = ran_more _ _ (g.D.Disk.shows c.restart.new.disk) (g.D.Disk.shows c.report_session-reported.result.1) _ _ _ _ _ (g.K.Sink.held c.report_session-reported.new.sink) _ _ ran c.in-Ok-next_number.ensures c.restart.ensures.images (λ none. c.restart.ensures.first (eq-eqb l.number 0 none)) c.in-Ok.ensures.started c.in-Ok.ensures.given c.restart.ensures.cause.never_falls c.report_session-reported.ensures.disk_count (c.restart.ensures.told ∙ l.invariant.told) d.0 d.1 d.2;
      told = c.report_session-reported.ensures.told ∙ c.restart.ensures.told ∙ l.invariant.told;
      disk_count = omega (arith, l.invariant.disk_count, c.restart.ensures.cause.never_falls, c.report_session-reported.ensures.disk_count);
      write_count = omega (arith, l.invariant.write_count, c.report_session-reported.ensures.write_count);
    }

pub returns-in-Err-reported-clause-stops : goal.returns-in-Err-reported-clause-stops
returns-in-Err-reported-clause-stops g c =
    let l = c.loop-session in
    let ran = subst (λ (rest : List ScriptSession). RanSoFar (g.D.Disk.shows c.args.disk) (g.D.Disk.shows l.disk) c.args.sessions rest (g.K.Sink.held c.args.sink.now) (g.K.Sink.held l.sink) l.number) c.in-Some.ensures.steps.0 l.invariant.ran in
    have_stopped _ _ (g.D.Disk.shows c.restart.new.disk) (g.D.Disk.shows c.report_session-reported.result.1) _ _ _ _ _ (g.K.Sink.held c.report_session-reported.new.sink) _ _ ran c.in-Ok-next_number.ensures c.restart.ensures.images (λ none. c.restart.ensures.first (eq-eqb l.number 0 none)) c.in-Ok.ensures.started c.in-Ok.ensures.given c.restart.ensures.cause.never_falls c.report_session-reported.ensures.disk_count (c.restart.ensures.told ∙ l.invariant.told)
    c.in-Err-reported.stop (rw c.in-Err-reported.is at c.report_session-reported.ensures.stops)
    (λ other. ap (g.K.Sink.held) ((rw c.in-Err-reported.is at c.report_session-reported.ensures.unwritten) (λ e. other (same_Err e))))
    (omega (arith, l.invariant.disk_count, c.restart.ensures.cause.never_falls))
