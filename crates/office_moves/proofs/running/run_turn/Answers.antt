use Rattle.std.proofs.Common.{false, Some, refl, ap, ◌∙◌, arith}
use Rattle.idb_calls.specs.declared.traces.Outcome.TheVariants.{Committed, Aborted}
use Rattle.session_txs.specs.Running.{SessionTxState}
use Rattle.office_moves.proofs.Turning.{runs_idle, runs_kept, runs_again, turn_did, turns_more}
use Rattle.office_moves.proofs.running.run_turn.Goals as goal

pub returns-in-Idle-clause-runs : goal.returns-in-Idle-clause-runs
returns-in-Idle-clause-runs g c =
    let h = c.in-Idle.ensures (λ e. cc) in
    runs_idle c.args.office.now c.run_tasks.new.office c.args.notes.now c.run_tasks.new.notes c.step.new.notes c.args.tx.now c.step.new.self Committed c.in_ok-run_tasks.ensures.keeps h.0 h.1

pub returns-in-Idle-clause-over : goal.returns-in-Idle-clause-over
returns-in-Idle-clause-over g c = λ e. record { outcome = Committed; end = ap (λ (t : SessionTxState). t.end) (c.in-Idle.ensures (λ k. cc)).0; sure = refl }

pub returns-in_ok-take_turn-in-Did-clause-runs : goal.returns-in_ok-take_turn-in-Did-clause-runs
returns-in_ok-take_turn-in-Did-clause-runs g c =
    let h = c.in-Did.ensures (λ e. cc) in
    turn_did c.args.number c.len-from.result c.args.office.now c.run_tasks.new.office c.take_turn.new.office c.args.notes.now c.run_tasks.new.notes c.step.new.notes h.0 c.args.tx.now c.step.new.self c.args.tx.now.end
    c.requires.number c.len-from.ensures c.in_ok-run_tasks.ensures.keeps h.1 h.2 c.in_ok-take_turn-in-Did.ensures.leads

pub returns-in_ok-take_turn-in-Did-clause-on : goal.returns-in_ok-take_turn-in-Did-clause-on
returns-in_ok-take_turn-in-Did-clause-on g c = λ e. ap (λ (t : SessionTxState). t.end) (c.in-Did.ensures (λ k. cc)).1 ∙ c.requires.goes

pub returns-in_ok-run_tasks-in-Aborted-clause-runs : goal.returns-in_ok-run_tasks-in-Aborted-clause-runs
returns-in_ok-run_tasks-in-Aborted-clause-runs g c =
    let h = c.in-Aborted.ensures (λ e. cc) in
    runs_again c.args.office.now c.take_turn-in-Aborted.new.office c.run_tasks-in-Aborted.new.office c.args.notes.now c.step.new.notes c.run_tasks-in-Aborted.new.notes c.args.tx.now c.step.new.self c.step.new.self
    (turn_did c.args.number c.len-from.result c.args.office.now c.run_tasks.new.office c.take_turn-in-Aborted.new.office c.args.notes.now c.run_tasks.new.notes c.step.new.notes h.0 c.args.tx.now c.step.new.self (Some (Aborted c.in-Aborted.error false))
    c.requires.number c.len-from.ensures c.in_ok-run_tasks.ensures.keeps h.1 h.2 c.in_ok-take_turn-in-Aborted.ensures.leads)
    (runs_kept c.take_turn-in-Aborted.new.office c.run_tasks-in-Aborted.new.office c.step.new.notes c.run_tasks-in-Aborted.new.notes c.step.new.self c.in_ok-run_tasks-in-Aborted.ensures.keeps)

pub returns-in_ok-run_tasks-in-Aborted-clause-over : goal.returns-in_ok-run_tasks-in-Aborted-clause-over
returns-in_ok-run_tasks-in-Aborted-clause-over g c = λ e. record { outcome = Aborted c.in-Aborted.error false; end = ap (λ (t : SessionTxState). t.end) (c.in-Aborted.ensures (λ k. cc)).1; sure = refl }

pub take_turn-requires-clause-holds : goal.take_turn-requires-clause-holds
take_turn-requires-clause-holds g c = c.in_ok-run_tasks.ensures.holds c.args.number c.requires.holds

pub take_turn-requires-in-Aborted-clause-holds : goal.take_turn-requires-in-Aborted-clause-holds
take_turn-requires-in-Aborted-clause-holds g c = c.in_ok-run_tasks.ensures.holds c.args.number c.requires.holds

pub returns-in-Idle-clause-holds : goal.returns-in-Idle-clause-holds
returns-in-Idle-clause-holds g c = c.in_ok-run_tasks.ensures.holds c.args.number c.requires.holds

pub returns-in_ok-take_turn-in-Did-clause-more : goal.returns-in_ok-take_turn-in-Did-clause-more
returns-in_ok-take_turn-in-Did-clause-more g c = λ e. turns_more c.args.tx.now c.step.new.self _ (c.in-Did.ensures (λ k. cc)).1

pub returns-in_ok-take_turn-in-Did-clause-few : goal.returns-in_ok-take_turn-in-Did-clause-few
returns-in_ok-take_turn-in-Did-clause-few g c = λ e. omega (arith, c.turn_count.ensures)

pub returns-in_ok-run_tasks-in-Aborted-clause-holds : goal.returns-in_ok-run_tasks-in-Aborted-clause-holds
returns-in_ok-run_tasks-in-Aborted-clause-holds g c = c.in_ok-run_tasks-in-Aborted.ensures.holds c.args.number c.in_ok-take_turn-in-Aborted.ensures.holds
