use Rattle.std.proofs.Common.{is_some, ap, ◌∙◌}
use Rattle.session_txs.specs.Running.{SessionTxState}
use Rattle.session_tests.proofs.session_txs_tests.turn.Goals as goal

pub returns-in-Did-clause-on : goal.returns-in-Did-clause-on
returns-in-Did-clause-on g c = λ e. ap (λ (t : SessionTxState). t.end) (c.in-Did.ensures (λ k. cc)).1 ∙ c.requires

pub returns-in-Idle-clause-over : goal.returns-in-Idle-clause-over
returns-in-Idle-clause-over g c = λ e. ap (λ (t : SessionTxState). is_some t.end) (c.in-Idle.ensures (λ k. cc)).0

pub returns-in-Aborted-clause-over : goal.returns-in-Aborted-clause-over
returns-in-Aborted-clause-over g c = λ e. ap (λ (t : SessionTxState). is_some t.end) (c.in-Aborted.ensures (λ k. cc)).1
