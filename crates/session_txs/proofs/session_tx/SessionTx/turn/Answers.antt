use Rattle.std.proofs.Common.{ap, ◌∙◌}
use Rattle.session_txs.specs.Running.{SessionTxState}
use Rattle.session_txs.proofs.Stepping.{did_keep, idle_keep, aborted_keep, can_did, can_idle}
use Rattle.session_txs.proofs.session_tx.SessionTx.turn.Goals as goal

pub invariant_of-self-in-Did : goal.invariant_of-self-in-Did
invariant_of-self-in-Did g c = did_keep _ _ _ c.step.new.self.state _ _ _ c.self.invariant (ap (λ (t : SessionTxState). t.end) c.self.view_is ∙ c.requires) c.if-self.false c.step.ensures.before
    _ _ c.of-before.result.value _ (c.in-Did.ensures.turn (λ e. cc)) c.of-before.ensures c.in-Ok.ensures
    (can_did _ _ _ c.step.new.self.state _ _ _ c.self.invariant (ap (λ (t : SessionTxState). t.end) c.self.view_is ∙ c.requires) c.if-self.false c.step.ensures.before (λ o n st ls t. c.logging_laws.ensures.turn o n st ls t) c.run_laws.ensures.states c.stand_sound.ensures c.stand_sound-in-Did.ensures (λ o n ls t. c.limit_laws.ensures.turn o n ls t) _ _ (c.in-Did.ensures.turn (λ e. cc)))

pub invariant_of-self-in-Idle : goal.invariant_of-self-in-Idle
invariant_of-self-in-Idle g c = idle_keep _ _ _ c.step.new.self.state _ _ _ c.self.invariant (ap (λ (t : SessionTxState). t.end) c.self.view_is ∙ c.requires) c.if-self.false c.step.ensures.before
    _ _ (c.in-Idle.ensures.turn (λ e. cc))
    (can_idle _ _ _ c.step.new.self.state _ _ _ c.self.invariant (ap (λ (t : SessionTxState). t.end) c.self.view_is ∙ c.requires) c.if-self.false c.step.ensures.before (λ o n st ls t. c.logging_laws.ensures.turn o n st ls t) c.run_laws.ensures.states c.stand_sound.ensures c.stand_sound-in-Idle.ensures _ _ (c.in-Idle.ensures.turn (λ e. cc)))

pub invariant_of-self-in-Aborted : goal.invariant_of-self-in-Aborted
invariant_of-self-in-Aborted g c = aborted_keep _ _ _ c.step.new.self.state _ _ _ c.self.invariant (ap (λ (t : SessionTxState). t.end) c.self.view_is ∙ c.requires) c.if-self.false c.step.ensures.before
    c.in-Aborted.error _ _ c.of-before.result.value _ (c.in-Aborted.ensures.turn (λ e. cc)) c.of-before.ensures c.in-Ok-note_turn.ensures
