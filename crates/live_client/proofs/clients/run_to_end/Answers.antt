use Rattle.std.proofs.Common.{ℕ, subst, arith}
use Rattle.list_machine.specs.declared.steps.Step.TheVariants as steps
use Rattle.live_client.specs.Upgrades.{GoesFor}
use Rattle.live_client.proofs.UpgradesLemmas.{no_turn, one_more, ends_so}
use Rattle.live_client.proofs.clients.run_to_end.Goals as goal

pub loop-turn-init : goal.loop-turn-init
loop-turn-init g c = no_turn c.args.live.now.state c.args.notes.now

pub loop-turn-preserved : goal.loop-turn-preserved
loop-turn-preserved g c = one_more c.loop-turn.turn c.args.live.now.state c.loop-turn.live.state c.step.new.self.state c.args.notes.now c.loop-turn.notes c.step.new.notes c.loop-turn.invariant (c.in-Did.ensures.turn (λ e. cc))

pub returns-in-Idle : goal.returns-in-Idle
returns-in-Idle g c = ends_so c.loop-turn.turn c.args.live.now.state c.loop-turn.live.state c.step.new.self.state c.args.notes.now c.loop-turn.notes c.step.new.notes c.loop-turn.invariant steps.Idle (λ e. cc) (c.in-Idle.ensures.turn (λ e. cc))

pub returns-in-Aborted : goal.returns-in-Aborted
returns-in-Aborted g c = ends_so c.loop-turn.turn c.args.live.now.state c.loop-turn.live.state c.step.new.self.state c.args.notes.now c.loop-turn.notes c.step.new.notes c.loop-turn.invariant (steps.Aborted c.in-Aborted.error) (λ e. cc) (c.in-Aborted.ensures.turn (λ e. cc))

pub returns : goal.returns
returns g c = subst (λ (n : ℕ). GoesFor n c.args.live.now.state c.loop-turn.live.state c.args.notes.now c.loop-turn.notes) (omega arith) c.loop-turn.invariant
