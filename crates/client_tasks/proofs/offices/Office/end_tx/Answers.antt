use Rattle.std.proofs.Common.{sym, subst}
use Rattle.client_parts.specs.Holding.{kind_seen}
use Rattle.client_parts.specs.declared.held_txs.TxKindHeld.{TxKindHeld}
use Rattle.client_tasks.specs.Steps.{EndsInto}
use Rattle.client_tasks.proofs.Stepping.{ended_own, ended_upgrade, ended_deletion}
use Rattle.client_tasks.proofs.offices.Office.end_tx.Goals as goal

pub returns-in_ok-run_now-in-Own : goal.returns-in_ok-run_now-in-Own
returns-in_ok-run_now-in-Own c =
    subst (λ (k : TxKindHeld). EndsInto c.args.number c.args.outcome (kind_seen k) c.args.self.now c.args.notes.now c.run_now.new.self c.run_now.new.notes) (sym c.in-Own.is)
    (ended_own c.args.self.now c.run_now.new.self c.args.number c.args.outcome c.in-Own.complete c.in-Own.abort c.end_block.result c.in-Own.env c.in_ok-env-in-Own.env c.end_line.result c.args.notes.now c.push.new.self c.run_now.new.notes
    c.in_ok-env-in-Own.ensures c.end_block.ensures c.end_line.ensures c.in_ok-push-in-Own.ensures.stored c.in_ok-run_now-in-Own.ensures)

pub returns-in_ok-push-in-Upgrade : goal.returns-in_ok-push-in-Upgrade
returns-in_ok-push-in-Upgrade c =
    subst (λ (k : TxKindHeld). EndsInto c.args.number c.args.outcome (kind_seen k) c.args.self.now c.args.notes.now c.args.self.now c.push-in-Upgrade.new.self) (sym c.in-Upgrade.is)
    (ended_upgrade c.args.self.now c.args.number c.args.outcome c.end_line-in-Upgrade.result c.args.notes.now c.push-in-Upgrade.new.self c.end_line-in-Upgrade.ensures c.in_ok-push-in-Upgrade.ensures.stored)

pub returns-in-Deletion : goal.returns-in-Deletion
returns-in-Deletion c =
    subst (λ (k : TxKindHeld). EndsInto c.args.number c.args.outcome (kind_seen k) c.args.self.now c.args.notes.now c.args.self.now c.args.notes.now) (sym c.in-Deletion.is)
    (ended_deletion c.args.self.now c.args.number c.args.outcome c.args.notes.now)
