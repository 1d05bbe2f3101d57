use Rattle.std.proofs.Common.{rules, ap}
use Rattle.request_lists.specs.Placing.{Stays, after_abort}
use Rattle.request_lists.proofs.Becoming.{becomes_aborted}
use Rattle.request_lists.proofs.front.TxFront.abort.Goals as goal

pub returns-then-is_committing-clause-becomes : goal.returns-then-is_committing-clause-becomes
returns-then-is_committing-clause-becomes g c = Stays

pub returns-then-is_finished-clause-becomes : goal.returns-then-is_finished-clause-becomes
returns-then-is_finished-clause-becomes g c = Stays

pub returns-clause-becomes : goal.returns-clause-becomes
returns-clause-becomes g c = becomes_aborted c.args.self.now _ (search rules) (ap after_abort c.self.view_is)
