use Rattle.std.proofs.Common.{rules, ap}
use Rattle.request_lists.specs.Placing.{Stays, after_commit}
use Rattle.request_lists.proofs.Becoming.{becomes_committing}
use Rattle.request_lists.proofs.front.TxFront.commit.Goals as goal

pub returns-then-not-is_active-clause-becomes : goal.returns-then-not-is_active-clause-becomes
returns-then-not-is_active-clause-becomes g c = Stays

pub returns-clause-becomes : goal.returns-clause-becomes
returns-clause-becomes g c = becomes_committing c.args.self.now _ (search rules) (ap after_commit c.self.view_is)
