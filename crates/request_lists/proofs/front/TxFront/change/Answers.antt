use Rattle.std.proofs.Common.{◌∙◌, ap}
use Rattle.version_upgrade.specs.Upgrades.{refusal_of_schema}
use Rattle.request_lists.specs.Fronts.{Front}
use Rattle.request_lists.proofs.Accepted.{change_put}
use Rattle.request_lists.proofs.front.TxFront.change.Goals as goal

pub apply-requires : goal.apply-requires
apply-requires g c = ap (λ (f : Front g.row.H.Denot). refusal_of_schema f.schema c.args.call) c.self.view_is ∙ c.requires

pub returns-clause-changed : goal.returns-clause-changed
returns-clause-changed g c = change_put _ c.args.self.now c.args.call c.apply.new.schema c.reserve.new.self.items c.push_back_reserved.new.self.items c.in_ok-apply.ensures.changed c.push_back_reserved.ensures.items c.reserve.ensures.items c.self.view_is
