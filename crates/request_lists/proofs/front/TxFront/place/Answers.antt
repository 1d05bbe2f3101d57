use Rattle.std.proofs.Common.{sym, ◌∙◌}
use Rattle.request_lists.specs.Placing.{Stays}
use Rattle.request_lists.proofs.Becoming.{becomes_accepted}
use Rattle.request_lists.proofs.front.TxFront.place.Goals as goal

pub returns-in-None-clause-becomes : goal.returns-in-None-clause-becomes
returns-in-None-clause-becomes g c = becomes_accepted c.args.self.now c.accept.new.self c.args.call c.args.handler c.accept.result c.requires (sym c.refusal_of.ensures ∙ c.in-None.is) c.accept.ensures.placed c.accept.ensures.unchanged

pub returns-in-Some-clause-becomes : goal.returns-in-Some-clause-becomes
returns-in-Some-clause-becomes g c = Stays
