use Rattle.std.proofs.Common.{◌≡◌, sym, ◌∙◌, arith, length, ◌<◌, Option, Some, None, OnSome}
use Rattle.client_parts.proofs.Places.{found, given, taken_out, not_found, nobody}
use Rattle.client_parts.proofs.tx_places.take_out.Goals as goal

was_there : {A E : Type 0} (r : Option A) (x : A) → r ≡ Some x → OnSome r E → E
was_there None x e h = cc
was_there (Some y) x e h = h

pub returns-in-Some-clause-given : goal.returns-in-Some-clause-given
returns-in-Some-clause-given c = given c.args.number c.in-Some.place c.args.txs.now.items c.remove.result c.in-Some.ensures (λ d l. c.remove.ensures.succeeds d (omega (arith, l)))

within : (c : goal.After-remove) → c.in-Some.place < length c.args.txs.now.items
within c = (found c.args.number c.in-Some.place c.args.txs.now.items c.in-Some.ensures).0

pub returns-in-Some-clause-left : goal.returns-in-Some-clause-left
returns-in-Some-clause-left c = was_there _ _ (c.remove.ensures.succeeds nobody (let w = within c in omega (arith, w))) c.remove.ensures.items ∙ taken_out c.args.number c.in-Some.place c.args.txs.now.items c.requires c.in-Some.ensures

pub returns-in-None-clause-given : goal.returns-in-None-clause-given
returns-in-None-clause-given c = sym (not_found c.args.number c.args.txs.now.items c.in-None.ensures).0

pub returns-in-None-clause-left : goal.returns-in-None-clause-left
returns-in-None-clause-left c = sym (not_found c.args.number c.args.txs.now.items c.in-None.ensures).1
