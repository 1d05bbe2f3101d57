use Rattle.std.proofs.Common.{sym, ◌∙◌, arith}
use Rattle.client_parts.proofs.Places.{found, not_found, read}
use Rattle.client_parts.proofs.tx_places.tx_of.Goals as goal

pub returns-in-Some : goal.returns-in-Some
returns-in-Some c =
    let f = found c.args.number c.in-Some.place c.args.txs.now.items c.in-Some.ensures in
    read _ c.get.result c.args.txs.now.items c.in-Some.place f.0 c.get.ensures.item.0 (c.get.ensures.item.4 (omega arith)) ∙ sym f.1

pub returns-in-None : goal.returns-in-None
returns-in-None c = sym (not_found c.args.number c.args.txs.now.items c.in-None.ensures).0
