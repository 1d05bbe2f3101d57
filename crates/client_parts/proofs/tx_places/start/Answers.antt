use Rattle.std.proofs.Common.{sym, ◌∙◌, ap, Some, slice_set}
use Rattle.std.proofs.lemmas.Option.{slice_get-get_or}
use Rattle.client_seats.specs.ClientStates.{ClientTx}
use Rattle.client_parts.specs.Standing.{begins_of}
use Rattle.client_parts.proofs.Places.{begun_tx, found, not_found, started_at, started_none}
use Rattle.client_parts.proofs.tx_places.start.Goals as goal

pub returns-in-Some-clause-started : goal.returns-in-Some-clause-started
returns-in-Some-clause-started c = sym (started_at c.args.number c.in-Some.place c.args.txs.now.items c.index_mut-tx.result.now c.requires c.in-Some.ensures
    ∙ ap (λ (tx : ClientTx). slice_set c.args.txs.now.items c.in-Some.place tx) (ap begun_tx (sym c.index_mut-tx.ensures.value) ∙ sym c.start.ensures.started))

pub returns-in-Some-clause-begun : goal.returns-in-Some-clause-begun
returns-in-Some-clause-begun c =
    let f = found c.args.number c.in-Some.place c.args.txs.now.items c.in-Some.ensures in
    c.start.ensures.begun ∙ ap begins_of (ap Some c.index_mut-tx.ensures.value ∙ sym (slice_get-get_or c.args.txs.now.items c.in-Some.place c.index_mut-tx.result.now f.0) ∙ sym f.1)

pub returns-in-None-clause-started : goal.returns-in-None-clause-started
returns-in-None-clause-started c = sym (started_none c.args.number c.args.txs.now.items c.in-None.ensures)

pub returns-in-None-clause-begun : goal.returns-in-None-clause-begun
returns-in-None-clause-begun c = ap begins_of (sym (not_found c.args.number c.args.txs.now.items c.in-None.ensures).0)
