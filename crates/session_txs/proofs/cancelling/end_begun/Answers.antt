use Rattle.std.proofs.Common.{ap}
use Rattle.idb_calls.specs.declared.traces.TxTrace.{TxTrace}
use Rattle.session_txs.proofs.Unstarted.{attended_left, ends_by, front_placed}
use Rattle.session_txs.proofs.cancelling.end_begun.Goals as goal

pub cancel-requires : goal.cancel-requires
cancel-requires c = attended_left c.into_parts-durability.result.threw c.into_parts-durability.result.front c.left_front-front.result c.left_front-front.ensures
    (c.attending_laws.ensures.calls _ _ c.into_parts-durability.ensures.became (c.attending_laws.ensures.fresh _ _ _)) (λ f a. c.attending_laws.ensures.rested f a) (λ f a. c.attending_laws.ensures.threw f a)

pub returns-clause-ended : goal.returns-clause-ended
returns-clause-ended c = ends_by c.args.begun c.into_parts-durability.result c.into_parts-durability.ensures.parts c.into_parts-durability.ensures.became c.left_front-front.result c.left_front-front.ensures
    c.in_ok-trace.trace c.args.number c.into_parts-durability.result.durability c.in_ok-trace.ensures.trace c.args.notes.now c.cancel.new.notes c.in_ok-trace.ensures.told

pub returns-clause-placed : goal.returns-clause-placed
returns-clause-placed c = front_placed c.args.begun c.into_parts-durability.result c.into_parts-durability.ensures.parts c.into_parts-durability.ensures.became

pub returns-clause-number : goal.returns-clause-number
returns-clause-number c = ap (λ (t : TxTrace). t.number) c.in_ok-trace.ensures.trace
