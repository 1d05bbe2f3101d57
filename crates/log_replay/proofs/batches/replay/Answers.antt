use Rattle.std.proofs.Common.{◌≡◌, ◌+◌, Err, sym, ap, ◌∙◌}
use Rattle.log_history.specs.Replayed.{after_payload, replayed}
use Rattle.log_replay.proofs.OneMore.{goes_on, gives_none}
use Rattle.log_replay.proofs.batches.replay.Goals as goal

pub returns-in-Err-Damaged-clause-damaged : goal.returns-in-Err-Damaged-clause-damaged
returns-in-Err-Damaged-clause-damaged g c = λ place e.
    let batch = c.in-Some.batch.now in
    let none = ap (after_payload c.loop-index.items) (sym c.as_slice.ensures) ∙ c.in-Err-Damaged.ensures.damaged (cc) in
    let fault : replayed c.args.batches.now ≡ Err (batch.place + 9) = gives_none c.args.batches.now c.loop-index.index batch.place batch.payload c.in-Some.ensures c.loop-index.items (replayed c.args.batches.now) c.loop-index.invariant none in
    cc

pub loop-index-preserved : goal.loop-index-preserved
loop-index-preserved g c =
    goes_on c.args.batches.now c.loop-index.index c.in-Some.batch.now.place c.in-Some.batch.now.payload c.in-Some.ensures c.loop-index.items (replayed c.args.batches.now) c.loop-index.invariant c.change_by_batch.new.items
    (ap (after_payload c.loop-index.items) (sym c.as_slice.ensures) ∙ c.in-Ok.ensures.made)
