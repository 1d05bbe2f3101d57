use Rattle.std.proofs.Common.{◌≡◌, ◌++◌, ◌∷◌, [], map, arith}
use Rattle.std.proofs.lemmas.Result.{err_from_is_err_and}
use Rattle.std.proofs.lemmas.List.{map_push}
use Rattle.idb_calls.specs.View.{delta_of}
use Rattle.value_bytes.specs.Steps.{counted_at}
use Rattle.record_bytes.specs.Reading.{delta_at}
use Rattle.value_bytes.proofs.Laws.{goes_on, ends, is_done}
use Rattle.record_bytes.proofs.reading.deltas_from.Goals as goal

pub returns-in_err-delta : goal.returns-in_err-delta
returns-in_err-delta c =
    let p = err_from_is_err_and c.from_residual-in_err-delta.result c.from_residual-in_err-delta.ensures.1 in
    rw (p.1, p.2) (ends delta_at c.in_ok-count.count c.loop.counter c.loop.rest.now (counted_at delta_at c.args.rest.now.now) c.in_err-delta.field-0.0 (map delta_of c.loop.deltas.items) c.loop-test.true c.in_err-delta.ensures c.loop.invariant.1)

pub loop-preserved : goal.loop-preserved
loop-preserved c =
    let n = c.in_ok-delta.delta in
    let e : map delta_of c.push.new.self.items ≡ map delta_of c.loop.deltas.items ++ delta_of n ∷ [] = rw c.in_ok-push.ensures.items (map_push _ c.loop.deltas.items n) in
    (omega arith, rw e (goes_on delta_at c.in_ok-count.count c.loop.counter c.loop.rest.now (counted_at delta_at c.args.rest.now.now) (map delta_of c.loop.deltas.items) (delta_of n) c.delta_from.new.rest.now c.loop-test.true c.in_ok-delta.ensures c.loop.invariant.1))

pub returns : goal.returns
returns c = rw c.from_vec.ensures (is_done delta_at c.in_ok-count.count c.loop.counter c.loop.rest.now (counted_at delta_at c.args.rest.now.now) (map delta_of c.loop.deltas.items) c.loop-test.false c.loop.invariant.1)
