use Rattle.std.proofs.Common.{◌≡◌, ◌++◌, ◌∷◌, [], arith}
use Rattle.std.proofs.lemmas.Result.{err_from_is_err_and}
use Rattle.value_bytes.specs.Steps.{counted_at}
use Rattle.record_bytes.specs.Reading.{record_at}
use Rattle.value_bytes.proofs.Laws.{goes_on, ends, is_done}
use Rattle.record_bytes.proofs.reading.records_from.Goals as goal

pub returns-in_err-record : goal.returns-in_err-record
returns-in_err-record c =
    let p = err_from_is_err_and c.from_residual-in_err-record.result c.from_residual-in_err-record.ensures.1 in
    rw (p.1, p.2) (ends record_at c.in_ok-count.count c.loop.counter c.loop.rest.now (counted_at record_at c.args.rest.now.now) c.in_err-record.field-0.0 (c.loop.records.items) c.loop-test.true c.in_err-record.ensures c.loop.invariant.1)

pub loop-preserved : goal.loop-preserved
loop-preserved c =
    let n = c.in_ok-record.record in
    let e : c.push.new.self.items ≡ c.loop.records.items ++ n ∷ [] = c.in_ok-push.ensures.items in
    (omega arith, rw e (goes_on record_at c.in_ok-count.count c.loop.counter c.loop.rest.now (counted_at record_at c.args.rest.now.now) (c.loop.records.items) (n) c.record_from.new.rest.now c.loop-test.true c.in_ok-record.ensures c.loop.invariant.1))

pub returns : goal.returns
returns c = rw c.from_vec.ensures (is_done record_at c.in_ok-count.count c.loop.counter c.loop.rest.now (counted_at record_at c.args.rest.now.now) (c.loop.records.items) c.loop-test.false c.loop.invariant.1)
