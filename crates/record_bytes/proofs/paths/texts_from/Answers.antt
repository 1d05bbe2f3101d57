use Rattle.std.proofs.Common.{◌≡◌, ◌++◌, ◌∷◌, [], arith}
use Rattle.std.proofs.lemmas.Result.{err_from_is_err_and}
use Rattle.value_bytes.specs.Steps.{counted_at, text_at}
use Rattle.value_bytes.proofs.Laws.{goes_on, ends, is_done}
use Rattle.record_bytes.proofs.paths.texts_from.Goals as goal

pub returns-in_err-text : goal.returns-in_err-text
returns-in_err-text c =
    let p = err_from_is_err_and c.from_residual-in_err-text.result c.from_residual-in_err-text.ensures.1 in
    rw (p.1, p.2) (ends text_at c.in_ok-count.count c.loop.counter c.loop.rest.now (counted_at text_at c.args.rest.now.now) c.in_err-text.field-0.0 (c.loop.texts.items) c.loop-test.true c.in_err-text.ensures c.loop.invariant.1)

pub loop-preserved : goal.loop-preserved
loop-preserved c =
    let n = c.in_ok-text.text in
    let e : c.push.new.self.items ≡ c.loop.texts.items ++ n ∷ [] = c.in_ok-push.ensures.items in
    (omega arith, rw e (goes_on text_at c.in_ok-count.count c.loop.counter c.loop.rest.now (counted_at text_at c.args.rest.now.now) (c.loop.texts.items) (n) c.text_from.new.rest.now c.loop-test.true c.in_ok-text.ensures c.loop.invariant.1))

pub returns : goal.returns
returns c = rw c.from_vec.ensures (is_done text_at c.in_ok-count.count c.loop.counter c.loop.rest.now (counted_at text_at c.args.rest.now.now) (c.loop.texts.items) c.loop-test.false c.loop.invariant.1)
