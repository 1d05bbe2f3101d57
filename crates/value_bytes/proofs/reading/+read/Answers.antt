use Rattle.std.proofs.Common.{◌≡◌, ◌-◌, ◌++◌, ◌∷◌, [], List, map, sym, ap, ◌∙◌, arith}
use Rattle.std.proofs.lemmas.Result.{err_from_is_err_and}
use Rattle.std.proofs.lemmas.List.{map_push}
use Rattle.clone_values.specs.View.{tree_of, prop_of, pair_of}
use Rattle.clone_values.specs.Names.{names_of, is_rising}
use Rattle.clone_values.specs.declared.value_types.Prop.{Prop}
use Rattle.value_bytes.specs.Steps.{text_at, counted_at, pair_at}
use Rattle.value_bytes.specs.Reading.{kind_of, body_at, value_at}
use Rattle.value_bytes.proofs.Loop.{goes_on, ends, is_done}
use Rattle.value_bytes.proofs.Bodies.{value_none, value_step, no_byte, no_kind, has_body, fails_checked, passes, fails_test}
use Rattle.value_bytes.proofs.reading.+read.Goals as goal

pub value_within-returns-then-depth-eq0 : goal.value_within-returns-then-depth-eq0
value_within-returns-then-depth-eq0 t c = value_none c.args.depth c.args.rest.now.now c.if-depth-eq0.true

pub value_within-returns-in_err-byte : goal.value_within-returns-in_err-byte
value_within-returns-in_err-byte t c =
    let p = err_from_is_err_and c.from_residual.result c.from_residual.ensures.1 in
    rw (p.1, p.2) (no_byte kind_of (body_at (value_at (c.args.depth - 1))) c.args.rest.now.now (value_at c.args.depth c.args.rest.now.now) (value_step c.args.depth c.args.rest.now.now c.if-depth-eq0.false) c.in_err-byte.field-0.0 c.in_err-byte.ensures)

pub value_within-returns-in-None : goal.value_within-returns-in-None
value_within-returns-in-None t c = no_kind kind_of (body_at (value_at (c.args.depth - 1))) c.args.rest.now.now (value_at c.args.depth c.args.rest.now.now) (value_step c.args.depth c.args.rest.now.now c.if-depth-eq0.false) c.in_ok-byte.byte c.byte_from.new.rest.now c.in_ok-byte.ensures c.in-None.ensures

pub value_within-returns-in-Some : goal.value_within-returns-in-Some
value_within-returns-in-Some t c = rw (← has_body kind_of (body_at (value_at (c.args.depth - 1))) c.args.rest.now.now (value_at c.args.depth c.args.rest.now.now) (value_step c.args.depth c.args.rest.now.now c.if-depth-eq0.false) c.in_ok-byte.byte c.byte_from.new.rest.now c.in-Some.kind c.in_ok-byte.ensures c.in-Some.ensures) c.body_from.ensures

pub items_from-returns-in_err-item : goal.items_from-returns-in_err-item
items_from-returns-in_err-item t c =
    let p = err_from_is_err_and c.from_residual-in_err-item.result c.from_residual-in_err-item.ensures.1 in
    rw (p.1, p.2) (ends (value_at c.args.depth) c.in_ok-count.count c.loop.counter c.loop.rest.now (counted_at (value_at c.args.depth) c.args.rest.now.now) c.in_err-item.field-0.0 (map tree_of c.loop.items.items) c.loop-test.true c.in_err-item.ensures c.loop.invariant.1)

pub items_from-loop-preserved : goal.items_from-loop-preserved
items_from-loop-preserved t c =
    let n = c.in_ok-item.item in
    let e : map tree_of c.push.new.self.items ≡ map tree_of c.loop.items.items ++ tree_of n ∷ [] = rw c.in_ok-push.ensures.items (map_push _ c.loop.items.items n) in
    (omega arith, rw e (goes_on (value_at c.args.depth) c.in_ok-count.count c.loop.counter c.loop.rest.now (counted_at (value_at c.args.depth) c.args.rest.now.now) (map tree_of c.loop.items.items) (tree_of n) c.value_within.new.rest.now c.loop-test.true c.in_ok-item.ensures c.loop.invariant.1))

pub items_from-returns : goal.items_from-returns
items_from-returns t c = rw c.in_ok-from_vec.ensures (is_done (value_at c.args.depth) c.in_ok-count.count c.loop.counter c.loop.rest.now (counted_at (value_at c.args.depth) c.args.rest.now.now) (map tree_of c.loop.items.items) c.loop-test.false c.loop.invariant.1)

pub pairs_from-returns-in_err-pair : goal.pairs_from-returns-in_err-pair
pairs_from-returns-in_err-pair t c =
    let p = err_from_is_err_and c.from_residual-in_err-pair.result c.from_residual-in_err-pair.ensures.1 in
    rw (p.1, p.2) (ends (pair_at (value_at c.args.depth) (value_at c.args.depth)) c.in_ok-count.count c.loop.counter c.loop.rest.now (counted_at (pair_at (value_at c.args.depth) (value_at c.args.depth)) c.args.rest.now.now) c.in_err-pair.field-0.0 (map pair_of c.loop.pairs.items) c.loop-test.true c.in_err-pair.ensures c.loop.invariant.1)

pub pairs_from-loop-preserved : goal.pairs_from-loop-preserved
pairs_from-loop-preserved t c =
    let n = c.in_ok-pair.pair in
    let e : map pair_of c.push.new.self.items ≡ map pair_of c.loop.pairs.items ++ pair_of n ∷ [] = rw c.in_ok-push.ensures.items (map_push _ c.loop.pairs.items n) in
    (omega arith, rw e (goes_on (pair_at (value_at c.args.depth) (value_at c.args.depth)) c.in_ok-count.count c.loop.counter c.loop.rest.now (counted_at (pair_at (value_at c.args.depth) (value_at c.args.depth)) c.args.rest.now.now) (map pair_of c.loop.pairs.items) (pair_of n) c.pair_from.new.rest.now c.loop-test.true c.in_ok-pair.ensures c.loop.invariant.1))

pub pairs_from-returns : goal.pairs_from-returns
pairs_from-returns t c = rw c.in_ok-from_vec.ensures (is_done (pair_at (value_at c.args.depth) (value_at c.args.depth)) c.in_ok-count.count c.loop.counter c.loop.rest.now (counted_at (pair_at (value_at c.args.depth) (value_at c.args.depth)) c.args.rest.now.now) (map pair_of c.loop.pairs.items) c.loop-test.false c.loop.invariant.1)

pub props_from-returns-in_err-prop : goal.props_from-returns-in_err-prop
props_from-returns-in_err-prop t c =
    let p = err_from_is_err_and c.from_residual-in_err-prop.result c.from_residual-in_err-prop.ensures.1 in
    let fails = ends (pair_at text_at (value_at c.args.depth)) c.in_ok-count.count c.loop.counter c.loop.rest.now (counted_at (pair_at text_at (value_at c.args.depth)) c.args.rest.now.now) c.in_err-prop.field-0.0 (map prop_of c.loop.props.items) c.loop-test.true c.in_err-prop.ensures c.loop.invariant.1 in
    rw (p.1, p.2) (fails_checked c.in_err-prop.field-0.0 (λ ms. is_rising (names_of ms)) (counted_at (pair_at text_at (value_at c.args.depth))) c.args.rest.now.now fails)

pub props_from-loop-preserved : goal.props_from-loop-preserved
props_from-loop-preserved t c =
    let n = c.in_ok-prop.prop in
    let e : map prop_of c.push.new.self.items ≡ map prop_of c.loop.props.items ++ prop_of n ∷ [] = rw c.in_ok-push.ensures.items (map_push _ c.loop.props.items n) in
    (omega arith, rw e (goes_on (pair_at text_at (value_at c.args.depth)) c.in_ok-count.count c.loop.counter c.loop.rest.now (counted_at (pair_at text_at (value_at c.args.depth)) c.args.rest.now.now) (map prop_of c.loop.props.items) (prop_of n) c.prop_from.new.rest.now c.loop-test.true c.in_ok-prop.ensures c.loop.invariant.1))

pub props_from-returns-in_ok-from_vec : goal.props_from-returns-in_ok-from_vec
props_from-returns-in_ok-from_vec t c =
    let all = is_done (pair_at text_at (value_at c.args.depth)) c.in_ok-count.count c.loop.counter c.loop.rest.now (counted_at (pair_at text_at (value_at c.args.depth)) c.args.rest.now.now) (map prop_of c.loop.props.items) c.loop-test.false c.loop.invariant.1 in
    let test = ap (λ (ps : List Prop). is_rising (names_of (map prop_of ps))) (sym c.deref.ensures.value) ∙ sym c.names_rise.ensures in
    rw c.in_ok-from_vec.ensures (passes (λ ms. is_rising (names_of ms)) (counted_at (pair_at text_at (value_at c.args.depth))) c.args.rest.now.now (map prop_of c.loop.props.items) c.loop.rest.now all (test ∙ c.if-names_rise.true))

pub props_from-returns-else-names_rise : goal.props_from-returns-else-names_rise
props_from-returns-else-names_rise t c =
    let all = is_done (pair_at text_at (value_at c.args.depth)) c.in_ok-count.count c.loop.counter c.loop.rest.now (counted_at (pair_at text_at (value_at c.args.depth)) c.args.rest.now.now) (map prop_of c.loop.props.items) c.loop-test.false c.loop.invariant.1 in
    let test = ap (λ (ps : List Prop). is_rising (names_of (map prop_of ps))) (sym c.deref.ensures.value) ∙ sym c.names_rise.ensures in
    fails_test (λ ms. is_rising (names_of ms)) (counted_at (pair_at text_at (value_at c.args.depth))) c.args.rest.now.now (map prop_of c.loop.props.items) c.loop.rest.now all (test ∙ c.if-names_rise.false)
