use Rattle.std.proofs.Common.{◌≡◌, ◌-◌, ◌++◌, ◌∷◌, [], map, arith}
use Rattle.std.proofs.lemmas.Result.{err_from_is_err_and}
use Rattle.std.proofs.lemmas.List.{map_push}
use Rattle.clone_values.specs.View.{key_tree_of}
use Rattle.value_bytes.specs.Steps.{counted_at}
use Rattle.value_bytes.specs.KeyReading.{key_kind_of, key_body_at, key_at}
use Rattle.value_bytes.proofs.Loop.{goes_on, ends, is_done}
use Rattle.value_bytes.proofs.Bodies.{key_none, key_step, no_byte, no_kind, has_body}
use Rattle.value_bytes.proofs.key_reading.+read.Goals as goal

pub key_within-returns-then-depth-eq0 : goal.key_within-returns-then-depth-eq0
key_within-returns-then-depth-eq0 t c = key_none c.args.depth c.args.rest.now.now c.if-depth-eq0.true

pub key_within-returns-in_err-byte : goal.key_within-returns-in_err-byte
key_within-returns-in_err-byte t c =
    let p = err_from_is_err_and c.from_residual.result c.from_residual.ensures.1 in
    rw (p.1, p.2) (no_byte key_kind_of (key_body_at (key_at (c.args.depth - 1))) c.args.rest.now.now (key_at c.args.depth c.args.rest.now.now) (key_step c.args.depth c.args.rest.now.now c.if-depth-eq0.false) c.in_err-byte.field-0.0 c.in_err-byte.ensures)

pub key_within-returns-in-None : goal.key_within-returns-in-None
key_within-returns-in-None t c = no_kind key_kind_of (key_body_at (key_at (c.args.depth - 1))) c.args.rest.now.now (key_at c.args.depth c.args.rest.now.now) (key_step c.args.depth c.args.rest.now.now c.if-depth-eq0.false) c.in_ok-byte.byte c.byte_from.new.rest.now c.in_ok-byte.ensures c.in-None.ensures

pub key_within-returns-in-Some : goal.key_within-returns-in-Some
key_within-returns-in-Some t c = rw (← has_body key_kind_of (key_body_at (key_at (c.args.depth - 1))) c.args.rest.now.now (key_at c.args.depth c.args.rest.now.now) (key_step c.args.depth c.args.rest.now.now c.if-depth-eq0.false) c.in_ok-byte.byte c.byte_from.new.rest.now c.in-Some.kind c.in_ok-byte.ensures c.in-Some.ensures) c.body_from.ensures

pub keys_from-returns-in_err-key : goal.keys_from-returns-in_err-key
keys_from-returns-in_err-key t c =
    let p = err_from_is_err_and c.from_residual-in_err-key.result c.from_residual-in_err-key.ensures.1 in
    rw (p.1, p.2) (ends (key_at c.args.depth) c.in_ok-count.count c.loop.counter c.loop.rest.now (counted_at (key_at c.args.depth) c.args.rest.now.now) c.in_err-key.field-0.0 (map key_tree_of c.loop.keys.items) c.loop-test.true c.in_err-key.ensures c.loop.invariant.1)

pub keys_from-loop-preserved : goal.keys_from-loop-preserved
keys_from-loop-preserved t c =
    let n = c.in_ok-key.key in
    let e : map key_tree_of c.push.new.self.items ≡ map key_tree_of c.loop.keys.items ++ key_tree_of n ∷ [] = rw c.in_ok-push.ensures.items (map_push _ c.loop.keys.items n) in
    (omega arith, rw e (goes_on (key_at c.args.depth) c.in_ok-count.count c.loop.counter c.loop.rest.now (counted_at (key_at c.args.depth) c.args.rest.now.now) (map key_tree_of c.loop.keys.items) (key_tree_of n) c.key_within.new.rest.now c.loop-test.true c.in_ok-key.ensures c.loop.invariant.1))

pub keys_from-returns : goal.keys_from-returns
keys_from-returns t c = rw c.in_ok-from_vec.ensures (is_done (key_at c.args.depth) c.in_ok-count.count c.loop.counter c.loop.rest.now (counted_at (key_at c.args.depth) c.args.rest.now.now) (map key_tree_of c.loop.keys.items) c.loop-test.false c.loop.invariant.1)
