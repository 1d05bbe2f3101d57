use Rattle.std.proofs.Common.{◌∙◌, sym, ap, arith, ◌+◌, drop, ◌≤◌, length}
use Rattle.std.specs.Prelude.{◌||◌}
use Rattle.clone_values.specs.View.{key_tree_of}
use Rattle.store_contents.specs.Clashes.{clash_any}
use Rattle.indexed_records.proofs.ClashLaws.{clash_drop, clash_past}
use Rattle.indexed_records.proofs.clashing.clashes_any.Goals as goal

pub returns-then-clashes_at : goal.returns-then-clashes_at
returns-then-clashes_at g c =
    sym (ap (λ b. b || clash_any (drop (c.loop-place.place + 1) c.args.indexes.now) (drop (c.loop-place.place + 1) c.args.tables.now.items) (drop (c.loop-place.place + 1) c.args.rows.now) (key_tree_of c.args.primary.now)) (sym c.clashes_at.ensures ∙ c.if-clashes_at.true))
    ∙ sym (clash_drop c.args.indexes.now c.args.tables.now.items c.args.rows.now c.loop-place.place (key_tree_of c.args.primary.now)) ∙ c.loop-place.invariant

pub loop-place-preserved : goal.loop-place-preserved
loop-place-preserved g c =
    sym (ap (λ b. b || clash_any (drop (c.loop-place.place + 1) c.args.indexes.now) (drop (c.loop-place.place + 1) c.args.tables.now.items) (drop (c.loop-place.place + 1) c.args.rows.now) (key_tree_of c.args.primary.now)) (sym c.clashes_at.ensures ∙ c.if-clashes_at.false))
    ∙ sym (clash_drop c.args.indexes.now c.args.tables.now.items c.args.rows.now c.loop-place.place (key_tree_of c.args.primary.now)) ∙ c.loop-place.invariant

pub returns : goal.returns
returns g c =
    let past : length c.args.rows.now ≤ c.loop-place.place = omega (arith, c.loop-place-test.false, c.len-place-end.ensures) in
    sym (clash_past _ _ c.args.rows.now c.loop-place.place (key_tree_of c.args.primary.now) past) ∙ c.loop-place.invariant
