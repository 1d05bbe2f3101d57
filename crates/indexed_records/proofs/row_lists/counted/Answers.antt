use Rattle.std.proofs.Common.{◌<◌, length, take, slice_index_or, sym, ap, ◌∙◌, subst, arith, add-one}
use Rattle.store_contents.specs.Contents.{rows_among}
use Rattle.store_contents.proofs.Laws.{rows_more_among}
use Rattle.indexed_records.proofs.row_lists.counted.Goals as goal

pub loop-list-preserved : goal.loop-list-preserved
loop-list-preserved c =
    let xs = c.args.lists.now.items in
    let i = c.loop-list.list-index in
    let same = c.deref-list-items.ensures.value in
    let more = rows_more_among xs i c.list-item.result (subst (λ ys. i < length ys) same c.loop-list-test.true) in
    let item = ap length (c.list-item.is ∙ ap (λ ys. slice_index_or ys i c.list-item.result) same) in
    omega (arith, c.in_ok-count.ensures, c.loop-list.invariant, c.len.ensures, more, item) ∙ ap (λ n. rows_among (take n xs)) (sym (add-one i))
