use Rattle.std.proofs.Common.{◌<◌, length, set, take, arith, ap, ◌∙◌, []}
use Rattle.std.proofs.lemmas.List.{get_or_read, get_or-set_same, length-set}
use Rattle.leaf_blocks.specs.Leaves.{items_in, leaf_at}
use Rattle.leaf_blocks.proofs.Laws.{split_content}
use Rattle.leaf_piles.proofs.ShelfLemmas.{block_part, half_part, shelf_size, halve_keeps}
use Rattle.leaf_piles.proofs.shelf.Shelf.halve.Goals as goal

pub halve-requires-clause-small : goal.halve-requires-clause-small
halve-requires-clause-small g c =
    let small = rw (← c.self.view_is) at c.requires.small in
    let w = rw (← c.self.view_is) at c.requires.within in
    omega (arith, small, block_part c.self.inside.blocks.items c.args.block, ap items_in (get_or_read _ _ _ w c.index_mut.ensures.value []))

pub split-requires-clause-part : goal.split-requires-clause-part
split-requires-clause-part g c =
    let w = rw (← c.self.view_is) at c.requires.within in
    let now : c.args.block < length (set c.self.inside.blocks.items c.args.block c.halve.new.lower) = omega (arith, w, length-set c.self.inside.blocks.items c.args.block c.halve.new.lower) in
    let left = c.count.ensures ∙ ap items_in (get_or_read _ _ _ now c.index.ensures [] ∙ get_or-set_same c.self.inside.blocks.items c.args.block c.halve.new.lower [] w ∙ c.halve.ensures.lower
    ∙ ap (take 64) (get_or_read _ _ _ w c.index_mut.ensures.value [])) in
    omega (arith, left, half_part 64 (leaf_at c.self.inside.blocks.items c.args.block), shelf_size _ _ _ _ _ c.self.invariant c.args.block)

pub invariant_of-self : goal.invariant_of-self
invariant_of-self g c =
    let w = rw (← c.self.view_is) at c.requires.within in
    let now : c.args.block < length (set c.self.inside.blocks.items c.args.block c.halve.new.lower) = omega (arith, w, length-set c.self.inside.blocks.items c.args.block c.halve.new.lower) in
    let left = c.count.ensures ∙ ap items_in (get_or_read _ _ _ now c.index.ensures [] ∙ get_or-set_same c.self.inside.blocks.items c.args.block c.halve.new.lower [] w ∙ c.halve.ensures.lower
    ∙ ap (take 64) (get_or_read _ _ _ w c.index_mut.ensures.value [])) in
    halve_keeps _ _ _ _ _ _ c.self.invariant 64 _ _ _ _ _ _ w
    (c.put_block.ensures.items ∙ split_content 64 c.self.inside.blocks.items c.args.block _ _ _ w c.index_mut.ensures.value c.halve.ensures.lower c.halve.ensures.upper)
    left c.split.ensures.sizes c.split.ensures.room c.take_kept-upper.ensures.len c.put_block.ensures.capacity (omega arith)

pub returns-clause-blocks : goal.returns-clause-blocks
returns-clause-blocks g c =
    let w = rw (← c.self.view_is) at c.requires.within in
    rw (← c.self.view_is) (c.put_block.ensures.items ∙ split_content 64 c.self.inside.blocks.items c.args.block _ _ _ w c.index_mut.ensures.value c.halve.ensures.lower c.halve.ensures.upper)
