use Rattle.std.proofs.Common.{◌+◌, ◌<◌, length, get_or, arith, ap, add-one, ◌∙◌, []}
use Rattle.std.proofs.lemmas.List.Edits.{length-remove, get_or-remove_below}
use Rattle.std.proofs.lemmas.List.{get_or_read}
use Rattle.leaf_blocks.specs.Leaves.{items_in}
use Rattle.leaf_blocks.proofs.Laws.{join_content}
use Rattle.leaf_piles.proofs.ShelfLemmas.{pair_part, shelf_sizes, shelf_size, shelf_sum, absorb_small, absorb_keeps}
use Rattle.leaf_piles.proofs.shelf.Shelf.absorb.Goals as goal

pub raise-requires-clause-small : goal.raise-requires-clause-small
raise-requires-clause-small g c =
    let w = rw (← c.self.view_is) at c.requires.within in
    let small = rw (← c.self.view_is) at c.requires.small in
    omega (
      arith,
      small,
      shelf_sum _ _ _ _ _ c.self.invariant,
      absorb_small _ _ _ _ _ (omega (arith, w, shelf_sizes _ _ _ _ _ c.self.invariant))
          (omega (arith, c.count-size.ensures, ap items_in (get_or_read _ _ _ w c.remove-other.ensures.value []), shelf_size _ _ _ _ _ c.self.invariant (c.args.block + 1))) c.lower.ensures.sizes c.remove.ensures.sizes,
    )

pub absorb-requires-clause-small : goal.absorb-requires-clause-small
absorb-requires-clause-small g c =
    let w = rw (← c.self.view_is) at c.requires.within in
    let small = rw (← c.self.view_is) at c.requires.small in
    let rest : c.args.block < length c.remove-other.new.self.items = omega (arith, ap length c.remove-other.ensures.items, length-remove c.self.inside.blocks.items (c.args.block + 1) w) in
    let here = get_or_read _ _ _ rest c.index_mut.ensures.value [] ∙ ap (λ k. get_or k c.args.block []) c.remove-other.ensures.items
    ∙ get_or-remove_below c.self.inside.blocks.items (c.args.block + 1) [] c.args.block (omega arith) w in
    omega (arith, small, ap items_in here, ap items_in (get_or_read _ _ _ w c.remove-other.ensures.value []), rw (← add-one c.args.block) at (pair_part c.self.inside.blocks.items c.args.block))

pub invariant_of-self : goal.invariant_of-self
invariant_of-self g c =
    let w = rw (← c.self.view_is) at c.requires.within in
    let other = get_or_read _ _ _ w c.remove-other.ensures.value [] in
    absorb_keeps _ _ _ _ _ _ c.self.invariant _ _ _ _ _ _ _ _ w
    (join_content c.self.inside.blocks.items _ c.args.block _ _ _ w c.remove-other.ensures.items c.index_mut.ensures.value c.remove-other.ensures.value c.absorb.ensures.leaves)
    (c.count-size.ensures ∙ ap items_in other) c.lower.ensures.sizes c.remove.ensures.sizes c.raise.ensures.sizes (omega arith) c.keep_block.ensures.len (omega arith) c.keep_block.ensures.capacity

pub returns-clause-blocks : goal.returns-clause-blocks
returns-clause-blocks g c =
    let w = rw (← c.self.view_is) at c.requires.within in
    rw (← c.self.view_is) (join_content c.self.inside.blocks.items _ c.args.block _ _ _ w c.remove-other.ensures.items c.index_mut.ensures.value c.remove-other.ensures.value c.absorb.ensures.leaves)
