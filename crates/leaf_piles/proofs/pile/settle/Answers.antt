use Rattle.std.proofs.Common.{refl, arith, ap, add-one, ◌∙◌, ◌-◌, ◌<◌, length, suc}
use Rattle.leaf_blocks.specs.Leaves.{joined, leaf_at}
use Rattle.leaf_blocks.proofs.Laws.{joined_out, joined_join, length_join}
use Rattle.leaf_piles.proofs.PileLemmas.{emptied}
use Rattle.leaf_piles.proofs.Joining.{settled_out, settled_next, settled_former, settled_alone}
use Rattle.leaf_piles.proofs.pile.settle.Goals as goal

pub returns-then-width-eq0-clause-leaves : goal.returns-then-width-eq0-clause-leaves
returns-then-width-eq0-clause-leaves g c = ap joined c.leave_out.ensures.blocks ∙ joined_out c.args.shelf.now.blocks c.args.block (emptied (leaf_at c.args.shelf.now.blocks c.args.block) (omega (arith, c.width.ensures.value, c.if-width-eq0.true)))

pub returns-then-width-eq0-clause-filled : goal.returns-then-width-eq0-clause-filled
returns-then-width-eq0-clause-filled g c = rw c.leave_out.ensures.blocks (settled_out _ _ c.requires.shorter (omega (arith, c.width.ensures.value, c.if-width-eq0.true)))

pub returns-then-has_few_behind-clause-leaves : goal.returns-then-has_few_behind-clause-leaves
returns-then-has_few_behind-clause-leaves g c = ap joined c.absorb.ensures.blocks ∙ joined_join c.args.shelf.now.blocks c.args.block

pub returns-then-has_few_behind-clause-filled : goal.returns-then-has_few_behind-clause-filled
returns-then-has_few_behind-clause-filled g c = rw c.absorb.ensures.blocks (settled_next _ _ c.requires.shorter (c.if-has_few_behind.ensures.yes refl).0 (c.if-has_few_behind.ensures.yes refl).1)

pub returns-then-has_few_behind-clause-kept : goal.returns-then-has_few_behind-clause-kept
returns-then-has_few_behind-clause-kept g c =
    omega (arith, c.absorb.ensures.kept, ap length c.absorb.ensures.blocks, length_join c.args.shelf.now.blocks c.args.block (rw add-one at (c.if-has_few_behind.ensures.yes refl).0))

pub returns-then-has_few_before-clause-leaves : goal.returns-then-has_few_before-clause-leaves
returns-then-has_few_before-clause-leaves g c = ap joined c.absorb-then-has_few_before.ensures.blocks ∙ joined_join c.args.shelf.now.blocks (c.args.block - 1)

pub returns-then-has_few_before-clause-filled : goal.returns-then-has_few_before-clause-filled
returns-then-has_few_before-clause-filled g c =
    rw c.absorb-then-has_few_before.ensures.blocks (settled_former _ _ c.requires.shorter (c.if-has_few_before.ensures.yes refl).0 (c.if-has_few_before.ensures.yes refl).1)

pub returns-then-has_few_before-clause-kept : goal.returns-then-has_few_before-clause-kept
returns-then-has_few_before-clause-kept g c =
    let some = (c.if-has_few_before.ensures.yes refl).0 in
    let below : suc (c.args.block - 1) < length c.args.shelf.now.blocks = omega (arith, some, c.requires.shorter.within) in
    omega (arith, c.absorb-then-has_few_before.ensures.kept, ap length c.absorb-then-has_few_before.ensures.blocks, length_join c.args.shelf.now.blocks (c.args.block - 1) below)

pub returns-else-has_few_before-clause-filled : goal.returns-else-has_few_before-clause-filled
returns-else-has_few_before-clause-filled g c =
    settled_alone _ _ c.requires.shorter (omega (arith, c.width.ensures.value, c.if-width-eq0.false)) (c.if-has_few_behind.ensures.no (λ h. cc)) (c.if-has_few_before.ensures.no (λ h. cc))
