use Rattle.std.proofs.Common.{map}
use Rattle.clone_values.specs.View.{tree_of}
use Rattle.clone_values.proofs.Laws.{put_longer}
use Rattle.value_members.proofs.Lengths.{within_after}
use Rattle.value_members.proofs.set_builder.SetBuilder.put.Goals as goal

pub invariant_of-self : goal.invariant_of-self
invariant_of-self c =
    let longer = put_longer (map tree_of c.self.inside.members.items) (tree_of c.args.value) in
    (within_after c.put_member.result _ _ _ (rw (← c.self.view_is) at c.requires) longer c.put_member.ensures.stored c.put_member.ensures.unchanged, c.put_member.ensures.index)
