use Rattle.std.proofs.Common.{map}
use Rattle.clone_values.specs.View.{tree_of, pair_of}
use Rattle.clone_values.proofs.Laws.{pair_longer}
use Rattle.value_members.proofs.Lengths.{within_after}
use Rattle.value_members.proofs.map_builder.MapBuilder.put.Goals as goal

pub invariant_of-self : goal.invariant_of-self
invariant_of-self c =
    let longer = pair_longer (map pair_of c.self.inside.entries.items) (tree_of c.args.key) (tree_of c.args.value) in
    (within_after c.put_entry.result _ _ _ (rw (← c.self.view_is) at c.requires) longer c.put_entry.ensures.stored c.put_entry.ensures.unchanged, c.put_entry.ensures.index)
