use Rattle.std.proofs.Common.{refl}
use Rattle.clone_values.specs.View.{tree_of}
use Rattle.value_members.specs.Shown.{mark_shown}
use Rattle.value_members.proofs.Ties.{noted}
use Rattle.value_members.proofs.once.is_new.Goals as goal

pub returns-in_ok-insert-in-Some-clause-noted : goal.returns-in_ok-insert-in-Some-clause-noted
returns-in_ok-insert-in-Some-clause-noted c =
    let is = c.in-Some.ensures in
    noted _ mark_shown (λ x y. refl) _ _ c.in-Some.primitive (tree_of c.args.value.now) is.0 is.1 c.in_ok-insert-in-Some.ensures.keys
