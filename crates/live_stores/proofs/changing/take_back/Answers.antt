use Rattle.std.proofs.Common.{subst}
use Rattle.object_stores.specs.IsStore.{IsCurrent}
use Rattle.live_stores.proofs.changing.take_back.Goals as goal

pub undo_to-requires-clause-current : goal.undo_to-requires-clause-current
undo_to-requires-clause-current g c κs within = subst (λ b. IsCurrent b c.args.mark.current) (c.info.ensures.auto c.args.mark.place c.args.mark.current) c.requires.current
