use Rattle.object_stores.proofs.ChangeLemmas.{keeps_logged}
use Rattle.object_stores.proofs.deleting.take_at.Goals as goal

pub returns-clause-past : goal.returns-clause-past
returns-clause-past g c = keeps_logged c.args.parts.now c.ready.new.parts c.remove.new.parts c.ready.ensures.log c.ready.ensures.content c.remove.ensures.past
