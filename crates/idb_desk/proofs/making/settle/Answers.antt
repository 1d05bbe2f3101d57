use Rattle.std.proofs.Common.{◌<◌, ◌∙◌, ap, sym, subst}
use Rattle.connection_queues.specs.Machine.{QueueState}
use Rattle.desk_steps.specs.Queueing.{settled_at}
use Rattle.desk_steps.proofs.Laws.{rank_at, rank_less, turn_settles, settled_there}
use Rattle.idb_desk.proofs.making.settle.Goals as goal

pub loop-smaller : goal.loop-smaller
loop-smaller c = subst (λ (q : QueueState). rank_at q c.args.name.now < rank_at c.loop.queues c.args.name.now) (sym c.turn_once.ensures.turned) (rank_less c.queue_laws.ensures.rests c.loop.queues c.args.name.now (sym c.turn_once.ensures.moved ∙ c.loop-test.true))

pub loop-preserved : goal.loop-preserved
loop-preserved c = ap (λ (q : QueueState). settled_at q c.args.name.now) c.turn_once.ensures.turned ∙ turn_settles c.queue_laws.ensures.rests c.loop.queues c.args.name.now ∙ c.loop.invariant

pub returns : goal.returns
returns c = c.turn_once.ensures.turned ∙ settled_there c.loop.queues c.args.name.now (sym c.turn_once.ensures.moved ∙ c.loop-test.false) ∙ c.loop.invariant
