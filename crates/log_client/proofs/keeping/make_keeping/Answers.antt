use Rattle.log_client.proofs.Staying.{made_keeps}
use Rattle.log_client.proofs.keeping.make_keeping.Goals as goal

pub returns : goal.returns
returns g c = made_keeps _ _ c.args.area _ c.create_with.ensures.any_moment
