use Rattle.live_client.specs.Upgrades.{begun_upgrade}
use Rattle.live_client.proofs.UpgradesLemmas.{into_from}
use Rattle.live_client.proofs.clients.run_upgrade.Goals as goal

pub returns : goal.returns
returns g c = into_from c.in_ok-live.live (begun_upgrade c.args.body c.args.requests c.args.throws) c.run_to_end.new.live.state c.in_ok-step.step c.args.notes.now c.run_to_end.new.notes c.in_ok-live.ensures c.in_ok-step.ensures
