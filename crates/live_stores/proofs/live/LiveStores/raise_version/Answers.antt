use Rattle.std.proofs.Common.{ap, ◌∙◌}
use Rattle.item_changes.specs.Effects.{at_version}
use Rattle.live_stores.specs.Live.{LiveData}
use Rattle.live_stores.proofs.Living.{raised, raised_seen}
use Rattle.live_stores.proofs.live.LiveStores.raise_version.Goals as goal

pub invariant_of-self : goal.invariant_of-self
invariant_of-self g c = raised c.self.inside.items.items c.self.inside.version_before c.self.inside.version c.args.version c.self.invariant

pub returns : goal.returns
returns g c = raised_seen c.self.inside.items.items c.self.inside.version_before c.self.inside.version c.args.version c.self.invariant ∙ ap (λ (d : LiveData). record { before = d.before; database = at_version c.args.version d.database }) c.self.view_is
