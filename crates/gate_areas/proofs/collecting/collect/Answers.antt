use Rattle.std.proofs.lemmas.Result.{IfOk-weaker}
use Rattle.disk_trait.specs.Disk.{WhereTold}
use Rattle.gate_areas.specs.LiveBatches.{live_batches, Begins}
use Rattle.std.proofs.Common.{◌≡◌}
use Rattle.gate_areas.proofs.collecting.collect.Goals as goal

pub returns-clause-collected : goal.returns-clause-collected
returns-clause-collected g c =
    let live = c.args.live in
    IfOk-weaker c.collect_before.result _ (λ found. WhereTold (g.D.Disk.shows c.args.disk.now) (λ areas. Begins live areas → found ≡ live_batches live areas))
    (λ found collected areas told begins. collected areas told live.generation (live_batches live areas) begins.within begins.front)
    c.collect_before.ensures.collected
