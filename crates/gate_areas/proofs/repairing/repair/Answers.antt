use Rattle.std.proofs.lemmas.Result.{on_ok_weaker}
use Rattle.disk_trait.specs.Disk.{OnArea}
use Rattle.disk_trait.proofs.Laws.{widens}
use Rattle.gate_areas.specs.Found.{KeepsFound}
use Rattle.gate_areas.specs.LiveBatches.{ComesToRest}
use Rattle.gate_areas.specs.Steps.{Repairing, Repairs}
use Rattle.gate_areas.proofs.Choosing.{repairing, repaired}
use Rattle.gate_areas.proofs.Runs.{wider_from, wider_leads}
use Rattle.gate_areas.proofs.repairing.repair.Goals as goal

pub returns-clause-repaired : goal.returns-clause-repaired
returns-clause-repaired g c =
    let live = c.args.live in
    on_ok_weaker c.repair_bytes.result
    (wider_leads (OnArea live.area (Repairs live.gate)) (ComesToRest live) (g.D.Disk.shows c.args.disk.now) (g.D.Disk.shows c.repair_bytes.new.disk)
    (λ given told after step. let both = repaired live.area live.generation live.gate given (c.requires.lives given told) after step in record { rests = both.0; same = both.1 }))
    c.repair_bytes.ensures.repaired

pub returns-clause-any_moment : goal.returns-clause-any_moment
returns-clause-any_moment g c =
    let live = c.args.live in
    widens c.repair_bytes.ensures.any_moment
    (wider_from (OnArea live.area (Repairing live.gate)) (KeepsFound live.area) _ (λ given told image step. repairing live.area live.generation live.gate given (c.requires.lives given told) image step))
