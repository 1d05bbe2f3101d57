use Rattle.std.proofs.Common.{ℕ, ◌+◌, List, [], ◌∷◌, ◌++◌, take, ap, ◌∙◌, arith}
use Rattle.std.proofs.lemmas.List.{take-take}
use Rattle.std.proofs.lemmas.Result.{on_ok_weaker}
use Rattle.disk_trait.specs.Areas.{area_of}
use Rattle.disk_trait.specs.Disk.{Shortened, Cut}
use Rattle.disk_trait.proofs.Laws.{joins, widens}
use Rattle.gate_areas.specs.Sealed.{CLOSED}
use Rattle.gate_areas.specs.Steps.{Repairing, Repairs}
use Rattle.gate_areas.proofs.EndRepair.{cut_repairs, then_repairs}
use Rattle.gate_areas.proofs.Runs.{widen_step, after_step, join_steps}
use Rattle.gate_areas.proofs.repairing.repair_bytes.Goals as goal

pub returns-in_err-shorten-clause-any_moment : goal.returns-in_err-shorten-clause-any_moment
returns-in_err-shorten-clause-any_moment g c =
    widens c.shorten.ensures.any_moment
    (λ image. widen_step c.args.area (Cut (c.args.place + 1)) (Repairing c.args.place) _ image
    (λ given told new. cut_repairs c.args.place _ (omega (arith, g.met.D.Disk.lengths_are_told c.args.disk.now given c.args.area told, c.requires.within)) new))

pub returns-clause-any_moment : goal.returns-clause-any_moment
returns-clause-any_moment g c =
    joins
    (widens c.shorten.ensures.any_moment
    (λ image. widen_step c.args.area (Cut (c.args.place + 1)) (Repairing c.args.place) _ image
    (λ given told new. cut_repairs c.args.place _ (omega (arith, g.met.D.Disk.lengths_are_told c.args.disk.now given c.args.area told, c.requires.within)) new)))
    (widens c.shut_gate.ensures.any_moment
    (λ image. after_step c.args.area (Shortened (c.args.place + 1)) (Repairing c.args.place) (Repairing c.args.place) _ _
    (λ given told between new. then_repairs c.args.place _ (omega (arith, g.met.D.Disk.lengths_are_told c.args.disk.now given c.args.area told, c.requires.within)) between new)
    c.in_ok-shorten.ensures.shortened image))

pub returns-clause-repaired : goal.returns-clause-repaired
returns-clause-repaired g c =
    on_ok_weaker c.shut_gate.result
    (join_steps c.args.area (Shortened (c.args.place + 1)) (Repairs c.args.place) (Repairs c.args.place) (g.D.Disk.shows c.args.disk.now) (g.D.Disk.shows c.shorten.new.disk)
    (λ given told between new short repairs. repairs ∙ ap (λ (l : List ℕ). l ++ CLOSED ∷ [])
    (ap (λ (l : List ℕ). take c.args.place l) short ∙ take-take c.args.place (c.args.place + 1) (area_of c.args.area given) (omega arith)))
    c.in_ok-shorten.ensures.shortened (g.D.Disk.shows c.shut_gate.new.disk))
    c.shut_gate.ensures.shut
