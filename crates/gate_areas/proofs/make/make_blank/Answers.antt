use Rattle.std.proofs.Common.{ℕ, List, [], ◌∷◌, inl, inr, ⊎_elim, length, take, drop, arith, ap, ◌∙◌, length-take}
use Rattle.std.proofs.lemmas.List.{drop_all}
use Rattle.std.proofs.lemmas.Result.{on_ok_weaker}
use Rattle.disk_trait.specs.Areas.{area_of}
use Rattle.disk_trait.specs.Disk.{Torn, Cut, Shortened, Written}
use Rattle.disk_trait.proofs.Laws.{joins, widens}
use Rattle.gate_areas.specs.Sealed.{CLOSED}
use Rattle.gate_areas.specs.Steps.{Blanking, Blanks}
use Rattle.gate_areas.proofs.Runs.{widen_step, after_step, join_steps}
use Rattle.gate_areas.proofs.make.make_blank.Goals as goal

pub returns-clause-any_moment : goal.returns-clause-any_moment
returns-clause-any_moment g c =
    joins
    (widens c.shorten.ensures.any_moment
    (λ image. widen_step c.args.area (Cut 1) Blanking _ image
    (λ given told new cut. ⊎_elim (λ same. inl same) (λ short. inr (omega (arith, ap length short, length-take 1 (area_of c.args.area given)))) cut)))
    (widens c.write_synced.ensures.any_moment
    (λ image. after_step c.args.area (Shortened 1) (Torn 0 1) Blanking _ _
    (λ given told between new short torn. inr (omega (arith, torn.no_longer, ap length short, length-take 1 (area_of c.args.area given))))
    c.in_ok-shorten.ensures.shortened image))

pub returns-clause-blank : goal.returns-clause-blank
returns-clause-blank g c =
    on_ok_weaker c.write_synced.result
    (join_steps c.args.area (Shortened 1) (Written 0 (CLOSED ∷ [])) Blanks (g.D.Disk.shows c.args.disk.now) (g.D.Disk.shows c.shorten.new.disk)
    (λ given told between new short written. written ∙ ap (λ (l : List ℕ). CLOSED ∷ drop 1 l) short
    ∙ ap (λ (l : List ℕ). CLOSED ∷ l) (drop_all 1 (take 1 (area_of c.args.area given)) (omega (arith, length-take 1 (area_of c.args.area given)))))
    c.in_ok-shorten.ensures.shortened (g.D.Disk.shows c.write_synced.new.disk))
    c.write_synced.ensures.written
