use Rattle.std.proofs.Common.{◌≡◌, ℕ, List, [], ◌∷◌, ◌++◌, ◌∙◌, ap}
use Rattle.std.proofs.lemmas.Result.{on_ok_weaker}
use Rattle.disk_trait.specs.Areas.{area_of}
use Rattle.disk_trait.specs.Disk.{Torn, Written}
use Rattle.disk_trait.proofs.Laws.{joins, widens}
use Rattle.gate_areas.specs.Sealed.{area_text, CLOSED, OPEN}
use Rattle.gate_areas.specs.Steps.{Blanking, Blanks, Grows, GrowsBy, Making, Makes}
use Rattle.gate_areas.proofs.Making.{blanking_makes, growing_makes, blank_then, gate_makes, gate_made, text_is}
use Rattle.gate_areas.proofs.Runs.{widen_step, after_step, join_steps}
use Rattle.gate_areas.proofs.make.make_bytes.Goals as goal

pub returns-in_err-put_behind-clause-any_moment : goal.returns-in_err-put_behind-clause-any_moment
returns-in_err-put_behind-clause-any_moment g c =
    joins
    (widens c.make_blank.ensures.any_moment
    (λ image. widen_step c.args.area Blanking (Making (area_text c.args.generation c.args.gate c.args.rest.now)) _ image (λ given told new. blanking_makes (area_text c.args.generation c.args.gate c.args.rest.now) (area_of c.args.area given) new)))
    (widens c.put_behind.ensures.any_moment
    (λ image. after_step c.args.area Blanks Grows (Making (area_text c.args.generation c.args.gate c.args.rest.now)) _ _
    (λ given told between new. growing_makes (area_text c.args.generation c.args.gate c.args.rest.now) (area_of c.args.area given) between new) c.in_ok-make_blank.ensures.blank image))

pub returns-clause-made : goal.returns-clause-made
returns-clause-made g c =
    let closed = join_steps c.args.area Blanks (GrowsBy (c.head_of.result ++ c.args.rest.now)) (λ old new. new ≡ CLOSED ∷ (area_text c.args.generation c.args.gate c.args.rest.now)) (g.D.Disk.shows c.args.disk.now) (g.D.Disk.shows c.make_blank.new.disk)
    (λ given told between new blank grown. blank_then (area_text c.args.generation c.args.gate c.args.rest.now) (area_of c.args.area given) between new blank (grown ∙ ap (λ (l : List ℕ). between ++ l) (ap (λ (l : List ℕ). l ++ c.args.rest.now) c.head_of.ensures ∙ text_is c.args.generation c.args.gate c.args.rest.now)))
    c.in_ok-make_blank.ensures.blank (g.D.Disk.shows c.put_behind.new.disk) c.in_ok-put_behind.ensures.put in
    on_ok_weaker c.write_synced.result
    (join_steps c.args.area (λ old new. new ≡ CLOSED ∷ (area_text c.args.generation c.args.gate c.args.rest.now)) (Written 0 (OPEN ∷ [])) (Makes (area_text c.args.generation c.args.gate c.args.rest.now)) (g.D.Disk.shows c.args.disk.now) (g.D.Disk.shows c.put_behind.new.disk)
    (λ given told between new. gate_made (area_text c.args.generation c.args.gate c.args.rest.now) (area_of c.args.area given) between new) closed (g.D.Disk.shows c.write_synced.new.disk))
    c.write_synced.ensures.written

pub returns-clause-any_moment : goal.returns-clause-any_moment
returns-clause-any_moment g c =
    let closed = join_steps c.args.area Blanks (GrowsBy (c.head_of.result ++ c.args.rest.now)) (λ old new. new ≡ CLOSED ∷ (area_text c.args.generation c.args.gate c.args.rest.now)) (g.D.Disk.shows c.args.disk.now) (g.D.Disk.shows c.make_blank.new.disk)
    (λ given told between new blank grown. blank_then (area_text c.args.generation c.args.gate c.args.rest.now) (area_of c.args.area given) between new blank (grown ∙ ap (λ (l : List ℕ). between ++ l) (ap (λ (l : List ℕ). l ++ c.args.rest.now) c.head_of.ensures ∙ text_is c.args.generation c.args.gate c.args.rest.now)))
    c.in_ok-make_blank.ensures.blank (g.D.Disk.shows c.put_behind.new.disk) c.in_ok-put_behind.ensures.put in
    joins
    (widens c.make_blank.ensures.any_moment
    (λ image. widen_step c.args.area Blanking (Making (area_text c.args.generation c.args.gate c.args.rest.now)) _ image (λ given told new. blanking_makes (area_text c.args.generation c.args.gate c.args.rest.now) (area_of c.args.area given) new)))
    (joins
    (widens c.put_behind.ensures.any_moment
    (λ image. after_step c.args.area Blanks Grows (Making (area_text c.args.generation c.args.gate c.args.rest.now)) _ _
    (λ given told between new. growing_makes (area_text c.args.generation c.args.gate c.args.rest.now) (area_of c.args.area given) between new) c.in_ok-make_blank.ensures.blank image))
    (widens c.write_synced.ensures.any_moment
    (λ image. after_step c.args.area (λ old new. new ≡ CLOSED ∷ (area_text c.args.generation c.args.gate c.args.rest.now)) (Torn 0 1) (Making (area_text c.args.generation c.args.gate c.args.rest.now)) (g.D.Disk.shows c.args.disk.now) (g.D.Disk.shows c.put_behind.new.disk)
    (λ given told between new. gate_makes (area_text c.args.generation c.args.gate c.args.rest.now) (area_of c.args.area given) between new) closed image)))
