use Rattle.std.proofs.Common.{refl, sym, ◌∙◌, subst, arith}
use Rattle.disk_trait.proofs.Laws.{joins, widens, untouched_moments}
use Rattle.gate_areas.specs.Found.{Found}
use Rattle.gate_log.specs.Opened.{FoundAs}
use Rattle.gate_log.proofs.Keeps.{keeps_rest, has_told, nothing_changed, repair_same}
use Rattle.gate_log.proofs.open.go_on.Goals as goal

pub returns-in_err-batches-clause-any_moment : goal.returns-in_err-batches-clause-any_moment
returns-in_err-batches-clause-any_moment g c =
    untouched_moments (g.met.D.Disk.only_now c.args.disk.now) c.collect.ensures.untouched (λ image left. nothing_changed _ image (c.requires.settled image left))

pub returns-in_err-repair-clause-any_moment : goal.returns-in_err-repair-clause-any_moment
returns-in_err-repair-clause-any_moment g c =
    joins
    (untouched_moments (g.met.D.Disk.only_now c.args.disk.now) c.collect.ensures.untouched (λ image left. nothing_changed _ image (c.requires.settled image left)))
    (widens c.repair.ensures.any_moment (λ image from. let told = sym c.collect.ensures.untouched.same_reads ∙ from.was_given in
    record { given = from.given; was_given = told; stepped = repair_same c.args.live _ from.given image (c.requires.lives from.given told).found from.stepped }))

pub returns-clause-any_moment : goal.returns-clause-any_moment
returns-clause-any_moment g c =
    joins
    (untouched_moments (g.met.D.Disk.only_now c.args.disk.now) c.collect.ensures.untouched (λ image left. nothing_changed _ image (c.requires.settled image left)))
    (widens c.repair.ensures.any_moment (λ image from. let told = sym c.collect.ensures.untouched.same_reads ∙ from.was_given in
    record { given = from.given; was_given = told; stepped = repair_same c.args.live _ from.given image (c.requires.lives from.given told).found from.stepped }))

pub returns-clause-opened : goal.returns-clause-opened
returns-clause-opened g c =
    let live = c.args.live in
    record {
      kept = keeps_rest (g.D.Disk.shows c.repair.new.disk) live (λ areas told. (c.in_ok-repair.ensures.repaired areas told).stepped.rests)
          c.in_ok-repair.ensures.settled c.in_ok-repair.ensures.length c.requires.fits.headed c.requires.fits.limit;
      bounded = c.in_ok-batches.ensures.bounded;
      has = has_told (g.D.Disk.shows c.repair.new.disk) live c.in_ok-batches.batches (λ areas told.
          let from = c.in_ok-repair.ensures.repaired areas told in
          let given_told = sym c.collect.ensures.untouched.same_reads ∙ from.was_given in
          let lives = c.requires.lives from.given given_told in
          from.stepped.same ∙ sym (c.in_ok-batches.ensures.collected from.given given_told (record { front = lives.front; within = omega (arith, lives.within) })));
      found = λ areas told.
          let lives = c.requires.lives areas told in
          subst (λ (f : Found). FoundAs live c.in_ok-batches.batches f) (sym lives.found)
          (refl, refl, c.in_ok-batches.ensures.collected areas told (record { front = lives.front; within = omega (arith, lives.within) }));
    }
