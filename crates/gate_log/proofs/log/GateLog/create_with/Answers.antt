use Rattle.std.proofs.Common.{ℕ, [], ◌∷◌, None, ◌∙◌, ap}
use Rattle.disk_trait.specs.declared.area.Area.{Area}
use Rattle.gate_areas.specs.Found.{Live}
use Rattle.gate_log.proofs.Keeps.{keeps_rest, has_told, images_has, one_ends}
use Rattle.gate_log.proofs.log.GateLog.create_with.Goals as goal

pub invariant_of-result : goal.invariant_of-result
invariant_of-result g c = record {
  kept = keeps_rest (g.D.Disk.shows c.make_area_with.new.disk) c.in-Ok.live (λ areas told. (c.in-Ok.ensures.made areas told).rests) c.in-Ok.ensures.settled c.in-Ok.ensures.length c.in-Ok.ensures.fits.headed c.in-Ok.ensures.fits.limit;
}

pub returns-in-Ok-clause-created : goal.returns-in-Ok-clause-created
returns-in-Ok-clause-created g c = record {
  has = has_told (g.D.Disk.shows c.make_area_with.new.disk) c.in-Ok.live ((17, c.args.first.now) ∷ []) (λ areas told. (c.in-Ok.ensures.made areas told).batches_are);
  in_area = c.in-Ok.ensures.here.here;
  of_generation = c.in-Ok.ensures.here.generation_is;
  faultless = λ i. None;
  bounded = one_ends c.in-Ok.live.gate c.args.first.now c.in-Ok.ensures.here.gate_is;
}

pub returns-in-Ok-clause-sealed : goal.returns-in-Ok-clause-sealed
returns-in-Ok-clause-sealed g c = λ image left.
    let d = g.D.Disk.shows c.make_area_with.new.disk in
    let live = c.in-Ok.live in
    images_has d live ((17, c.args.first.now) ∷ [])
    (keeps_rest d live (λ areas told. (c.in-Ok.ensures.made areas told).rests) c.in-Ok.ensures.settled c.in-Ok.ensures.length c.in-Ok.ensures.fits.headed c.in-Ok.ensures.fits.limit)
    (has_told d live ((17, c.args.first.now) ∷ []) (λ areas told. (c.in-Ok.ensures.made areas told).batches_are)) image left
    ∙ ap (λ (a : Area). Live a live.generation ((17, c.args.first.now) ∷ [])) c.in-Ok.ensures.here.here ∙ ap (λ (n : ℕ). Live c.args.area n ((17, c.args.first.now) ∷ [])) c.in-Ok.ensures.here.generation_is
