use Rattle.std.proofs.Common.{ℕ, [], None, refl, ◌∙◌, ap}
use Rattle.disk_trait.specs.declared.area.Area.{Area}
use Rattle.gate_areas.specs.Found.{Live}
use Rattle.gate_log.proofs.Keeps.{keeps_rest, has_told, images_has, room_where_blank, none_end}
use Rattle.gate_log.proofs.log.GateLog.create.Goals as goal

pub make_area-requires-clause-room : goal.make_area-requires-clause-room
make_area-requires-clause-room g c = room_where_blank (g.D.Disk.shows c.args.disk) c.args.area c.args.generation c.requires.blank

pub invariant_of-result : goal.invariant_of-result
invariant_of-result g c = record {
  kept = keeps_rest (g.D.Disk.shows c.make_area.new.disk) c.in-Ok.live (λ areas told. (c.in-Ok.ensures.made areas told).rests) c.in-Ok.ensures.settled c.in-Ok.ensures.length c.in-Ok.ensures.fits.headed c.in-Ok.ensures.fits.limit;
}

pub returns-in-Ok-clause-created : goal.returns-in-Ok-clause-created
returns-in-Ok-clause-created g c = record {
  has = has_told (g.D.Disk.shows c.make_area.new.disk) c.in-Ok.live [] (λ areas told. (c.in-Ok.ensures.made areas told).batches_are);
  in_area = c.in-Ok.ensures.here.here;
  of_generation = c.in-Ok.ensures.here.generation_is;
  faultless = λ i. None;
  bounded = none_end c.in-Ok.live.gate [] refl c.in-Ok.ensures.fits.headed;
}

pub returns-in-Ok-clause-sealed : goal.returns-in-Ok-clause-sealed
returns-in-Ok-clause-sealed g c = λ image left.
    let d = g.D.Disk.shows c.make_area.new.disk in
    let live = c.in-Ok.live in
    images_has d live []
    (keeps_rest d live (λ areas told. (c.in-Ok.ensures.made areas told).rests) c.in-Ok.ensures.settled c.in-Ok.ensures.length c.in-Ok.ensures.fits.headed c.in-Ok.ensures.fits.limit)
    (has_told d live [] (λ areas told. (c.in-Ok.ensures.made areas told).batches_are)) image left
    ∙ ap (λ (a : Area). Live a live.generation []) c.in-Ok.ensures.here.here ∙ ap (λ (n : ℕ). Live c.args.area n []) c.in-Ok.ensures.here.generation_is
