use Rattle.std.proofs.Common.{ℕ, ◌∷◌, [], Some, Option, sym, subst, ◌∙◌, ap}
use Rattle.disk_trait.specs.declared.area.Area.{Area}
use Rattle.disk_trait.specs.Areas.{other_area}
use Rattle.gate_areas.specs.Found.{Live}
use Rattle.gate_log.specs.Content.{switched_found, IsFoundAsOr}
use Rattle.gate_log.specs.Kept.{IsKept}
use Rattle.gate_log.proofs.Appends.{still_told, still_images, keeps_faulted, switch_room, switch_moments, switch_stays, switch_front}
use Rattle.gate_log.proofs.Keeps.{keeps_rest, has_told, images_has, one_ends}
use Rattle.gate_log.proofs.log.GateLog.switch.Goals as goal

pub make_area_with-requires-clause-room : goal.make_area_with-requires-clause-room
make_area_with-requires-clause-room g c =
    let s = c.args.self.now in
    switch_room (g.D.Disk.shows s.disk) (g.D.Disk.shows s.disk) s.live c.other-area.result c.other-area.ensures (subst (λ (seen : Option ℕ). IsKept (g.D.Disk.shows s.disk) s.live seen) c.in-None.is s.kept) c.args.first.now

pub invariant_of-self : goal.invariant_of-self
invariant_of-self g c = record {
  kept = subst (λ (seen : Option ℕ). IsKept (g.D.Disk.shows c.make_area_with.new.disk) c.in-Ok.live seen) (sym c.in-None.is)
      (keeps_rest (g.D.Disk.shows c.make_area_with.new.disk) c.in-Ok.live (λ areas told. (c.in-Ok.ensures.made areas told).rests) c.in-Ok.ensures.settled c.in-Ok.ensures.length c.in-Ok.ensures.fits.headed c.in-Ok.ensures.fits.limit);
}

pub invariant_of-self-in-Err : goal.invariant_of-self-in-Err
invariant_of-self-in-Err g c =
    let s = c.args.self.now in
    let kept = (subst (λ (seen : Option ℕ). IsKept (g.D.Disk.shows s.disk) s.live seen) c.in-None.is s.kept) in
    let run = c.make_area_with.ensures.any_moment in
    record {
      kept = keeps_faulted (g.D.Disk.shows s.disk) (g.D.Disk.shows c.make_area_with.new.disk) s.live kept (switch_front _ _ s.live c.other-area.result c.other-area.ensures kept c.args.first.now run) (g.met.D.Disk.counts_now c.make_area_with.new.disk) (g.met.D.Disk.reads_are_an_image c.make_area_with.new.disk)
          (Some (switched_found s.live c.args.first.now)) (switch_moments _ _ s.live c.other-area.result c.other-area.ensures kept c.args.first.now run) c.fault_count-count.result c.fault_count-count.ensures;
    }

pub returns-in-Ok-clause-switched : goal.returns-in-Ok-clause-switched
returns-in-Ok-clause-switched g c = has_told (g.D.Disk.shows c.make_area_with.new.disk) c.in-Ok.live ((17, c.args.first.now) ∷ []) (λ areas told. (c.in-Ok.ensures.made areas told).batches_are)

pub returns-in-Ok-clause-sealed : goal.returns-in-Ok-clause-sealed
returns-in-Ok-clause-sealed g c = λ image left.
    let d = (g.D.Disk.shows c.make_area_with.new.disk) in
    let live = c.in-Ok.live in
    images_has d live ((17, c.args.first.now) ∷ [])
    (keeps_rest d live (λ areas told. (c.in-Ok.ensures.made areas told).rests) c.in-Ok.ensures.settled c.in-Ok.ensures.length c.in-Ok.ensures.fits.headed c.in-Ok.ensures.fits.limit)
    (has_told d live ((17, c.args.first.now) ∷ []) (λ areas told. (c.in-Ok.ensures.made areas told).batches_are)) image left
    ∙ ap (λ (a : Area). Live a live.generation ((17, c.args.first.now) ∷ [])) (c.in-Ok.ensures.here.here ∙ c.other-area.ensures)
    ∙ ap (λ (n : ℕ). Live (other_area c.args.self.now.live.area) n ((17, c.args.first.now) ∷ [])) c.in-Ok.ensures.here.generation_is

pub returns-in-Ok-clause-bounded : goal.returns-in-Ok-clause-bounded
returns-in-Ok-clause-bounded g c = one_ends c.in-Ok.live.gate c.args.first.now c.in-Ok.ensures.here.gate_is

pub returns-in-Ok-clause-any_moment : goal.returns-in-Ok-clause-any_moment
returns-in-Ok-clause-any_moment g c = λ none.
    let s = c.args.self.now in
    switch_moments _ _ s.live c.other-area.result c.other-area.ensures (subst (λ (seen : Option ℕ). IsKept (g.D.Disk.shows s.disk) s.live seen) c.in-None.is s.kept) c.args.first.now c.make_area_with.ensures.any_moment

pub returns-in-Ok-clause-stays : goal.returns-in-Ok-clause-stays
returns-in-Ok-clause-stays g c = λ none.
    let s = c.args.self.now in
    switch_stays _ _ s.live c.other-area.result c.other-area.ensures (subst (λ (seen : Option ℕ). IsKept (g.D.Disk.shows s.disk) s.live seen) c.in-None.is s.kept) c.args.first.now c.make_area_with.ensures.any_moment

pub returns-in-Err-clause-any_moment : goal.returns-in-Err-clause-any_moment
returns-in-Err-clause-any_moment g c = λ none.
    let s = c.args.self.now in
    switch_moments _ _ s.live c.other-area.result c.other-area.ensures (subst (λ (seen : Option ℕ). IsKept (g.D.Disk.shows s.disk) s.live seen) c.in-None.is s.kept) c.args.first.now c.make_area_with.ensures.any_moment

pub returns-in-Err-clause-stays : goal.returns-in-Err-clause-stays
returns-in-Err-clause-stays g c = λ none.
    let s = c.args.self.now in
    switch_stays _ _ s.live c.other-area.result c.other-area.ensures (subst (λ (seen : Option ℕ). IsKept (g.D.Disk.shows s.disk) s.live seen) c.in-None.is s.kept) c.args.first.now c.make_area_with.ensures.any_moment

pub returns-in-Err-clause-failed : goal.returns-in-Err-clause-failed
returns-in-Err-clause-failed g c =
    let s = c.args.self.now in
    let kept = (subst (λ (seen : Option ℕ). IsKept (g.D.Disk.shows s.disk) s.live seen) c.in-None.is s.kept) in
    still_told (g.D.Disk.shows s.disk) (g.D.Disk.shows c.make_area_with.new.disk) s.live kept (switch_front _ _ s.live c.other-area.result c.other-area.ensures kept c.args.first.now c.make_area_with.ensures.any_moment)
    (g.met.D.Disk.counts_now c.make_area_with.new.disk) (g.met.D.Disk.reads_are_an_image c.make_area_with.new.disk)

pub returns-in-Err-clause-in_doubt : goal.returns-in-Err-clause-in_doubt
returns-in-Err-clause-in_doubt g c = λ is image left.
    let s = c.args.self.now in
    let kept = (subst (λ (seen : Option ℕ). IsKept (g.D.Disk.shows s.disk) s.live seen) c.in-None.is s.kept) in
    let run = c.make_area_with.ensures.any_moment in
    still_images (g.D.Disk.shows s.disk) (g.D.Disk.shows c.make_area_with.new.disk) s.live kept (switch_front _ _ s.live c.other-area.result c.other-area.ensures kept c.args.first.now run)
    (g.met.D.Disk.counts_now c.make_area_with.new.disk) (g.met.D.Disk.reads_are_an_image c.make_area_with.new.disk)
    (λ content. IsFoundAsOr s.live content (Some (switched_found s.live c.args.first.now))) (switch_moments _ _ s.live c.other-area.result c.other-area.ensures kept c.args.first.now run) image left
