use Rattle.std.proofs.Common.{ℕ, None, Option, subst, sym}
use Rattle.gate_log.specs.Content.{found_told, with_batch, batches_told, IsBeforeOrAfter}
use Rattle.gate_log.specs.Kept.{IsKept}
use Rattle.gate_log.proofs.Appends.{append_moments, append_stays, append_front, still_told, still_images, keeps_faulted, appended_told, keeps_sealed}
use Rattle.gate_log.proofs.Keeps.{images_stand}
use Rattle.gate_log.proofs.log.GateLog.append.Goals as goal

pub invariant_of-self : goal.invariant_of-self
invariant_of-self g c =
    let s = c.args.self.now in
    record {
      kept = subst (λ (seen : Option ℕ). IsKept (g.D.Disk.shows c.seal.new.disk) c.in-Ok.next seen) (sym c.in-None.is)
          (keeps_sealed (g.D.Disk.shows s.disk) (g.D.Disk.shows c.seal.new.disk) s.live c.args.frame.now c.in-Ok.next c.in-Ok.ensures.sealed (subst (λ (seen : Option ℕ). IsKept (g.D.Disk.shows s.disk) s.live seen) c.in-None.is s.kept) c.in-Ok.ensures.next c.in-Ok.ensures.settled c.in-Ok.ensures.length c.in-Ok.ensures.limit);
    }

pub invariant_of-self-in-Err : goal.invariant_of-self-in-Err
invariant_of-self-in-Err g c =
    let s = c.args.self.now in
    let run = c.seal.ensures.any_moment in
    record {
      kept = keeps_faulted (g.D.Disk.shows s.disk) (g.D.Disk.shows c.seal.new.disk) s.live (subst (λ (seen : Option ℕ). IsKept (g.D.Disk.shows s.disk) s.live seen) c.in-None.is s.kept) (append_front _ _ _ c.args.frame.now run) (g.met.D.Disk.counts_now c.seal.new.disk) (g.met.D.Disk.reads_are_an_image c.seal.new.disk)
          (found_told s.live (with_batch (s.live.gate, c.args.frame.now) (batches_told (g.D.Disk.shows s.disk) s.live))) (append_moments _ _ _ _ run) c.fault_count.result c.fault_count.ensures;
    }

pub returns-in-Ok-clause-appended : goal.returns-in-Ok-clause-appended
returns-in-Ok-clause-appended g c =
    let s = c.args.self.now in
    appended_told (g.D.Disk.shows s.disk) (g.D.Disk.shows c.seal.new.disk) s.live c.args.frame.now c.in-Ok.next c.in-Ok.ensures.sealed c.seal.ensures.any_moment.told

pub returns-in-Ok-clause-sealed : goal.returns-in-Ok-clause-sealed
returns-in-Ok-clause-sealed g c =
    let s = c.args.self.now in
    images_stand (g.D.Disk.shows c.seal.new.disk) c.in-Ok.next None
    (keeps_sealed (g.D.Disk.shows s.disk) (g.D.Disk.shows c.seal.new.disk) s.live c.args.frame.now c.in-Ok.next c.in-Ok.ensures.sealed (subst (λ (seen : Option ℕ). IsKept (g.D.Disk.shows s.disk) s.live seen) c.in-None.is s.kept) c.in-Ok.ensures.next c.in-Ok.ensures.settled c.in-Ok.ensures.length c.in-Ok.ensures.limit)
    (λ i. None)

pub returns-in-Ok-clause-any_moment : goal.returns-in-Ok-clause-any_moment
returns-in-Ok-clause-any_moment g c = λ none. append_moments _ _ _ _ c.seal.ensures.any_moment

pub returns-in-Ok-clause-stays : goal.returns-in-Ok-clause-stays
returns-in-Ok-clause-stays g c = λ none. append_stays _ _ _ c.args.frame.now c.seal.ensures.any_moment

pub returns-in-Err-clause-any_moment : goal.returns-in-Err-clause-any_moment
returns-in-Err-clause-any_moment g c = λ none. append_moments _ _ _ _ c.seal.ensures.any_moment

pub returns-in-Err-clause-stays : goal.returns-in-Err-clause-stays
returns-in-Err-clause-stays g c = λ none. append_stays _ _ _ c.args.frame.now c.seal.ensures.any_moment

pub returns-in-Err-clause-failed : goal.returns-in-Err-clause-failed
returns-in-Err-clause-failed g c =
    let s = c.args.self.now in
    still_told (g.D.Disk.shows s.disk) (g.D.Disk.shows c.seal.new.disk) s.live (subst (λ (seen : Option ℕ). IsKept (g.D.Disk.shows s.disk) s.live seen) c.in-None.is s.kept) (append_front _ _ _ c.args.frame.now c.seal.ensures.any_moment) (g.met.D.Disk.counts_now c.seal.new.disk) (g.met.D.Disk.reads_are_an_image c.seal.new.disk)

pub returns-in-Err-clause-in_doubt : goal.returns-in-Err-clause-in_doubt
returns-in-Err-clause-in_doubt g c = λ is image left.
    let s = c.args.self.now in
    let run = c.seal.ensures.any_moment in
    still_images (g.D.Disk.shows s.disk) (g.D.Disk.shows c.seal.new.disk) s.live (subst (λ (seen : Option ℕ). IsKept (g.D.Disk.shows s.disk) s.live seen) c.in-None.is s.kept) (append_front _ _ _ c.args.frame.now run)
    (g.met.D.Disk.counts_now c.seal.new.disk) (g.met.D.Disk.reads_are_an_image c.seal.new.disk)
    (λ content. IsBeforeOrAfter s.live content (s.live.gate, c.args.frame.now)) (append_moments _ _ _ _ run) image left
