use Rattle.std.proofs.Common.{◌≡◌, ℕ, ◌+◌, List, [], length, get_or, drop, sym, ◌∙◌, subst, arith}
use Rattle.disk_trait.specs.Areas.{area_of}
use Rattle.gate_areas.specs.Scan.{GateIs, GateFits}
use Rattle.disk_trait.proofs.Laws.{untouched_yet, untouched_twice}
use Rattle.gate_areas.proofs.Walks.{to_last, front_on, broken_fault}
use Rattle.gate_areas.proofs.scan.scan_batches.Goals as goal

pub batches-init : goal.batches-init
batches-init g c = record {
  headed = omega arith;
  within = c.requires.room;
  never_falls = omega arith;
  untouched = untouched_yet _;
  front = λ areas told. ([], c.requires.head areas told);
}

pub returns-in-Shut-clause-scan : goal.returns-in-Shut-clause-scan
returns-in-Shut-clause-scan g c = λ areas told.
    let bytes = area_of c.args.area areas in
    let long : length bytes ≡ c.args.end + 1 = sym (g.met.D.Disk.lengths_are_told c.args.disk.now areas c.args.area told) ∙ c.requires.last in
    let front = c.batches.invariant.front areas (c.batches.invariant.untouched.same_reads ∙ told) in
    let gate = subst (λ (l : List ℕ). GateIs c.in_ok-read_gate.field-0 (drop c.batches.place l)) (to_last c.args.end bytes long) (c.in_ok-read_gate.ensures.gate areas (c.batches.invariant.untouched.same_reads ∙ told) (get_or bytes c.args.end 0)) in
    record {
      batches = front.0;
      front = front.1;
      headed = c.batches.invariant.headed;
      within = omega (arith, long, c.batches.invariant.within);
      shut = subst (λ gate. GateIs gate (drop c.batches.place bytes)) c.in-Shut.is gate;
    }

pub overflow_add-result : goal.overflow_add-result
overflow_add-result g c = omega (arith, c.batches.invariant.within, c.requires.limit)

pub returns-in-Broken-clause-scan : goal.returns-in-Broken-clause-scan
returns-in-Broken-clause-scan g c = λ areas told.
    let bytes = area_of c.args.area areas in
    let long : length bytes ≡ c.args.end + 1 = sym (g.met.D.Disk.lengths_are_told c.args.disk.now areas c.args.area told) ∙ c.requires.last in
    let front = c.batches.invariant.front areas (c.batches.invariant.untouched.same_reads ∙ told) in
    let gate = subst (λ (l : List ℕ). GateIs c.in_ok-read_gate.field-0 (drop c.batches.place l)) (to_last c.args.end bytes long) (c.in_ok-read_gate.ensures.gate areas (c.batches.invariant.untouched.same_reads ∙ told) (get_or bytes c.args.end 0)) in
    let broken = subst (λ gate. GateIs gate (drop c.batches.place bytes)) c.in-Broken.is gate in
    broken_fault c.batches.place bytes (omega (arith, long, c.batches.invariant.within)) c.args.generation front.0 front.1 broken.0 broken.1

pub batches-preserved : goal.batches-preserved
batches-preserved g c = record {
  headed = omega (arith, c.batches.invariant.headed);
  within = let fits = subst (λ gate. GateFits gate c.batches.place c.args.end) c.in-Open.is c.in_ok-read_gate.ensures.fits in omega (arith, fits);
  never_falls = omega (arith, c.batches.invariant.never_falls, c.read_gate.ensures.cause.never_falls);
  untouched = untouched_twice c.batches.invariant.untouched c.read_gate.ensures.untouched;
  front = λ areas told_after.
      let told = sym c.read_gate.ensures.untouched.same_reads ∙ told_after in
      let bytes = area_of c.args.area areas in
      let long : length bytes ≡ c.args.end + 1 = sym (g.met.D.Disk.lengths_are_told c.args.disk.now areas c.args.area (sym c.batches.invariant.untouched.same_reads ∙ told)) ∙ c.requires.last in
      let front = c.batches.invariant.front areas told in
      let gate = subst (λ (l : List ℕ). GateIs c.in_ok-read_gate.field-0 (drop c.batches.place l)) (to_last c.args.end bytes long) (c.in_ok-read_gate.ensures.gate areas told (get_or bytes c.args.end 0)) in
      let opens = subst (λ gate. GateIs gate (drop c.batches.place bytes)) c.in-Open.is gate in
      (_, front_on c.batches.place bytes (omega (arith, long, c.batches.invariant.within)) c.in-Open.length opens.0 opens.1 opens.2 c.args.generation front.0 front.1);
}
