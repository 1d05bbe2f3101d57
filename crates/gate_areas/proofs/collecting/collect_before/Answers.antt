use Rattle.std.proofs.Common.{◌≡◌, ℕ, ◌+◌, ◌≤◌, List, [], ◌∷◌, ◌++◌, length, take, drop, sym, ◌∙◌, ap, subst, arith, length-append}
use Rattle.std.proofs.lemmas.List.{length-take-le}
use Rattle.disk_trait.specs.Areas.{area_of}
use Rattle.disk_trait.proofs.Laws.{untouched_twice}
use Rattle.gate_areas.specs.Sealed.{BatchList, with_front, batches_at, CLOSED}
use Rattle.gate_areas.specs.Scan.{GateIs, GateFits}
use Rattle.gate_areas.proofs.Fronts.{with_front_twice}
use Rattle.gate_areas.proofs.Scanning.{peek}
use Rattle.gate_areas.proofs.Walks.{walk_open, batches_here, ends_here, ends_later, one_more}
use Rattle.gate_areas.proofs.collecting.collect_before.Goals as goal

pub returns-in_default-clause-collected : goal.returns-in_default-clause-collected
returns-in_default-clause-collected g c = λ areas told generation batches enough front.
    let bytes = take c.args.gate (area_of c.args.area areas) ++ CLOSED ∷ [] in
    let now = c.batches.invariant.untouched.same_reads ∙ told in
    let long : length (take c.args.gate (area_of c.args.area areas) ++ CLOSED ∷ []) ≡ c.args.gate + 1 =
    omega (arith, length-append (take c.args.gate (area_of c.args.area areas)) (CLOSED ∷ []), length-take-le c.args.gate (area_of c.args.area areas) enough) in
    ends_here c.batches.here c.in_default.not-Open c.batches.place bytes (omega (arith, long, c.batches.invariant.within)) (c.batches.invariant.gate areas now CLOSED)
    c.batches.batches batches _ (c.batches.invariant.so_far areas now) (batches_here generation c.args.gate (area_of c.args.area areas) batches front)

pub returns-in_default-clause-bounded : goal.returns-in_default-clause-bounded
returns-in_default-clause-bounded g c = ends_later _ _ _ c.batches.invariant.within c.batches.invariant.bounded

pub read_batch-requires-clause-within : goal.read_batch-requires-clause-within
read_batch-requires-clause-within g c =
    let fits = subst (λ gate. GateFits gate c.batches.place c.args.gate) c.in-Open.is c.batches.invariant.fits in omega (arith, fits)

pub batches-preserved : goal.batches-preserved
batches-preserved g c =
    let fits = subst (λ gate. GateFits gate c.batches.place c.args.gate) c.in-Open.is c.batches.invariant.fits in
    record {
      within = omega (arith, fits);
      bounded = one_more _ _ _ _ _ c.in_ok-push.ensures.pushed (omega (arith, c.in_ok-batch.ensures.size)) c.batches.invariant.bounded;
      room = omega (arith, c.batches.invariant.room, c.read_batch.ensures.untouched.same_lengths c.args.area);
      never_falls = omega (arith, c.batches.invariant.never_falls, c.read_batch.ensures.count);
      untouched = untouched_twice c.batches.invariant.untouched c.read_batch.ensures.untouched;
      fits = subst (λ (n : ℕ). GateFits c.in_ok-batch.batch.behind n c.args.gate) (omega arith) c.in_ok-batch.ensures.fits;
      gate = λ areas told_after last.
          subst (λ (n : ℕ). GateIs c.in_ok-batch.batch.behind (drop n (take c.args.gate (area_of c.args.area areas) ++ last ∷ []))) (omega arith)
          (c.in_ok-batch.ensures.behind areas (sym c.read_batch.ensures.untouched.same_reads ∙ told_after) last);
      so_far = λ areas told_after.
          let told = sym c.read_batch.ensures.untouched.same_reads ∙ told_after in
          let all = area_of c.args.area areas in
          let bytes = take c.args.gate (area_of c.args.area areas) ++ CLOSED ∷ [] in
          let opens = subst (λ gate. GateIs gate (drop c.batches.place (take c.args.gate (area_of c.args.area areas) ++ CLOSED ∷ []))) c.in-Open.is (c.batches.invariant.gate areas told CLOSED) in
          let enough : c.args.gate ≤ length (area_of c.args.area areas) =
          omega (arith, g.met.D.Disk.lengths_are_told c.args.disk.now areas c.args.area (sym c.batches.invariant.untouched.same_reads ∙ told), c.if-branch-gate.false, c.in_ok-len.ensures.length) in
          let long : length (take c.args.gate (area_of c.args.area areas) ++ CLOSED ∷ []) ≡ c.args.gate + 1 =
          omega (arith, length-append (take c.args.gate (area_of c.args.area areas)) (CLOSED ∷ []), length-take-le c.args.gate (area_of c.args.area areas) enough) in
          let walk = walk_open c.batches.place bytes (omega (arith, long, c.batches.invariant.within)) c.in-Open.length opens.0 opens.1 opens.2 in
          let payload = peek all (c.batches.place + 9) c.args.gate CLOSED (omega (arith, fits)) enough c.in-Open.length (omega (arith, fits)) in
          let rest = batches_at (c.batches.place + (9 + c.in-Open.length)) 0 (drop (c.batches.place + (9 + c.in-Open.length)) (take c.args.gate (area_of c.args.area areas) ++ CLOSED ∷ [])) in
          let payload_is = c.in_ok-batch.ensures.payload areas told ∙ sym payload in
          ap (λ (bs : BatchList). with_front bs rest) (c.in_ok-push.ensures.pushed ∙ ap (λ (p : List ℕ). c.batches.batches ++ (c.batches.place, p) ∷ []) payload_is)
          ∙ sym (with_front_twice c.batches.batches _ rest)
          ∙ sym (ap (λ r. with_front c.batches.batches r) walk)
          ∙ c.batches.invariant.so_far areas told;
    }
