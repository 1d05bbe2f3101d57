use Rattle.std.proofs.Common.{◌∙◌, ap, subst, arith}
use Rattle.std.specs.List.{AllByRecursion}
use Rattle.idb_calls.specs.View.{delta_of}
use Rattle.record_bytes.specs.Loggable.{HasLoggableParts}
use Rattle.record_bytes.proofs.Puts.{next_put, begins_after, named_more}
use Rattle.record_bytes.proofs.writing.put_deltas.Goals as goal
use Rattle.record_bytes.proofs.writing.put_deltas.Goals.{in-Some+in_ok-put_delta, in_default}

pub loop-place-preserved : goal.loop-place-preserved
loop-place-preserved c = elim c.match-at.branch [
  | in-Some+in_ok-put_delta w ↦
      let d = delta_of w.in-Some.delta.now in
      let stands = w.in-Some.ensures.stands in
      let so_far = c.loop-place.invariant in
      let put = ap (λ o. o.items) w.out-is ∙ w.in_ok-put_delta.ensures.written in
      record {
        written = next_put c.loop-place.out.items c.match-at.out.items _ c.args.deltas.now c.loop-place.place d so_far.written stands put;
        front = begins_after c.args.out.now.items c.loop-place.out.items _ c.match-at.out.items so_far.front put;
        parts = (subst (AllByRecursion HasLoggableParts) stands so_far.parts).1;
        named = named_more c.args.deltas.now c.loop-place.place d so_far.named stands w.name_delta.ensures;
      }
  | in_default w ↦ absurd (omega (arith, w.in_default.ensures.past_end, c.loop-place-test.true, c.len-place-end.ensures))
]
