use Rattle.std.proofs.Common.{◌≡◌, ◌∙◌, ℕ, suc, ◌<◌, ◌≤◌, ◌+◌, length, get_or, map, take, drop, slice_get, position, Option, Some, None, Bool, true, false, List, [], ◌∷◌, ◌++◌, ap, sym, refl, subst, add-one, arith}
use Rattle.name_queues.specs.Traffic.{TrafficData}
use Rattle.name_queues.specs.Moves.{told, told_conns}
use Rattle.name_queues.proofs.Lists.{value_step}
use Rattle.name_queues.proofs.turns.mark_told.Goals as goal

pub loop-place-preserved : goal.loop-place-preserved
loop-place-preserved c =
    let es = c.args.traffic.now.conns in
    let place = c.loop-place.place in
    let here : slice_get (told_conns (take place es) ++ drop place es) place ≡ Some c.entry.result = subst (λ xs. slice_get xs place ≡ Some c.entry.result) c.loop-place.invariant.conns c.entry.ensures in
    record {
      queue = ap (λ (t : TrafficData). t.queue) c.set_at.ensures ∙ c.loop-place.invariant.queue;
      conns = ap (λ (t : TrafficData). t.conns) c.set_at.ensures ∙ rw (c.told.ensures, c.loop-place.invariant.conns, add-one place) (value_step told es place c.entry.result.0 c.entry.result.1 here);
    }
