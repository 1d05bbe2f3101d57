use Rattle.std.proofs.Common.{arith}
use Rattle.std.proofs.lemmas.List.{take_all}
use Rattle.live_stores.proofs.Endings.{restoring, all_restored}
use Rattle.live_stores.proofs.standing.restore_all.Goals as goal

pub loop-place-preserved : goal.loop-place-preserved
loop-place-preserved g c =
    restoring c.args.items.now.items c.loop-place.items.items c.loop-place.place c.index_mut.result.now c.restore_here.new.slot c.loop-place.invariant
    (omega (arith, c.loop-place-test.true, c.len-place-end.ensures, c.loop-place.invariant.count, c.args.items.now.ok.0)) c.index_mut.ensures.value c.restore_here.ensures.here c.restore_here.ensures.before

pub returns-clause-restored : goal.returns-clause-restored
returns-clause-restored g c =
    all_restored c.args.items.now.items c.loop-place.items.items c.loop-place.place c.loop-place.invariant
    (take_all c.loop-place.place c.loop-place.items.items (omega (arith, c.loop-place-test.false, c.len-place-end.ensures, c.loop-place.invariant.count, c.args.items.now.ok.0)))
