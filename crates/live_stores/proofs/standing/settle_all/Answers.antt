use Rattle.std.proofs.Common.{sym, ◌∙◌, subst, arith}
use Rattle.live_stores.specs.Slots.{IsSettling}
use Rattle.live_stores.proofs.Endings.{settling, settling_past, vacant_at}
use Rattle.live_stores.proofs.standing.settle_all.Goals as goal

pub loop-place-preserved-then-is_vacant : goal.loop-place-preserved-then-is_vacant
loop-place-preserved-then-is_vacant g c =
    subst (λ fs. IsSettling c.args.items.now.items fs c.loop-place.place) (sym c.remove_at.ensures)
    (settling c.args.items.now.items c.loop-place.items.items c.loop-place.place c.index_mut.result.now c.settle_here.new.slot c.loop-place.invariant (omega (arith, c.loop-place-test.true, c.len.ensures, c.loop-place.items.ok.0)) c.index_mut.ensures.value c.settle_here.ensures.here c.settle_here.ensures.plain (sym (vacant_at c.loop-place.items.items c.loop-place.place (c.index_mut.result.now.0, c.settle_here.new.slot) c.index.result.now (omega (arith, c.loop-place-test.true, c.len.ensures, c.loop-place.items.ok.0)) c.index.ensures) ∙ sym c.is_vacant.ensures ∙ c.if-is_vacant.true))

pub loop-place-preserved : goal.loop-place-preserved
loop-place-preserved g c = settling_past c.args.items.now.items c.loop-place.items.items c.loop-place.place c.index_mut.result.now c.settle_here.new.slot c.loop-place.invariant (omega (arith, c.loop-place-test.true, c.len.ensures, c.loop-place.items.ok.0)) c.index_mut.ensures.value c.settle_here.ensures.here c.settle_here.ensures.plain (sym (vacant_at c.loop-place.items.items c.loop-place.place (c.index_mut.result.now.0, c.settle_here.new.slot) c.index.result.now (omega (arith, c.loop-place-test.true, c.len.ensures, c.loop-place.items.ok.0)) c.index.ensures) ∙ sym c.is_vacant.ensures ∙ c.if-is_vacant.false)
