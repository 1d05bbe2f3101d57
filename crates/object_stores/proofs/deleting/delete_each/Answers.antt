use Rattle.std.proofs.Common.{◌-◌, sym, ap, ◌∙◌, subst, arith}
use Rattle.std.specs.FinMap.{entries}
use Rattle.store_contents.specs.Store.{Content}
use Rattle.object_stores.proofs.Deleted.{all_gone, outside_removed, last_inside, entry_there, empty_take, last_within, SameOutside}
use Rattle.store_contents.proofs.Laws.{keeps_again}
use Rattle.object_stores.proofs.deleting.delete_each.Goals as goal

pub returns-then-start-past-clause-deleted : goal.returns-then-start-past-clause-deleted
returns-then-start-past-clause-deleted g c =
    let old = c.args.parts.now in
    let new = c.loop-start.parts in
    let none = all_gone c.args.range.now old.contents.records new.contents.records c.loop-start.invariant.outside
    (sym c.span-start.ensures.selected ∙ empty_take _ _ _ c.if-start-past.true) in
    λ i. record { info = c.loop-start.invariant.info i; records = none i }

pub take_at-requires-clause-within : goal.take_at-requires-clause-within
take_at-requires-clause-within g c =
    let records = c.loop-start.parts.contents.records in
    λ κs h. last_within records c.span-start.result.0 c.span-start.result.1 c.span-start.ensures.order c.if-start-past.false c.span-start.ensures.within

pub loop-start-preserved : goal.loop-start-preserved
loop-start-preserved g c =
    let mid = c.loop-start.parts in
    let records = mid.contents.records in
    let order = c.span-start.ensures.order in
    let e = entry_there records (c.span-start.result.1 - 1) (last_within records c.span-start.result.0 c.span-start.result.1 order c.if-start-past.false c.span-start.ensures.within) in
    let taken = c.in_ok-take_at.ensures.taken e.0 e.1 e.2 in
    let inside = last_inside c.args.range.now (entries records) c.span-start.result.0 c.span-start.result.1 e.0 e.1 (omega (arith, order, c.if-start-past.false)) c.span-start.ensures.within c.span-start.ensures.selected e.2 in
    record {
      sound = c.take_at.ensures.sound;
      info = ap (λ (x : Content). x.info) taken ∙ c.loop-start.invariant.info;
      outside = subst (λ (x : Content). SameOutside c.args.range.now c.args.parts.now.contents.records x.records) (sym taken) (outside_removed c.args.range.now c.args.parts.now.contents.records records e.0 c.loop-start.invariant.outside inside);
      past = keeps_again c.loop-start.invariant.past c.take_at.ensures.past;
    }
