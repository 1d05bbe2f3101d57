use Rattle.std.proofs.Common.{◌∙◌, sym, ap, subst, arith}
use Rattle.store_contents.specs.Store.{Kept, numbered}
use Rattle.store_contents.specs.IsStore.{IsCurrent}
use Rattle.object_stores.proofs.Marks.{current_undone, settled_undone}
use Rattle.object_stores.proofs.store.StoreVersion.undo_all.Goals as goal

pub invariant_of-self : goal.invariant_of-self
invariant_of-self g c =
    let old = c.self.inside.parts in
    let new = c.undo_to.new.parts in
    let e = c.undo_to.ensures in
    record {
      sound = e.sound;
      current = subst (λ n. IsCurrent new.contents.info.auto n) (sym c.restore.ensures) (current_undone old new 0 e.content e.past (omega arith) _ c.self.invariant.settled);
      settled = current_undone old new 0 e.content e.past (omega arith) _ c.self.invariant.settled;
    }

pub returns-clause-store : goal.returns-clause-store
returns-clause-store g c = (λ i. numbered (c.undo_to.ensures.content i) (c.restore.ensures i)) ∙ ap (λ (k : Kept). k.settled) c.self.view_is

pub returns-clause-settled : goal.returns-clause-settled
returns-clause-settled g c =
    settled_undone c.self.inside.parts c.undo_to.new.parts 0 c.undo_to.ensures.content c.undo_to.ensures.past (omega arith) _ ∙ ap (λ (k : Kept). k.settled) c.self.view_is
