use Rattle.std.proofs.Common.{◌≤◌, ◌∙◌, length, sym, ap, subst}
use Rattle.store_contents.specs.Store.{Kept}
use Rattle.store_contents.specs.IsStore.{IsCurrent}
use Rattle.object_stores.proofs.Marks.{current_undone, settled_undone}
use Rattle.object_stores.proofs.store.StoreVersion.undo_to.Goals as goal

pub undo_to-requires-clause-place : goal.undo_to-requires-clause-place
undo_to-requires-clause-place g c = λ κs h. subst (λ (k : Kept). c.args.mark.place ≤ length k.past) (sym c.self.view_is) c.requires.place

pub invariant_of-self : goal.invariant_of-self
invariant_of-self g c =
    let old = c.self.inside.parts in
    let new = c.undo_to.new.parts in
    let e = c.undo_to.ensures in
    let within = subst (λ (k : Kept). c.args.mark.place ≤ length k.past) (sym c.self.view_is) c.requires.place in
    let current = subst (λ (k : Kept). IsCurrent k.store.info.auto c.args.mark.current) (sym c.self.view_is) c.requires.current in
    record {
      sound = e.sound;
      current = subst (λ n. IsCurrent new.contents.info.auto n) (sym c.restore.ensures) (current_undone old new c.args.mark.place e.content e.past within _ current);
      settled = current_undone old new c.args.mark.place e.content e.past within _ c.self.invariant.settled;
    }

pub returns-clause-settled : goal.returns-clause-settled
returns-clause-settled g c =
    let within = subst (λ (k : Kept). c.args.mark.place ≤ length k.past) (sym c.self.view_is) c.requires.place in
    settled_undone c.self.inside.parts c.undo_to.new.parts c.args.mark.place c.undo_to.ensures.content c.undo_to.ensures.past within _ ∙ ap (λ (k : Kept). k.settled) c.self.view_is
