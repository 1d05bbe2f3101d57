use Rattle.std.proofs.Common.{length, sym, ap, ◌∙◌, subst}
use Rattle.store_contents.specs.Store.{Kept, at_mark}
use Rattle.store_contents.specs.IsStore.{IsStore}
use Rattle.object_stores.proofs.Logged.{past_length}
use Rattle.object_stores.proofs.Marks.{whole_now, marked_here}
use Rattle.object_stores.proofs.store.StoreVersion.mark.Goals as goal

pub returns-clause-place : goal.returns-clause-place
returns-clause-place g c = c.len.ensures ∙ c.self.inside.parts.log.ok.0 ∙ sym (past_length c.self.inside.parts) ∙ ap (λ (k : Kept). length k.past) c.self.view_is

pub returns-clause-here : goal.returns-clause-here
returns-clause-here g c =
    let place = c.len.ensures ∙ c.self.inside.parts.log.ok.0 ∙ sym (past_length c.self.inside.parts) ∙ ap (λ (k : Kept). length k.past) c.self.view_is in
    let current = c.current.ensures.value ∙ ap (λ (k : Kept). k.store.current) c.self.view_is in
    (λ i. at_mark c.args.self.now (place i) (current i)) ∙ marked_here c.args.self.now

pub returns-clause-sound : goal.returns-clause-sound
returns-clause-sound g c = subst (λ (k : Kept). IsStore k.store) c.self.view_is (whole_now c.self.inside.parts c.self.invariant.sound _ c.self.invariant.current)
