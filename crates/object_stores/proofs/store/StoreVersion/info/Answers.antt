use Rattle.std.proofs.Common.{◌≡◌, subst}
use Rattle.store_contents.specs.Store.{Kept, at_mark}
use Rattle.store_contents.specs.IsStore.{IsStore}
use Rattle.object_stores.proofs.Logged.{place_auto}
use Rattle.object_stores.proofs.Marks.{whole_now, whole_then}
use Rattle.object_stores.proofs.store.StoreVersion.info.Goals as goal

pub returns-clause-sound : goal.returns-clause-sound
returns-clause-sound g c = subst (λ (k : Kept). IsStore k.store) c.self.view_is (whole_now c.self.inside.parts c.self.invariant.sound _ c.self.invariant.current)

pub returns-clause-was_sound : goal.returns-clause-was_sound
returns-clause-was_sound g c = subst (λ (k : Kept). IsStore k.settled) c.self.view_is (whole_then c.self.inside.parts c.self.invariant.sound 0 _ c.self.invariant.settled)

pub returns-clause-auto : goal.returns-clause-auto
returns-clause-auto g c place n = subst (λ (k : Kept). (at_mark k place n).info.auto ≡ k.store.info.auto) c.self.view_is (place_auto c.self.inside.parts place)
