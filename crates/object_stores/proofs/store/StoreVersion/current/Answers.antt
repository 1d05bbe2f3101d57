use Rattle.std.proofs.Common.{subst}
use Rattle.store_contents.specs.Store.{Kept}
use Rattle.store_contents.specs.IsStore.{IsStore}
use Rattle.object_stores.proofs.Marks.{whole_now}
use Rattle.object_stores.proofs.store.StoreVersion.current.Goals as goal

pub returns-clause-sound : goal.returns-clause-sound
returns-clause-sound g c = subst (λ (k : Kept). IsStore k.store) c.self.view_is (whole_now c.self.inside.parts c.self.invariant.sound _ c.self.invariant.current)
