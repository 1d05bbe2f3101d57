-- What all changes share: where a change was logged, the places of the past are kept.
--     keeps_logged          the change came after memory was taken
use Rattle.std.specs.Prelude.{◌≡◌, [], ◌∷◌, ◌++◌}
use Rattle.std.proofs.Common.{◌∙◌}
use Rattle.store_contents.specs.Store.{KeepsPlaces}
use Rattle.object_stores.specs.Parts.{content_in, past_in}
use Rattle.object_stores.specs.declared.changes.Parts.{Parts}
use Rattle.object_stores.proofs.Logged.{past_again}
use Rattle.store_contents.proofs.Laws.{keeps_pushed}

module _ {T R W : Type 0} (old mid new : Parts T R W) where
  pub keeps_logged : mid.log.items ≡ old.log.items → content_in mid ≡ content_in old → past_in new ≡ past_in mid ++ content_in mid ∷ [] → KeepsPlaces (past_in old) (content_in old) (past_in new) (content_in new)
  keeps_logged log content pushed =
      let past = past_again old mid log content in
      keeps_pushed (past_in old) (past_in new) (content_in old) (content_in new) (pushed ∙ (λ i. past i ++ content i ∷ []))
