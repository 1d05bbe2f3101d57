-- What a layer above a log says of its batches and of each image, in a fact P of its own. These are the lemmas that the
-- crates above cite: none of them knows a byte or a gate, only the clauses of one call.
use Rattle.std.proofs.Common.{◌≡◌, ◌⊎◌, inl, inr, ⊎_elim, ℕ, List, [], ◌∷◌, ◌++◌, Option, Some, None, refl, sym, subst}
use Rattle.std.specs.Prelude.{IsOkAnd}
use Rattle.std.specs.Option.{ForSome}
use Rattle.disk_trait.specs.Areas.{Areas}
use Rattle.gate_areas.specs.Sealed.{BatchList}
use Rattle.gate_areas.specs.Found.{Found, found_of, meaning_of, batches_in}
use Rattle.gate_areas.specs.LiveBatches.{live_found}
use Rattle.gate_areas.specs.declared.live.LiveArea.{LiveArea}
use Rattle.gate_log.specs.Content.{HasBatches, with_batch, IsFoundAs, IsBeforeOrAfter}

-- the log's batches are known
pub have_of : (content : Option BatchList) (P : BatchList → Type 0) (batches : BatchList) → HasBatches content batches → P batches → ForSome content P
have_of content P batches has p = λ told is. subst P (sym (has told is)) p

-- one batch more
pub have_more : (batch : ℕ × List ℕ) (content : Option BatchList) (P Q : BatchList → Type 0) → ForSome content P
    → ((batches : BatchList) → P batches → Q (batches ++ batch ∷ [])) → ForSome (with_batch batch content) Q
have_more batch None P Q have step = λ told is. absurd (cc)
have_more batch (Some batches) P Q have step = λ told is. let same : batches ++ batch ∷ [] ≡ told = cc in subst Q same (step batches (have batches refl))

-- an image that is found as the log
pub found_has : (live : LiveArea) (content : Option BatchList) (P : BatchList → Type 0) (image : Areas) → ForSome content P → IsFoundAs live content image → IsOkAnd (batches_in image) P
found_has live None P image have is = absurd (cc)
found_has live (Some batches) P image have is = let same : live_found live batches ≡ found_of image = cc in subst (λ (f : Found). IsOkAnd (meaning_of f) P) same (have batches refl)

-- or as the log with one batch more
pub either_has : (live : LiveArea) (content : Option BatchList) (batch : ℕ × List ℕ) (P Q : BatchList → Type 0) (image : Areas) → ForSome content P
    → ((batches : BatchList) → P batches → Q (batches ++ batch ∷ [])) → IsBeforeOrAfter live content batch image → IsOkAnd (batches_in image) P ⊎ IsOkAnd (batches_in image) Q
either_has live content batch P Q image have step either = ⊎_elim
    (λ is. inl (found_has live content P image have is))
    (λ is. inr (found_has live (with_batch batch content) Q image (have_more batch content P Q have step) is))
    either
