-- The end of an area while it is repaired, and after.
use Rattle.std.proofs.Common.{◌≡◌, inl, inr, ⊎_elim, ℕ, ◌+◌, ◌<◌, List, [], ◌∷◌, ◌++◌, length, get_or, take, drop, sym, ◌∙◌, ap, subst, arith}
use Rattle.std.proofs.lemmas.List.{length-take-le, drop_more, take_more, take-take}
use Rattle.disk_trait.specs.Disk.{Torn, Written, Cut, Shortened}
use Rattle.gate_areas.specs.Sealed.{CLOSED}
use Rattle.gate_areas.specs.Steps.{Repairing, Repairs}
use Rattle.gate_areas.proofs.Gates.{torn_gate, written_gate}
use Rattle.gate_areas.proofs.Walks.{to_last}

module _ (place : ℕ) (old : List ℕ) (last : length old ≡ place + 1) where
  split : old ≡ take place old ++ get_or old place 0 ∷ []
  split = sym (to_last place old last)

  places : length (take place old) ≡ place
  places = length-take-le place old (omega (arith, last))

  pub shut_torn : (new : List ℕ) → Torn place 1 old new → Repairing place old new
  shut_torn new torn = inr (torn_gate (take place old) (get_or old place 0) place places [] new (subst (λ (l : List ℕ). Torn place 1 l new) split torn))

  pub shut_written : (new : List ℕ) → Written place (CLOSED ∷ []) old new → Repairs place old new
  shut_written new written = written_gate (take place old) (get_or old place 0) place places [] CLOSED new (subst (λ (l : List ℕ). Written place (CLOSED ∷ []) l new) split written)

  pub shut_already : (buf : List ℕ) → buf ≡ take 1 (drop place old) → get_or buf 0 0 ≡ CLOSED → Repairs place old old
  shut_already buf read is =
      let here : get_or old place 0 ≡ CLOSED =
      sym (ap (λ (l : List ℕ). get_or l 0 0) (read ∙ ap (λ (l : List ℕ). take 1 l) (drop_more old place 0 (omega (arith, last))))) ∙ is in
      split ∙ ap (λ (g : ℕ). take place old ++ g ∷ []) here

module _ (place : ℕ) (old : List ℕ) (within : place < length old) where
  pub cut_repairs : (new : List ℕ) → Cut (place + 1) old new → Repairing place old new
  cut_repairs new cut = ⊎_elim (λ same. inl same) (λ is. inr (get_or old place 0, is ∙ take_more old place 0 within)) cut

  pub then_repairs : (mid new : List ℕ) → Shortened (place + 1) old mid → Repairing place mid new → Repairing place old new
  then_repairs mid new short repairing = ⊎_elim
      (λ same. inr (get_or old place 0, same ∙ short ∙ take_more old place 0 within))
      (λ gated. inr (gated.0, gated.1 ∙ ap (λ (l : List ℕ). l ++ gated.0 ∷ []) (ap (λ (l : List ℕ). take place l) short ∙ take-take place (place + 1) old (omega arith))))
      repairing
