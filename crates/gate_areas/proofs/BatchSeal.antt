-- The two steps that seal a batch, on the bytes of its area.
use Rattle.std.proofs.Common.{◌≡◌, inl, inr, ℕ, ◌+◌, ◌<◌, ◌^◌, List, [], ◌∷◌, ◌++◌, length, take, drop, sym, ◌∙◌, ap, subst, arith, take-append-drop}
use Rattle.std.proofs.lemmas.List.{length-take-le}
use Rattle.disk_trait.specs.Areas.{Areas}
use Rattle.disk_trait.specs.Disk.{Torn, Written, OnArea}
use Rattle.gate_areas.specs.Sealed.{CLOSED, OPEN}
use Rattle.gate_areas.specs.Frames.{frame_of}
use Rattle.gate_areas.specs.Steps.{Sealing, Seals}
use Rattle.gate_areas.specs.LiveBatches.{Rests, SealsOne, AddsOne}
use Rattle.gate_areas.specs.declared.live.LiveArea.{LiveArea}
use Rattle.gate_areas.proofs.Rest.{sealing, sealing_stays, sealed_before, sealed_rest}
use Rattle.gate_areas.proofs.Gates.{torn_behind, written_behind, torn_gate, written_gate}

module _ (place : ℕ) (frame old : List ℕ) (last : length old ≡ place + 1) (closed : drop place old ≡ CLOSED ∷ []) where
  split : old ≡ take place old ++ CLOSED ∷ []
  split = sym (take-append-drop place old) ∙ ap (λ (l : List ℕ). take place old ++ l) closed

  places : length (take place old) ≡ place
  places = length-take-le place old (omega arith)

  pub stage_torn : (n : ℕ) (new : List ℕ) → Torn (place + 1) n old new → Sealing place frame old new
  stage_torn n new torn =
      inl (torn_behind (take place old) CLOSED place places n new (subst (λ (l : List ℕ). Torn (place + 1) n l new) split torn))

  pub stage_written : (new : List ℕ) → Written (place + 1) frame old new → new ≡ take place old ++ CLOSED ∷ frame
  stage_written new written =
      written_behind (take place old) CLOSED place places frame new (subst (λ (l : List ℕ). Written (place + 1) frame l new) split written)

  pub gate_torn : (mid new : List ℕ) → Written (place + 1) frame old mid → Torn place 1 mid new → Sealing place frame old new
  gate_torn mid new written torn =
      inr (torn_gate (take place old) CLOSED place places frame new (subst (λ (l : List ℕ). Torn place 1 l new) (stage_written mid written) torn))

  pub gate_written : (mid new : List ℕ) → Written (place + 1) frame old mid → Written place (OPEN ∷ []) mid new → Seals place frame old new
  gate_written mid new written opens =
      written_gate (take place old) CLOSED place places frame OPEN new (subst (λ (l : List ℕ). Written place (OPEN ∷ []) l new) (stage_written mid written) opens)

-- what the steps mean, where the live area is at rest
module _ (live : LiveArea) (payload bytes : List ℕ) (is : bytes ≡ frame_of payload) (small : length payload < 2 ^ 64) (given : Areas) (rests : Rests live given) where
  pub seals_one : (image : Areas) → OnArea live.area (Sealing live.gate bytes) given image → SealsOne live payload given image
  seals_one image step =
      let framed : OnArea live.area (Sealing live.gate (frame_of payload)) given image = subst (λ (l : List ℕ). OnArea live.area (Sealing live.gate l) given image) is step in
      record {
        stands = sealing live.area live.generation live.gate given payload small rests image framed;
        stays = record { here = sealing_stays live.area live.generation live.gate given payload small rests image framed; elsewhere = step.elsewhere };
      }

  pub adds_one : (gate : ℕ) → live.gate + 9 + length payload ≡ gate → (image : Areas) → OnArea live.area (Seals live.gate bytes) given image
      → AddsOne live payload (record { area = live.area; generation = live.generation; gate = gate }) given image
  adds_one gate at image step =
      let framed : OnArea live.area (Seals live.gate (frame_of payload)) given image = subst (λ (l : List ℕ). OnArea live.area (Seals live.gate l) given image) is step in
      subst (λ (k : ℕ). AddsOne live payload (record { area = live.area; generation = live.generation; gate = k }) given image) at
      (record {
        rests = sealed_rest live.area live.generation live.gate given payload small rests image framed;
        more = sealed_before live.area live.generation live.gate given payload small rests image framed;
      })
