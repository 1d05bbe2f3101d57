-- A new area, as what it stands for.
use Rattle.std.proofs.Common.{◌≡◌, ℕ, ◌+◌, ◌≤◌, ◌<◌, ◌^◌, List, [], ◌∷◌, ◌++◌, length, Some, refl, ◌∙◌, ap, arith, length-append}
use Rattle.std.specs.Int.{w64, to_be_bytes}
use Rattle.disk_trait.specs.declared.area.Area.{Area}
use Rattle.disk_trait.specs.Areas.{Areas}
use Rattle.disk_trait.specs.Disk.{DiskView, WhereTold, OnArea, Leads, ComesFrom, LeavesOnly}
use Rattle.disk_trait.proofs.Laws.{widens}
use Rattle.gate_areas.specs.Sealed.{BatchList, area_text, sealed_of, MAGIC, CLOSED, OPEN}
use Rattle.gate_areas.specs.Fronts.{IsFront}
use Rattle.gate_areas.specs.Found.{Live, found_of, HasRoom, TakesOver}
use Rattle.gate_areas.specs.Frames.{frame_of}
use Rattle.gate_areas.specs.LiveBatches.{Holds}
use Rattle.gate_areas.specs.Steps.{Making, Makes}
use Rattle.gate_areas.proofs.Fronts.{shut_front}
use Rattle.gate_areas.proofs.Making.{made_front, made_text}
use Rattle.gate_areas.proofs.Rest.{at_rest, before, sealed_front, framed}
use Rattle.gate_areas.proofs.Room.{alone_beside, making}
use Rattle.gate_areas.proofs.Runs.{wider_from}

-- A text that is the front of an area and a closed gate.
pub record IsWhole (generation gate : ℕ) (text : List ℕ) (batches : BatchList) : Type 0 where
  pub front : List ℕ
  pub is : OPEN ∷ text ≡ front ++ CLOSED ∷ []
  pub long : length front ≡ gate
  pub headed : 17 ≤ gate
  pub reads_as : IsFront generation gate front batches

module _ (generation : ℕ) (small : generation < 2 ^ 64) (some : 1 ≤ generation) where
  -- a head and a closed gate
  pub bare : IsWhole generation 17 (area_text generation CLOSED []) []
  bare = record { front = OPEN ∷ (MAGIC ++ to_be_bytes w64 generation); is = made_text generation small some CLOSED []; long = refl; headed = omega arith; reads_as = made_front generation small some }

  -- a head and a first batch
  pub with_first : (payload bytes : List ℕ) → bytes ≡ frame_of payload → length payload < 2 ^ 64
      → IsWhole generation (17 + 9 + length payload) (area_text generation OPEN bytes) ((17, payload) ∷ [])
  with_first payload bytes is fits =
      let head = OPEN ∷ (MAGIC ++ to_be_bytes w64 generation) in
      record {
        front = (OPEN ∷ (MAGIC ++ to_be_bytes w64 generation)) ++ OPEN ∷ (to_be_bytes w64 (length payload) ++ payload);
        is = made_text generation small some OPEN bytes ∙ ap (λ (l : List ℕ). (OPEN ∷ (MAGIC ++ to_be_bytes w64 generation)) ++ OPEN ∷ l) is ∙ framed generation 17 head payload [] fits (made_front generation small some);
        long = omega (arith, length-append (OPEN ∷ (MAGIC ++ to_be_bytes w64 generation)) (OPEN ∷ (to_be_bytes w64 (length payload) ++ payload)));
        headed = omega arith;
        reads_as = sealed_front generation 17 head payload [] fits (made_front generation small some);
      }

module _ (old new : DiskView) (area : Area) (generation gate : ℕ) (text : List ℕ) (batches : BatchList) (whole : IsWhole generation gate text batches)
    (room : WhereTold old (λ areas. HasRoom area generation (found_of areas))) where
  pub made_moments : LeavesOnly old new (ComesFrom (OnArea area (Making text)) old) → LeavesOnly old new (ComesFrom (TakesOver area (Live area generation batches)) old)
  made_moments run = widens run (wider_from _ _ old (λ given told. making area generation given (room given told) text batches
      (ap sealed_of whole.is ∙ shut_front generation gate CLOSED whole.front [] batches whole.reads_as refl)))

  module _ (leads : Leads (OnArea area (Makes text)) old new) where
    pub made_holds : (areas : Areas) → new.reads ≡ Some areas → Holds (record { area = area; generation = generation; gate = gate }) batches areas
    made_holds areas told =
        let from = leads areas told in
        let alone = alone_beside area generation from.given (room from.given from.was_given) areas from.stepped.elsewhere in
        record {
          rests = at_rest area generation gate areas whole.front batches (from.stepped.here ∙ whole.is) whole.long whole.reads_as alone;
          batches_are = before area generation gate areas whole.front batches (from.stepped.here ∙ whole.is) whole.long whole.reads_as alone;
        }
