-- What is found where a log was opened, and that a recovery gives the same of it.
--     found_items           what is found is what the log's batches give, in its live area
--     from_answer           what a load keeps, a recovery keeps
--     answers_same          a log that was opened is found as what reads gave
--     damaged_back, damage_is       the place of a fault, as it is handed on
use Rattle.std.proofs.Common.{◌≡◌, ◌⊎◌, inl, inr, ⊎_elim, ℕ, [], Option, Some, None, is_some, Result, Err, refl, sym, ap, subst, ◌∙◌}
use Rattle.disk_trait.specs.declared.area.Area.{Area}
use Rattle.disk_trait.specs.declared.area.Area.TheVariants.{Zero}
use Rattle.disk_trait.specs.Areas.{Areas}
use Rattle.disk_trait.specs.Disk.{DiskView, WhereTold, EachImage, ComesFrom}
use Rattle.gate_areas.specs.Sealed.{BatchList}
use Rattle.gate_areas.specs.Found.{Found, Nothing, Live, Damaged, found_of}
use Rattle.gate_areas.specs.LiveBatches.{live_found}
use Rattle.gate_areas.specs.declared.live.LiveArea.{LiveArea}
use Rattle.gate_log.specs.Opened.{FoundAs, SameFound}
use Rattle.gate_log.specs.declared.error.LogError.{LogError}
use Rattle.gate_log.specs.declared.error.LogError.TheVariants as log
use Rattle.item_changes.specs.Items.{Items}
use Rattle.log_history.specs.Replayed.{replayed}
use Rattle.log_history.specs.Found.{in_area, found_by, found}
use Rattle.idb_recovery.specs.Recovered.{recover_error_of, SameAnswer}
use Rattle.idb_recovery.specs.declared.error.RecoverError.TheVariants as error

module _ (live : LiveArea) (batches : BatchList) where
  by_found : (was : Found) → FoundAs live batches was → found_by was ≡ in_area live.area (replayed batches)
  by_found Nothing f = sym (ap (λ (bs : BatchList). in_area live.area (replayed bs)) f.2)
  by_found (Live area generation bs) f = sym (λ i. in_area (f.0 i) (replayed (f.2 i)))
  by_found (Damaged area place) f = absurd f

  same_found : (was now : Found) → now ≡ live_found live batches → FoundAs live batches was → (now ≡ was) ⊎ ((was ≡ Nothing) × (now ≡ Live Zero 1 []))
  same_found Nothing now is f = inr (refl, is ∙ (λ i. Live (f.0 i) (f.1 i) (f.2 i)))
  same_found (Live area generation bs) now is f = inl (is ∙ (λ i. Live (f.0 i) (f.1 i) (f.2 i)))
  same_found (Damaged area place) now is f = absurd f

  module _ (all : Result Items ℕ) (gives : replayed batches ≡ all) where
    pub found_items : (areas : Areas) → FoundAs live batches (found_of areas) → found areas ≡ in_area live.area all
    found_items areas f = by_found (found_of areas) f ∙ ap (λ (r : Result Items ℕ). in_area live.area r) gives

same_items : (was now : Found) → (now ≡ was) ⊎ ((was ≡ Nothing) × (now ≡ Live Zero 1 [])) → found_by now ≡ found_by was
same_items was now either = ⊎_elim (λ same. ap found_by same) (λ new. ap found_by new.1 ∙ sym (ap found_by new.0)) either

same_answer : (before after : Areas) → (found_of after ≡ found_of before) ⊎ ((found_of before ≡ Nothing) × (found_of after ≡ Live Zero 1 [])) → SameAnswer before after
same_answer before after either = record { areas = either; items = same_items (found_of before) (found_of after) either }

pub from_answer : (old : DiskView) (image : Areas) → ComesFrom SameFound old image → ComesFrom SameAnswer old image
from_answer old image from = record { given = from.given; was_given = from.was_given; stepped = same_answer from.given image from.stepped.found }

told_before : (new old : Option Areas) → is_some new ≡ is_some old → (areas : Areas) → new ≡ Some areas → (given : Areas) × (old ≡ Some given)
told_before None old told areas is = absurd (cc)
told_before (Some now) None told areas is = absurd (cc)
told_before (Some now) (Some given) told areas is = (given, refl)

module _ {D : Type 0} (shows : D → DiskView) (old : DiskView) (disk : D) (live : LiveArea) (batches : BatchList) (told : is_some (shows disk).reads ≡ is_some old.reads)
    (images_are_told : (image : Areas) → (shows disk).may_leave image → (areas : Areas) × ((shows disk).reads ≡ Some areas))
    (sealed : EachImage (shows disk) (λ image. found_of image ≡ live_found live batches)) (was_found : WhereTold old (λ areas. FoundAs live batches (found_of areas))) where
  log_answers : EachImage (shows disk) (ComesFrom SameAnswer old)
  log_answers image left =
      let now = images_are_told image left in
      let was = told_before (shows disk).reads old.reads told now.0 now.1 in
      record {
        given = was.0;
        was_given = was.1;
        stepped = same_answer was.0 image (same_found live batches (found_of was.0) (found_of image) (sealed image left) (was_found was.0 was.1));
      }

  pub answers_same : (back : D) → back ≡ disk → EachImage (shows back) (ComesFrom SameAnswer old)
  answers_same back same = subst (λ (d : D). EachImage (shows d) (ComesFrom SameAnswer old)) (sym same) log_answers

pub damaged_back : (e : LogError) (area : Area) (place : ℕ) → recover_error_of e ≡ error.Damaged area place → e ≡ log.Damaged area place
damaged_back log.DiskFault area place is = absurd (cc)
damaged_back (log.Damaged here at) area place is = cc
damaged_back log.NoMemory area place is = absurd (cc)

pub damage_is : (given : Result Items (Area × ℕ)) (live here area : Area) (at place : ℕ) → given ≡ Err (live, at) → here ≡ live → error.Damaged here at ≡ error.Damaged area place → given ≡ Err (area, place)
damage_is given live here area at place was same is = cc
