-- What a sync leaves for the changes that follow it.
use Rattle.std.specs.Prelude.{◌≡◌, ℕ, ◌+◌, ◌≤◌, List, [], ◌∷◌, ◌++◌, length, refl}
use Rattle.std.proofs.Common.{sym, ◌∙◌, ap, subst, arith}
use Rattle.disk_trait.specs.declared.area.Area.{Area}
use Rattle.disk_trait.specs.declared.area.Area.TheVariants.{Zero, One}
use Rattle.disk_trait.specs.declared.plan.Image.{Image}
use Rattle.disk_trait.specs.declared.plan.Image.TheVariants.{Kept, Dropped}
use Rattle.disk_trait.specs.Areas.{Areas, area_of, other_area, with_area}
use Rattle.disk_trait.specs.Disk.{SameImages, OnArea, Torn}
use Rattle.disk_trait.specs.Memory.{Change, Standing, standing, after_change, MayLeave}
use Rattle.disk_trait.specs.Memory.Change.{Wrote, Missed, WasCut, Synced, Restarted}
use Rattle.disk_trait.specs.MemoryLaws.{standing_may_be_left}
use Rattle.disk_trait.proofs.Laws.{torn_front, same_areas}
use Rattle.disk_trait.specs.Laws.{SameOutside, PinnedBySync, SameSinceSync, KeptIsRead, DroppedIsSynced}

-- two histories that stand the same and have the same images
record AreAlike (image : Image) (first second : List Change) : Type 0 where
  stand : standing image first ≡ standing image second
  images : SameImages (MayLeave image first) (MayLeave image second)

-- the same step leads from the same images to the same
alike_step : {first second : Areas → Type 0} (step : Areas → Areas → Type 0) → SameImages first second
    → SameImages (λ areas. (before : Areas) × first before × step before areas) (λ areas. (before : Areas) × second before × step before areas)
alike_step step same = record {
  none_new = λ areas left. (left.0, same.none_new left.0 left.1, left.2);
  none_gone = λ areas left. (left.0, same.none_gone left.0 left.1, left.2);
}

alike_after : (image : Image) (since first second : List Change) → AreAlike image first second → AreAlike image (since ++ first) (since ++ second)
alike_after image [] first second alike = alike
alike_after image (Wrote area from bytes ∷ since) first second alike =
    let was = alike_after image since first second alike in record {
      stand = ap (after_change image (Wrote area from bytes)) was.stand;
      images = alike_step _ was.images;
    }
alike_after image (Missed area from n ∷ since) first second alike =
    let was = alike_after image since first second alike in record {
      stand = was.stand;
      images = alike_step _ was.images;
    }
alike_after image (WasCut area len ∷ since) first second alike =
    let was = alike_after image since first second alike in record {
      stand = ap (after_change image (WasCut area len)) was.stand;
      images = alike_step _ was.images;
    }
alike_after image (Synced area ∷ since) first second alike =
    let was = alike_after image since first second alike in
    let reads : area_of area (standing image (since ++ first)).reads ≡ area_of area (standing image (since ++ second)).reads = ap (λ (s : Standing). area_of area s.reads) was.stand in record {
      stand = ap (after_change image (Synced area)) was.stand;
      images = record {
        none_new = λ areas left. (was.images.none_new areas left.0, left.1 ∙ sym reads);
        none_gone = λ areas left. (was.images.none_gone areas left.0, left.1 ∙ reads);
      };
    }
alike_after image (Restarted ∷ since) first second alike =
    let was = alike_after image since first second alike in
    let picked : (standing image (since ++ first)).picked ≡ (standing image (since ++ second)).picked = ap (λ (s : Standing). s.picked) was.stand in record {
      stand = ap (after_change image Restarted) was.stand;
      images = record { none_new = λ areas left. left ∙ sym picked; none_gone = λ areas left. left ∙ picked };
    }

-- both areas put in
both_put : (area : Area) (reads picked : Areas) → with_area (other_area area) (area_of (other_area area) reads) (with_area area (area_of area reads) picked) ≡ reads
both_put Zero reads picked = refl
both_put One reads picked = refl

-- after a sync of each area a stop leaves what reads give
both_synced : (image : Image) (area : Area) (history : List Change) (areas : Areas) → MayLeave image (Synced (other_area area) ∷ Synced area ∷ history) areas → areas ≡ (standing image history).reads
both_synced image area history areas left = same_areas area areas (standing image history).reads left.0.1 left.1

synced_alike : (image : Image) (area : Area) (first second : List Change) → (standing image first).reads ≡ (standing image second).reads
    → AreAlike image (Synced (other_area area) ∷ Synced area ∷ first) (Synced (other_area area) ∷ Synced area ∷ second)
synced_alike image area first second same = record {
  stand = λ i. record {
    reads = same i;
    picked = (both_put area (standing image first).reads (standing image first).picked ∙ same ∙ sym (both_put area (standing image second).reads (standing image second).picked)) i;
  };
  images = record {
    none_new = λ areas left. reads_left first (both_synced image area second areas left ∙ sym same);
    none_gone = λ areas left. reads_left second (both_synced image area first areas left ∙ same);
  };
}
  where
    reads_left : (history : List Change) {areas : Areas} → areas ≡ (standing image history).reads → MayLeave image (Synced (other_area area) ∷ Synced area ∷ history) areas
    reads_left history is = subst (MayLeave image (Synced (other_area area) ∷ Synced area ∷ history)) (sym is) (standing_may_be_left image (Synced (other_area area) ∷ Synced area ∷ history)).0

pub same_since_sync : SameSinceSync
same_since_sync image area since first second same =
    (alike_after image since (Synced (other_area area) ∷ Synced area ∷ first) (Synced (other_area area) ∷ Synced area ∷ second) (synced_alike image area first second same)).images

-- a step on the other area leaves this one
left_alone : (area on : Area) (step : List ℕ → List ℕ → Type 0) (before areas reads : Areas) (bytes : List ℕ) → on ≡ other_area area → OnArea on step before areas
    → area_of area before ≡ area_of area reads → area_of area areas ≡ area_of area (with_area on bytes reads)
left_alone Zero Zero step before areas reads bytes apart on_other same = absurd (cc)
left_alone Zero One step before areas reads bytes apart on_other same = on_other.elsewhere ∙ same
left_alone One Zero step before areas reads bytes apart on_other same = on_other.elsewhere ∙ same
left_alone One One step before areas reads bytes apart on_other same = absurd (cc)

put_same : (on : Area) (areas : Areas) → with_area on (area_of on areas) areas ≡ areas
put_same Zero areas = refl
put_same One areas = refl

pub pinned_by_sync : PinnedBySync
pinned_by_sync image area [] earlier alone areas left = left.1
pinned_by_sync image area (Wrote on from bytes ∷ since) earlier alone areas left =
    let s = standing image (since ++ Synced area ∷ earlier) in
    left_alone area on (Torn from (length bytes)) left.0 areas s.reads _ alone.0 left.2 (pinned_by_sync image area since earlier alone.1 left.0 left.1)
pinned_by_sync image area (Missed on from n ∷ since) earlier alone areas left =
    let s = standing image (since ++ Synced area ∷ earlier) in
    left_alone area on (Torn from n) left.0 areas s.reads (area_of on s.reads) alone.0 left.2 (pinned_by_sync image area since earlier alone.1 left.0 left.1)
    ∙ ap (area_of area) (put_same on s.reads)
pinned_by_sync image area (WasCut on len ∷ since) earlier alone areas left =
    let s = standing image (since ++ Synced area ∷ earlier) in
    left_alone area on _ left.0 areas s.reads _ alone.0 left.2 (pinned_by_sync image area since earlier alone.1 left.0 left.1)
pinned_by_sync image area (Synced on ∷ since) earlier alone areas left = pinned_by_sync image area since earlier alone areas left.0
pinned_by_sync image area (Restarted ∷ since) earlier alone areas left = ap (area_of area) left

pub kept_is_read : KeptIsRead
kept_is_read [] = refl
kept_is_read (Wrote on from bytes ∷ history) = ap (λ (a : Areas). (after_change Kept (Wrote on from bytes) (record { reads = a; picked = a })).reads) (kept_is_read history)
kept_is_read (Missed on from n ∷ history) = kept_is_read history
kept_is_read (WasCut on len ∷ history) = ap (λ (a : Areas). (after_change Kept (WasCut on len) (record { reads = a; picked = a })).reads) (kept_is_read history)
kept_is_read (Synced on ∷ history) = ap (λ (a : Areas). with_area on (area_of on (standing Kept history).reads) a) (kept_is_read history) ∙ put_same on (standing Kept history).reads
kept_is_read (Restarted ∷ history) = refl

pub dropped_is_synced : DroppedIsSynced
dropped_is_synced [] earlier unsynced = refl
dropped_is_synced (Wrote on from bytes ∷ since) earlier unsynced = put_same on (standing Dropped (since ++ earlier)).picked ∙ dropped_is_synced since earlier unsynced
dropped_is_synced (Missed on from n ∷ since) earlier unsynced = dropped_is_synced since earlier unsynced
dropped_is_synced (WasCut on len ∷ since) earlier unsynced = put_same on (standing Dropped (since ++ earlier)).picked ∙ dropped_is_synced since earlier unsynced
dropped_is_synced (Synced on ∷ since) earlier unsynced = absurd unsynced
dropped_is_synced (Restarted ∷ since) earlier unsynced = absurd unsynced

-- a torn write within the old length keeps what lies outside its range
pub torn_within : (from n : ℕ) (old new : List ℕ) → from + n ≤ length old → Torn from n old new → SameOutside from n old new
torn_within from n old new le torn = record {
  before = torn_front from n old new (omega arith) torn;
  after = torn.after;
  length_stays = omega (arith, torn.no_shorter, torn.no_longer);
}
