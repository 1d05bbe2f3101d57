-- What a log keeps: at rest, after a fault, and over calls that only read.
use Rattle.std.proofs.Common.{◌≡◌, inl, inr, ⊎_elim, ℕ, ◌+◌, ◌-◌, ◌≤◌, ◌^◌, List, [], ◌∷◌, length, Option, Some, None, is_some, Ok, refl, sym, ◌∙◌, ap, subst, arith}
use Rattle.std.specs.Option.{option_map}
use Rattle.std.proofs.lemmas.List.Elements.{All-nil, All-cons}
use Rattle.std.proofs.Math.Logic.{∥∥₁_map}
use Rattle.disk_trait.specs.declared.area.Area.{Area}
use Rattle.disk_trait.specs.declared.area.Area.TheVariants.{Zero}
use Rattle.disk_trait.specs.Areas.{Areas}
use Rattle.disk_trait.specs.Disk.{DiskView, WhereTold, EachImage, IsSettled, ComesFrom, Untouched}
use Rattle.gate_areas.specs.Sealed.{BatchList}
use Rattle.gate_areas.specs.Found.{Found, Nothing, Live, Damaged, found_of, meaning_of, HasRoom, TakesOver, KeepsFound}
use Rattle.gate_areas.specs.LiveBatches.{live_batches, live_found, EndBy, Rests}
use Rattle.gate_areas.specs.declared.live.LiveArea.{LiveArea}
use Rattle.gate_log.specs.Content.{batches_told, HasBatches, found_told, IsFoundAs, IsFoundAsOr}
use Rattle.gate_log.specs.Kept.{IsKept}
use Rattle.gate_log.specs.Opened.{FoundAs, OtherStays, SameFound}

-- a log whose area is at rest
pub keeps_rest : (disk : DiskView) (live : LiveArea) → WhereTold disk (Rests live) → IsSettled disk
    → disk.lengths live.area ≡ live.gate + 1 → 17 ≤ live.gate → live.gate + 1 ≤ 2 ^ 63 - 1 → IsKept disk live None
keeps_rest disk live rests settled last headed limit = record {
  headed = headed;
  limit = limit;
  begins = λ areas told. let rest = rests areas told in record { front = rest.front; within = rest.within };
  rests = λ none. rests;
  settled = λ none. settled;
  last = λ none. last;
  counted = λ k is. absurd (cc);
  in_doubt = λ k is. absurd (cc);
}

-- a log keeps it all over calls that only read
pub same_told : (old new : DiskView) (live : LiveArea) → new.reads ≡ old.reads → batches_told new live ≡ batches_told old live
same_told old new live same = ap (λ (r : Option Areas). option_map (live_batches live) r) same

pub keeps_untouched : (old new : DiskView) (live : LiveArea) (seen : Option ℕ) → IsKept old live seen → Untouched old new → old.faults ≤ new.faults → IsKept new live seen
keeps_untouched old new live seen kept quiet rises = record {
  headed = kept.headed;
  limit = kept.limit;
  begins = λ areas told. kept.begins areas (sym quiet.same_reads ∙ told);
  rests = λ none areas told. kept.rests none areas (sym quiet.same_reads ∙ told);
  settled = λ none image left. quiet.same_reads ∙ kept.settled none image (quiet.same_images.none_new image left);
  last = λ none. quiet.same_lengths live.area ∙ kept.last none;
  counted = λ count is. omega (arith, kept.counted count is, rises);
  in_doubt = λ count is. ∥∥₁_map (kept.in_doubt count is) (λ w. (
    w.0,
    λ image left.
        subst (λ (content : Option BatchList). IsFoundAsOr live content w.0 image) (sym (same_told old new live quiet.same_reads))
        (w.1 image (quiet.same_images.none_new image left)),
  ));
}

-- what is told where reads give this
pub told_is : (disk : DiskView) (live : LiveArea) (areas : Areas) → disk.reads ≡ Some areas → batches_told disk live ≡ Some (live_batches live areas)
told_is disk live areas told = ap (λ (r : Option Areas). option_map (live_batches live) r) told

pub has_told : (disk : DiskView) (live : LiveArea) (batches : BatchList) → WhereTold disk (λ areas. live_batches live areas ≡ batches) → HasBatches (batches_told disk live) batches
has_told disk live batches has = by_reads disk.reads has
  where
    by_reads : (reads : Option Areas) → ((areas : Areas) → reads ≡ Some areas → live_batches live areas ≡ batches) → (told : BatchList) → option_map (live_batches live) reads ≡ Some told → told ≡ batches
    by_reads None has told is = absurd (cc)
    by_reads (Some areas) has told is = let same : live_batches live areas ≡ told = cc in sym same ∙ has areas refl

-- two partial values are the same, where they are told together
pub same_partial : (f g : Areas → BatchList) (new old : Option Areas) → is_some new ≡ is_some old
    → ((areas given : Areas) → new ≡ Some areas → old ≡ Some given → f areas ≡ g given) → option_map f new ≡ option_map g old
same_partial f g None None told same = refl
same_partial f g None (Some given) told same = absurd (cc)
same_partial f g (Some areas) None told same = absurd (cc)
same_partial f g (Some areas) (Some given) told same = ap (λ (b : BatchList). Some b) (same areas given refl refl)

-- what is found where this is told
pub found_is : (disk : DiskView) (live : LiveArea) (given image : Areas) → disk.reads ≡ Some given → found_of image ≡ live_found live (live_batches live given) → IsFoundAs live (batches_told disk live) image
found_is disk live given image told is =
    ap (λ (content : Option BatchList). found_told live content) (told_is disk live given told) ∙ ap (λ (f : Found). Some f) (sym is)

module _ (disk : DiskView) (live : LiveArea) (seen : Option ℕ) (kept : IsKept disk live seen) (none : seen ≡ None) where
  -- what is found of what reads give, where nothing failed
  pub log_found : WhereTold disk (IsFoundAs live (batches_told disk live))
  log_found areas told = found_is disk live areas areas told (kept.rests none areas told).found

  -- and of each image
  pub images_stand : EachImage disk (IsFoundAs live (batches_told disk live))
  images_stand image left = log_found image (kept.settled none image left)

-- each image is found as the log's batches
pub images_has : (disk : DiskView) (live : LiveArea) (batches : BatchList) → IsKept disk live None → HasBatches (batches_told disk live) batches
    → EachImage disk (λ image. found_of image ≡ live_found live batches)
images_has disk live batches kept has image left =
    let told = kept.settled refl image left in
    (kept.rests refl image told).found ∙ ap (λ (bs : BatchList). live_found live bs) (has (live_batches live image) (told_is disk live image told))

-- what was found stood for the batches
pub found_stands : (live : LiveArea) (batches : BatchList) (found : Found) → FoundAs live batches found → meaning_of found ≡ Ok batches
found_stands live batches Nothing is = ap (λ (bs : BatchList). Ok bs) (sym is.2)
found_stands live batches (Live area generation others) is = ap (λ (bs : BatchList). Ok bs) (sym is.2)
found_stands live batches (Damaged area place) is = absurd is

-- where nothing changed, the same is found
pub other_same : (found : Found) (areas : Areas) → OtherStays found areas areas
other_same Nothing areas = refl
other_same (Live area generation batches) areas = refl
other_same (Damaged area place) areas = refl

pub nothing_changed : (disk : DiskView) (image : Areas) → disk.reads ≡ Some image → ComesFrom SameFound disk image
nothing_changed disk image told = record { given = image; was_given = told; stepped = record { found = inl refl; elsewhere = other_same (found_of image) image } }

pub repair_same : (live : LiveArea) (batches : BatchList) (before after : Areas) → found_of before ≡ live_found live batches → KeepsFound live.area before after → SameFound before after
repair_same live batches before after found keeps = record {
  found = inl keeps.found;
  elsewhere = subst (λ (f : Found). OtherStays f before after) (sym found) keeps.elsewhere;
}

pub new_same : (before after : Areas) → found_of before ≡ Nothing → TakesOver Zero (Live Zero 1 []) before after → SameFound before after
new_same before after blank takes = record {
  found = ⊎_elim (λ same. inl same) (λ new. inr (blank, new)) takes.found;
  elsewhere = subst (λ (f : Found). OtherStays f before after) (sym blank) takes.elsewhere;
}

pub room_where_blank : (disk : DiskView) (area : Area) (generation : ℕ) → WhereTold disk (λ areas. found_of areas ≡ Nothing) → WhereTold disk (λ areas. HasRoom area generation (found_of areas))
room_where_blank disk area generation blank = λ areas told. subst (HasRoom area generation) (sym (blank areas told)) tt

-- no batch, and one
pub none_end : (gate : ℕ) (batches : BatchList) → batches ≡ [] → 17 ≤ gate → EndBy gate batches
none_end gate batches none headed = subst (EndBy gate) (sym none) (record { few = omega arith; each = All-nil (λ batch. batch.0 + 9 + length batch.1 ≤ gate) })

pub one_ends : (gate : ℕ) (first : List ℕ) → gate ≡ 17 + 9 + length first → EndBy gate ((17, first) ∷ [])
one_ends gate first is = record {
  few = omega (arith, is);
  each = All-cons (λ batch. batch.0 + 9 + length batch.1 ≤ gate) (17, first) [] (omega (arith, is)) (All-nil (λ batch. batch.0 + 9 + length batch.1 ≤ gate));
}
