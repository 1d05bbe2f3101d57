-- How a promise over every moment goes on from call to call, and what follows of reads and images. These are the lemmas
-- that the crates above cite: none of them knows a disk, only the clauses of one call.
use Rattle.std.proofs.Common.{◌≡◌, ℕ, ◌≤◌, min, List, length, take, Option, Some, None, is_some, true, false, Result, Ok, Err, OnOk, inl, inr, ⊎_elim, arith, refl, sym, ◌∙◌, ap, subst}
use Rattle.disk_trait.specs.declared.area.Area.{Area}
use Rattle.disk_trait.specs.declared.area.Area.TheVariants.{Zero, One}
use Rattle.disk_trait.specs.Areas.{Areas, area_of, other_area}
use Rattle.disk_trait.specs.Disk.{DiskView, EachImage, Elapses, LeavesOnly, IsSettled, Pins, NoNewImage, OnArea, Follows, Leads, ComesFrom, Untouched, Torn}

-- areas are the same where each of them is
pub same_areas : (area : Area) (a b : Areas) → area_of area a ≡ area_of area b → area_of (other_area area) a ≡ area_of (other_area area) b → a ≡ b
same_areas Zero a b here elsewhere = λ i. record { zero = here i; one = elsewhere i }
same_areas One a b here elsewhere = λ i. record { zero = elsewhere i; one = here i }

pub other_twice : (area : Area) → other_area (other_area area) ≡ area
other_twice Zero = refl
other_twice One = refl

-- before the first call: each image has P, and since this moment there is no other
pub begins : {disk : DiskView} {P : Areas → Type 0} → ((image : Areas) → disk.left_since disk.moment image → disk.may_leave image)
    → EachImage disk P → LeavesOnly disk disk P
begins {disk} only_now here = record {
  started = refl;
  told = refl;
  later = omega arith;
  each = λ image left. here image (only_now image left);
  before = λ t image le left. inl left;
}

-- one call more, each image after which has P
pub goes_on : {old mid new : DiskView} {P : Areas → Type 0} → LeavesOnly old mid P → Elapses mid new → EachImage new P → LeavesOnly old new P
goes_on {old} so_far time here = record {
  started = time.started ∙ so_far.started;
  told = time.told ∙ so_far.told;
  later = omega (arith, so_far.later, time.later);
  each = λ image left. ⊎_elim (so_far.each image) (here image) (time.nothing_else old.moment image so_far.later left);
  before = λ t image le left. ⊎_elim (so_far.before t image le) (λ now. inr (here image now)) (time.nothing_else t image (omega (arith, le, so_far.later)) left);
}

-- two runs, one after the other
pub joins : {old mid new : DiskView} {P : Areas → Type 0} → LeavesOnly old mid P → LeavesOnly mid new P → LeavesOnly old new P
joins {old} first second = record {
  started = second.started ∙ first.started;
  told = second.told ∙ first.told;
  later = omega (arith, first.later, second.later);
  each = λ image left. ⊎_elim (first.each image) (λ p. p) (second.before old.moment image first.later left);
  before = λ t image le left. ⊎_elim (first.before t image le) (λ p. inr p) (second.before t image (omega (arith, le, first.later)) left);
}

-- a run that leaves only what has P leaves only what has Q, where each image with P has Q
pub widens : {old new : DiskView} {P Q : Areas → Type 0} → LeavesOnly old new P → ((image : Areas) → P image → Q image) → LeavesOnly old new Q
widens run wider = record {
  started = run.started;
  told = run.told;
  later = run.later;
  each = λ image left. wider image (run.each image left);
  before = λ t image le left. ⊎_elim (λ past. inl past) (λ p. inr (wider image p)) (run.before t image le left);
}

-- each image now is one of those since the start
pub now : {old new : DiskView} {P : Areas → Type 0} → LeavesOnly old new P
    → ((t : ℕ) (image : Areas) → t ≤ new.moment → new.may_leave image → new.left_since t image) → EachImage new P
now {old} run counts_now = λ image left. run.each image (counts_now old.moment image run.later left)

-- calls that only read, one after another
pub untouched_yet : (disk : DiskView) → Untouched disk disk
untouched_yet disk = record {
  same_reads = refl;
  same_lengths = λ area. refl;
  same_images = record { none_new = λ image left. left; none_gone = λ image left. left };
  time = record { started = refl; told = refl; later = omega arith; nothing_else = λ t image le left. inl left; keeps = λ t image le left. left };
}

pub untouched_twice : {old mid new : DiskView} → Untouched old mid → Untouched mid new → Untouched old new
untouched_twice first second = record {
  same_reads = second.same_reads ∙ first.same_reads;
  same_lengths = λ area. second.same_lengths area ∙ first.same_lengths area;
  same_images = record {
    none_new = λ image left. first.same_images.none_new image (second.same_images.none_new image left);
    none_gone = λ image left. second.same_images.none_gone image (first.same_images.none_gone image left);
  };
  time = record {
    started = second.time.started ∙ first.time.started;
    told = second.time.told ∙ first.time.told;
    later = omega (arith, first.time.later, second.time.later);
    nothing_else = λ t image le left. ⊎_elim
        (λ past. ⊎_elim (λ was. inl was) (λ mid. inr (second.same_images.none_gone image mid)) (first.time.nothing_else t image le past))
        (λ now. inr now) (second.time.nothing_else t image (omega (arith, le, first.time.later)) left);
    keeps = λ t image le left. second.time.keeps t image (omega (arith, le, first.time.later)) (first.time.keeps t image le left);
  };
}

-- what was settled stays so
pub settled_still : (old new : DiskView) → Untouched old new → IsSettled old → IsSettled new
settled_still old new quiet settled = λ image left. quiet.same_reads ∙ settled image (quiet.same_images.none_new image left)

-- no image but those from before at any moment
pub untouched_moments : {old new : DiskView} {P : Areas → Type 0} → ((image : Areas) → old.left_since old.moment image → old.may_leave image)
    → Untouched old new → EachImage old P → LeavesOnly old new P
untouched_moments only_now quiet here = goes_on (begins only_now here) quiet.time (λ image left. here image (quiet.same_images.none_new image left))

-- what was told is told, and comes by the step
pub leads_forth : {step : Areas → Areas → Type 0} (old new : DiskView) (given : Areas) → is_some new.reads ≡ is_some old.reads → Leads step old new
    → old.reads ≡ Some given → (after : Areas) × (new.reads ≡ Some after) × step given after
leads_forth {step} old new given told leads was = by_now new.reads refl
  where
    by_now : (now : Option Areas) → new.reads ≡ now → (after : Areas) × (new.reads ≡ Some after) × step given after
    by_now None is = let none : false ≡ true = ap (λ (r : Option Areas). is_some r) (sym is) ∙ told ∙ ap (λ (r : Option Areas). is_some r) was in absurd (cc)
    by_now (Some after) is =
        let from = leads after is in
        let same : from.given ≡ given = cc (was, from.was_given) in
        (after, is, subst (λ (a : Areas). step a after) same from.stepped)

-- what comes by a step from the same reads
pub comes_still : {step : Areas → Areas → Type 0} {old mid : DiskView} {image : Areas} → mid.reads ≡ old.reads → ComesFrom step mid image → ComesFrom step old image
comes_still same from = record { given = from.given; was_given = sym same ∙ from.was_given; stepped = from.stepped }

-- After a sync of each area a stop leaves just what reads give.
pub both_pinned : (area : Area) (old mid new : DiskView) → mid.reads ≡ old.reads → new.reads ≡ mid.reads → NoNewImage mid new
    → ((image : Areas) → old.may_leave image → (areas : Areas) × (old.reads ≡ Some areas)) → NoNewImage old mid
    → Pins area old mid → Pins (other_area area) mid new → IsSettled new
both_pinned area old mid new same_mid same_new none_new told none_mid here elsewhere image left =
    let was = none_new image left in
    let areas = told image (none_mid image was) in
    same_new ∙ same_mid ∙ areas.1
    ∙ ap (λ (a : Areas). Some a) (sym (same_areas area image areas.0 (here areas.0 areas.1 image was) (elsewhere areas.0 (same_mid ∙ areas.1) image left)))

-- A step and then a sync of its area, both answered Ok, on a settled disk: each image is what reads gave after the
-- step, and what they give now. Torn is what a stop may make of the step.
pub synced_step : (area : Area) (torn step : List ℕ → List ℕ → Type 0) (old mid new : DiskView) → IsSettled old → Follows (OnArea area torn) old mid
    → is_some mid.reads ≡ is_some old.reads → Leads (OnArea area step) old mid → new.reads ≡ mid.reads → NoNewImage mid new → Pins area mid new
    → IsSettled new
synced_step area torn step old mid new settled follows told leads same none_new pins image left =
    let from = follows image (none_new image left) in
    let after = leads_forth old mid from.0 told leads (settled from.0 from.1) in
    let is : image ≡ after.0 = same_areas area image after.0 (pins after.0 after.1 image left) (from.2.elsewhere ∙ sym after.2.elsewhere) in
    same ∙ after.1 ∙ ap (λ (a : Areas). Some a) (sym is)

-- the front of a torn write within the old end stays
pub torn_front : (from n : ℕ) (old new : List ℕ) → from ≤ length old → Torn from n old new → take from new ≡ take from old
torn_front from n old new le torn = let same : min from (length old) ≡ from = omega arith in subst (λ (k : ℕ). take k new ≡ take from old) same torn.before

-- what holds at `Ok` follows from two facts that hold there
pub on_ok_both : {T E P Q R : Type 0} (r : Result T E) → (P → Q → R) → OnOk r P → OnOk r Q → OnOk r R
on_ok_both (Ok x) f p q = f p q
on_ok_both (Err e) f p q = tt
