-- What a disk is, what its calls do to its areas, and what a stop may leave of them. Between two successful syncs of an
-- area each written range, and all past the old end, may hold any bytes after a stop, and a cut may or may not have
-- happened. All other bytes stay. Each call is one step of that: an image after the call comes from one before it.
use Rattle.std.specs.Prelude.{◌≡◌, ◌⊎◌, ℕ, ◌+◌, ◌≤◌, min, max, List, ◌++◌, length, take, drop, Option, Some, is_some, Result, is_ok, if◌then◌else◌}
use Rattle.disk_trait.specs.declared.area.Area.{Area}
use Rattle.disk_trait.specs.Areas.{Areas, area_of, other_area}

-- A disk as contracts see it.
pub record DiskView : Type 1 where
  -- What reads give now. None: the disk tells nothing of its content, as a real file, and the clauses on content claim
  -- nothing. Those on lengths and faults stay.
  pub reads : Option Areas
  -- how long each area is, also where its content is untold
  pub lengths : Area → ℕ
  -- the images that a stop now may leave, each of both areas together
  pub may_leave : Areas → Type 0
  -- the moment, as a number that doesn't fall
  pub moment : ℕ
  -- the images that a stop at some moment from that one on may have left, within a call or between two
  pub left_since : ℕ → Areas → Type 0
  -- how often the disk was started again
  pub starts : ℕ
  -- how often the disk has failed; each call answers Failed only where this rose
  pub faults : ℕ

-- Where what reads give is told, it has P. A disk that tells nothing, as a real file, claims nothing here.
abbrev pub WhereTold : DiskView → (Areas → Type 0) → Type 0
WhereTold disk P = (areas : Areas) → disk.reads ≡ Some areas → P areas

-- each image that a stop now may leave has P
abbrev pub EachImage : DiskView → (Areas → Type 0) → Type 0
EachImage disk P = (image : Areas) → disk.may_leave image → P image

-- old with these bytes written from this place on, over what stood there and past the end
abbrev pub overwritten : ℕ → List ℕ → List ℕ → List ℕ
overwritten from bytes old = take from old ++ bytes ++ drop (from + length bytes) old

-- the step of a write that is done
abbrev pub Written : ℕ → List ℕ → List ℕ → List ℕ → Type 0
Written from bytes old new = new ≡ overwritten from bytes old

-- The step of a write of n bytes that a stop may have torn: the bytes before the range and behind it stay; those in
-- the range, and all past the old end, may be any; the length is at most the end of the range, or as before.
pub record Torn (from n : ℕ) (old new : List ℕ) : Type 0 where
  pub before : take (min from (length old)) new ≡ take from old
  pub after : drop (from + n) new ≡ drop (from + n) old
  pub no_shorter : length old ≤ length new
  pub no_longer : length new ≤ max (length old) (from + n)

-- the step of a cut that is done
abbrev pub Shortened : ℕ → List ℕ → List ℕ → Type 0
Shortened len old new = new ≡ take len old

-- the step of a cut that a stop may have forestalled: it has happened, or it hasn't
abbrev pub Cut : ℕ → List ℕ → List ℕ → Type 0
Cut len old new = (new ≡ old) ⊎ (new ≡ take len old)

-- the step happens in this area, and the other stays
pub record OnArea (area : Area) (step : List ℕ → List ℕ → Type 0) (before after : Areas) : Type 0 where
  pub here : step (area_of area before) (area_of area after)
  pub elsewhere : area_of (other_area area) after ≡ area_of (other_area area) before

-- these bytes come by a step from what reads gave
pub record ComesFrom (step : Areas → Areas → Type 0) (old : DiskView) (areas : Areas) : Type 0 where
  pub given : Areas
  pub was_given : old.reads ≡ Some given
  pub stepped : step given areas

-- A step leads from what reads gave to what they give now.
abbrev pub Leads : (Areas → Areas → Type 0) → (old new : DiskView) → Type 0
Leads step old new = WhereTold new (ComesFrom step old)

-- each image after the call is an image before it, after a step
abbrev pub Follows : (Areas → Areas → Type 0) → (old new : DiskView) → Type 0
Follows step old new = EachImage new (λ image. (before : Areas) × old.may_leave before × step before image)

-- each image after the call was one before it
abbrev pub NoNewImage : (old new : DiskView) → Type 0
NoNewImage old new = EachImage new old.may_leave

-- the images are as they were
pub record SameImages (old new : Areas → Type 0) : Type 0 where
  pub none_new : (image : Areas) → new image → old image
  pub none_gone : (image : Areas) → old image → new image

-- after the call each image has this area as reads gave it
abbrev pub Pins : Area → (old new : DiskView) → Type 0
Pins area old new = WhereTold old (λ areas. EachImage new (λ image. area_of area image ≡ area_of area areas))

-- a stop leaves just what reads give
abbrev pub IsSettled : DiskView → Type 0
IsSettled disk = EachImage disk (λ image. disk.reads ≡ Some image)

-- the lengths are as they were
abbrev pub SameLengths : (old new : DiskView) → Type 0
SameLengths old new = (area : Area) → new.lengths area ≡ old.lengths area

-- the lengths over a write of n bytes, done or torn
pub record Lengthens (area : Area) (from n : ℕ) (old new : DiskView) : Type 0 where
  pub no_shorter : old.lengths area ≤ new.lengths area
  pub no_longer : new.lengths area ≤ max (old.lengths area) (from + n)
  pub elsewhere : new.lengths (other_area area) ≡ old.lengths (other_area area)

-- the lengths over a cut, done or not
pub record Shortens (area : Area) (len : ℕ) (old new : DiskView) : Type 0 where
  pub here : (new.lengths area ≡ old.lengths area) ⊎ (new.lengths area ≡ len)
  pub elsewhere : new.lengths (other_area area) ≡ old.lengths (other_area area)

-- how often the disk was started, after a call that starts it where it answers Ok
abbrev pub starts_after : {T E : Type 0} → Result T E → ℕ → ℕ
starts_after result starts = if is_ok result then starts + 1 else starts

-- Time goes on over a call, after which the disk was started so often: what reads give is told if it was, and a stop at
-- a moment since t, also one within the call, may have left what it may have left before the call, or what it may leave
-- now, and nothing else.
pub record ElapsesTo (starts : ℕ) (old new : DiskView) : Type 0 where
  pub started : new.starts ≡ starts
  pub told : is_some new.reads ≡ is_some old.reads
  pub later : old.moment ≤ new.moment
  pub nothing_else : (t : ℕ) (image : Areas) → t ≤ old.moment → new.left_since t image → old.left_since t image ⊎ new.may_leave image
  pub keeps : (t : ℕ) (image : Areas) → t ≤ old.moment → old.left_since t image → new.left_since t image

-- time goes on over a call that doesn't start the disk again
abbrev pub Elapses : (old new : DiskView) → Type 0
Elapses old new = ElapsesTo old.starts old new

-- A stop at any moment since old leaves an image that has P. What reads give is told if it was, and the disk isn't
-- started again.
pub record LeavesOnly (old new : DiskView) (P : Areas → Type 0) : Type 0 where
  pub started : new.starts ≡ old.starts
  pub told : is_some new.reads ≡ is_some old.reads
  pub later : old.moment ≤ new.moment
  pub each : (image : Areas) → new.left_since old.moment image → P image
  -- for a run that began earlier
  pub before : (t : ℕ) (image : Areas) → t ≤ old.moment → new.left_since t image → old.left_since t image ⊎ P image

-- A disk that was only read: reads give the same, the lengths are the same, and so are the images of each moment.
pub record Untouched (old new : DiskView) : Type 0 where
  pub same_reads : new.reads ≡ old.reads
  pub same_lengths : SameLengths old new
  pub same_images : SameImages old.may_leave new.may_leave
  pub time : Elapses old new
