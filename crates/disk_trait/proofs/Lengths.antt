-- No area is longer than all the bytes that were written.
use Rattle.std.proofs.Common.{ℕ, ◌≤◌, List, [], ◌∷◌, length, arith, length-take}
use Rattle.disk_trait.specs.declared.area.Area.{Area}
use Rattle.disk_trait.specs.declared.area.Area.TheVariants.{Zero, One}
use Rattle.disk_trait.specs.declared.plan.Image.{Image}
use Rattle.disk_trait.specs.declared.plan.Image.TheVariants.{Kept, Dropped, Byte}
use Rattle.disk_trait.specs.Areas.{Areas, area_of, with_area}
use Rattle.disk_trait.specs.Memory.{Change, standing, bytes_of, picked_cut}
use Rattle.disk_trait.specs.Memory.Change.{Wrote, Missed, WasCut, Synced, Restarted}
use Rattle.disk_trait.proofs.Overwrites.{overwritten-le, picked_write-le}

-- both are at most so long
pub record AreWithin (areas : Areas) (n : ℕ) : Type 0 where
  pub each : (area : Area) → length (area_of area areas) ≤ n

changed_within : (area : Area) (bytes : List ℕ) (areas : Areas) (m n : ℕ) → AreWithin areas m → m ≤ n → length bytes ≤ n → AreWithin (with_area area bytes areas) n
changed_within area bytes areas m n within le fits = record { each = λ other. at area other }
  where
    at : (area other : Area) → length (area_of other (with_area area bytes areas)) ≤ n
    at Zero Zero = fits
    at Zero One = omega (arith, within.each One)
    at One Zero = omega (arith, within.each Zero)
    at One One = fits

picked_cut-le : (image : Image) (len : ℕ) (old : List ℕ) → length (picked_cut image len old) ≤ length old
picked_cut-le Kept len old = omega (arith, length-take len old)
picked_cut-le Dropped len old = omega arith
picked_cut-le (Byte b) len old = omega (arith, length-take len old)

pub within : (image : Image) (history : List Change) → AreWithin (standing image history).reads (bytes_of history) × AreWithin (standing image history).picked (bytes_of history)
within image [] = (record { each = elim [ Zero ↦ omega arith | One ↦ omega arith ] }, record { each = elim [ Zero ↦ omega arith | One ↦ omega arith ] })
within image (Wrote area from bytes ∷ earlier) =
    let was = within image earlier in
    let s = standing image earlier in (
      changed_within area _ s.reads (bytes_of earlier) _ was.0 (omega arith) (omega (arith, overwritten-le from bytes (area_of area s.reads), was.0.each area)),
      changed_within area _ s.picked (bytes_of earlier) _ was.1 (omega arith) (omega (arith, picked_write-le image from bytes (area_of area s.picked), was.1.each area)),
    )
within image (Missed area from n ∷ earlier) = within image earlier
within image (WasCut area len ∷ earlier) =
    let was = within image earlier in
    let s = standing image earlier in (
      changed_within area _ s.reads (bytes_of earlier) _ was.0 (omega arith) (omega (arith, length-take len (area_of area s.reads), was.0.each area)),
      changed_within area _ s.picked (bytes_of earlier) _ was.1 (omega arith) (omega (arith, picked_cut-le image len (area_of area s.picked), was.1.each area)),
    )
within image (Synced area ∷ earlier) =
    let was = within image earlier in (was.0, changed_within area _ (standing image earlier).picked (bytes_of earlier) _ was.1 (omega arith) (was.0.each area))
within image (Restarted ∷ earlier) = let was = within image earlier in (was.1, was.1)
