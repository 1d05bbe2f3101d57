-- Which area is live.
use Rattle.std.proofs.Common.{◌≡◌, ℕ, true, refl, ◌∙◌, ap, arith}
use Rattle.std.proofs.lemmas.Bool.Decides.{nat_tests}
use Rattle.disk_trait.specs.declared.area.Area.{Area}
use Rattle.disk_trait.specs.declared.area.Area.TheVariants.{Zero, One}
use Rattle.disk_trait.specs.Areas.{Areas, area_of, other_area}
use Rattle.gate_areas.specs.Sealed.{BatchList, Sealed, Blank, Open, Fault, sealed_of}
use Rattle.gate_areas.specs.Found.{Live, found_in, found_of, counts_for_nothing}

module _ (generation : ℕ) (batches : BatchList) where
  zero_lives : (one : Sealed) → counts_for_nothing generation one ≡ true → found_in (Open generation batches) one ≡ Live Zero generation batches
  zero_lives Blank counts = refl
  zero_lives (Open lesser others) counts = grind (arith, nat_tests)
  zero_lives (Fault place) counts = cc

  one_lives : (zero : Sealed) → counts_for_nothing generation zero ≡ true → found_in zero (Open generation batches) ≡ Live One generation batches
  one_lives Blank counts = refl
  one_lives (Open lesser others) counts = grind (arith, nat_tests)
  one_lives (Fault place) counts = cc

  -- an open area beside which the other counts for nothing
  pub lives : (area : Area) (areas : Areas) → sealed_of (area_of area areas) ≡ Open generation batches
      → counts_for_nothing generation (sealed_of (area_of (other_area area) areas)) ≡ true → found_of areas ≡ Live area generation batches
  lives Zero areas is counts = ap (λ s. found_in s (sealed_of areas.one)) is ∙ zero_lives (sealed_of areas.one) counts
  lives One areas is counts = ap (λ s. found_in (sealed_of areas.zero) s) is ∙ one_lives (sealed_of areas.zero) counts
