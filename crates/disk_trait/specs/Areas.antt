-- The bytes of the two areas of a disk.
use Rattle.std.specs.Prelude.{ℕ, List}
use Rattle.disk_trait.specs.declared.area.Area.{Area}
use Rattle.disk_trait.specs.declared.area.Area.TheVariants.{Zero, One}

-- the bytes of both areas: what reads give, or an image that a stop leaves
pub record Areas : Type 0 where
  pub zero : List ℕ
  pub one : List ℕ

-- the bytes of one of them
abbrev pub area_of : Area → Areas → List ℕ
area_of Zero areas = areas.zero
area_of One areas = areas.one

-- the one that isn't this one
abbrev pub other_area : Area → Area
other_area Zero = One
other_area One = Zero

-- these areas with other bytes in one of them
abbrev pub with_area : Area → List ℕ → Areas → Areas
with_area Zero bytes areas = record { zero = bytes; one = areas.one }
with_area One bytes areas = record { zero = areas.zero; one = bytes }
