-- A disk over two files: the length that was noted of each area, and what is known of its file.
use Rattle.std.specs.Prelude.{◌≡◌, ◌-◌, ◌^◌, ◌≤◌, ℕ, length, Option, IfSome, IsTrue}
use Rattle.disk_trait.specs.declared.area.Area.{Area}
use Rattle.disk_trait.specs.declared.area.Area.TheVariants.{Zero, One}
use Rattle.edge_adapters.specs.Files.{FileState}
use Rattle.edge_adapters.specs.declared.stand.Stand.{Stand}
use Rattle.edge_adapters.specs.declared.stand.Stand.TheVariants.{Unseen, Closed, Open}

-- an area as its holder sees it
pub record NotedArea : Type 0 where
  pub noted : ℕ
  pub stand : Stand
  pub file : Option FileState

-- An open file has the noted length, and its name is on the disk.
abbrev pub FitsStand : Stand → ℕ → Option FileState → Type 0
FitsStand Unseen noted file = Unit {0}
FitsStand Closed noted file = Unit {0}
FitsStand Open noted file = IfSome file (λ f. (length f.held ≡ noted) × IsTrue f.is_named)

-- the length could be noted
abbrev pub IsSeen : NotedArea → Type 0
IsSeen area = area.stand ≡ Unseen → ⊥

-- the noted length is that of the file
abbrev pub IsNotedOf : NotedArea → Type 0
IsNotedOf area = IfSome area.file (λ f. area.noted ≡ length f.held)

-- both areas, how often they were started again, and how many calls failed
pub record TwoFiles : Type 0 where
  pub zero : NotedArea
  pub one : NotedArea
  pub starts : ℕ
  pub faults : ℕ

-- one of the areas
abbrev pub area_in : Area → TwoFiles → NotedArea
area_in Zero disk = disk.zero
area_in One disk = disk.one

-- what is known of the file of an area
abbrev pub file_in : Area → TwoFiles → Option FileState
file_in area disk = (area_in area disk).file

-- the noted length of an area
abbrev pub noted_in : Area → TwoFiles → ℕ
noted_in area disk = (area_in area disk).noted

-- the noted lengths are as they were
abbrev pub SameNoted : (old new : TwoFiles) → Type 0
SameNoted old new = (area : Area) → noted_in area new ≡ noted_in area old
