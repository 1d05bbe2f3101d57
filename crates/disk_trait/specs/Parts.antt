-- The parts of a disk in memory, each as its holder sees it.
use Rattle.std.specs.Prelude.{ℕ, List}
use Rattle.disk_trait.specs.declared.plan.Image.{Image}
use Rattle.disk_trait.specs.Memory.{Change, Standing}

-- one area: what reads give, the picked image, and how many bytes each can be
pub record AreaState : Type 0 where
  pub reads : List ℕ
  pub picked : List ℕ
  pub room : ℕ

-- both areas: what stands in them, and how many bytes each can be
pub record BothState : Type 0 where
  pub standing : Standing
  pub room : ℕ

-- the log: what reached the disk, the newest first; how many more changes it can take, and how many more bytes
pub record LogState : Type 0 where
  pub history : List Change
  pub spare : ℕ
  pub room : ℕ

-- areas and log together, with the image that the plan picks
pub record ContentState : Type 0 where
  pub history : List Change
  pub image : Image
  pub spare : ℕ
  pub room : ℕ
