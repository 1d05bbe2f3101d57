-- When a log is not opened.
use Rattle.std.specs.Prelude.{ℕ, ◌≤◌, Result, IsErrOf}
use Rattle.edge_traits.specs.Faults.{Rose}
use Rattle.gate_log.specs.declared.error.LogError.{LogError}
use Rattle.gate_log.specs.declared.error.LogError.TheVariants as error
use Rattle.disk_trait.specs.declared.area.Area.{Area}

-- The count never falls, a fault of the disk is told only where it rose, and no damage is told.
pub record HasReadCause {T : Type 0} (before now : ℕ) (result : Result T LogError) : Type 0 where
  pub never_falls : before ≤ now
  pub disk_fault : IsErrOf result error.DiskFault → Rose before now
  pub not_damaged : (area : Area) (place : ℕ) → IsErrOf result (error.Damaged area place) → ⊥
