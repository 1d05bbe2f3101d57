-- Counts of faults: how often the outside has failed, and what an answer `Failed` says of that.
--
-- Rose: a count that rose. HasFaultCause: an error is answered only where it did.
use Rattle.std.specs.Prelude.{◌⊎◌, ℕ, ◌-◌, ◌^◌, ◌<◌, ◌≤◌, Result, OnErr}

-- The count rose. A count of 64 bits that has come to its end stands still, and counts as risen.
abbrev pub Rose : ℕ → ℕ → Type 0
Rose before now = (before < now) ⊎ (2 ^ 64 - 1 ≤ now)

-- The count never falls, and the call answers an error only where it rose.
pub record HasFaultCause {T E : Type 0} (before now : ℕ) (result : Result T E) : Type 0 where
  pub never_falls : before ≤ now
  pub cause : OnErr result (Rose before now)
