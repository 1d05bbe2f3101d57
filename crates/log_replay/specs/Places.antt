-- The places of batches.
--     HavePlaces            the batches end by a gate, whose place is a number of 64 bits
use Rattle.std.specs.Prelude.{ℕ, ◌<◌, ◌^◌}
use Rattle.gate_areas.specs.Sealed.{BatchList}
use Rattle.gate_areas.specs.LiveBatches.{EndBy}

pub record HavePlaces (batches : BatchList) : Type 0 where
  pub gate : ℕ
  pub limit : gate < 2 ^ 64
  pub bounded : EndBy gate batches
