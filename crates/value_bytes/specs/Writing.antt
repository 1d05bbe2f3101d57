-- What a call that appends leaves where memory ran out.
use Rattle.std.specs.Prelude.{◌≡◌, ℕ, List, length, take}

-- the bytes begin with the old ones
pub record BeginsWith (old new : List ℕ) : Type 0 where
  pub front : take (length old) new ≡ old
