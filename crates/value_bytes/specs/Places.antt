-- Words that stand in longer bytes.
--     StandsSpelled              at a place of the bytes stands a word of a grammar
use Rattle.std.specs.Prelude.{ℕ, ◌≤◌, List, length, slice_range}

-- from place `from` up to place `end` the bytes are a word of the grammar, for x
pub record StandsSpelled {A : Type 0} (Spells : List ℕ → A → Type 0) (bytes : List ℕ) (from end : ℕ) (x : A) : Type 0 where
  pub starts : from ≤ end
  pub ends : end ≤ length bytes
  pub spells : Spells (slice_range bytes from end) x
