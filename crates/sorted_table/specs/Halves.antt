-- Lists whose members fail a test up to a place, and pass it from there on.
--     IsSplitBetween        the members before one place fail the test, and those from another on pass it
--     IsSplitAt             the same of one place
--     StaysPassed                 what stands behind a member that passes the test passes it too
use Rattle.std.specs.Prelude.{◌≡◌, ℕ, ◌<◌, ◌≤◌, Bool, true, false, List, Some, length, slice_get}

-- the members before low fail the test, and those from high on pass it
pub record IsSplitBetween {A : Type 0} (test : A → Bool) (xs : List A) (low high : ℕ) : Type 0 where
  pub ordered : low ≤ high
  pub within : high ≤ length xs
  pub before : (i : ℕ) (x : A) → i < low → slice_get xs i ≡ Some x → test x ≡ false
  pub behind : (i : ℕ) (x : A) → high ≤ i → slice_get xs i ≡ Some x → test x ≡ true

abbrev pub IsSplitAt : {A : Type 0} → (A → Bool) → List A → ℕ → Type 0
IsSplitAt test xs place = IsSplitBetween test xs place place

-- what stands behind a member that passes the test passes it too
pub record StaysPassed {A : Type 0} (test : A → Bool) (xs : List A) : Type 0 where
  pub later : (i j : ℕ) (x y : A) → i < j → slice_get xs i ≡ Some x → slice_get xs j ≡ Some y → test x ≡ true → test y ≡ true
