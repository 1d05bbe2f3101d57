-- Lists of numbers that rise strictly.
--     IsRisingFrom, IsRising        each number is above the one before it, the first at least this one
--     AreAllBelow           each number is below this one
--     without_number        the list without it
use Rattle.std.specs.Prelude.{ℕ, ◌+◌, ◌≤◌, ◌<◌, not, ◌==◌, List, [], ◌∷◌, filter, ⊤}
use Rattle.std.specs.List.{AllByRecursion}

-- the first is at least low, and each is above the one before it
abbrev pub IsRisingFrom : ℕ → List ℕ → Type 0
IsRisingFrom low [] = ⊤
IsRisingFrom low (n ∷ ns) = (low ≤ n) × IsRisingFrom (n + 1) ns

-- each is above the one before it
abbrev pub IsRising : List ℕ → Type 0
IsRising ns = IsRisingFrom 0 ns

-- each is below this one
abbrev pub AreAllBelow : ℕ → List ℕ → Type 0
AreAllBelow end ns = AllByRecursion (λ n. n < end) ns

-- without this number
abbrev pub without_number : ℕ → List ℕ → List ℕ
without_number n ns = filter (λ m. not (m == n)) ns
