-- Numbers that name things.
--     numbers_below               the numbers below one, in order
--     AreIds                distinct numbers below the next one
use Rattle.std.specs.Prelude.{ℕ, zero, suc, ◌<◌, ◌≢◌, List, [], ◌∷◌, ◌++◌, ⊤}
use Rattle.std.specs.List.{AllByRecursion}

-- 0, 1 and so on, n of them
abbrev pub numbers_below : ℕ → List ℕ
numbers_below zero = []
numbers_below (suc n) = numbers_below n ++ n ∷ []

-- the number is not among these
abbrev pub LacksNumber : List ℕ → ℕ → Type 0
LacksNumber ids n = AllByRecursion (λ i. i ≢ n) ids

-- no number stands twice, and all are below the next one
abbrev pub AreIds : List ℕ → ℕ → Type 0
AreIds [] next = ⊤
AreIds (i ∷ ids) next = (i < next) × LacksNumber ids i × AreIds ids next
