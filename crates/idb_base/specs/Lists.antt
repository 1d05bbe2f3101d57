-- Words on plain lists.
--     StandsAt              what stands at a place of a list, with all that is behind it
--     IsWithinLimit         the list has at most the greatest number of members
--     FitsOneMore           one more member keeps it within the limit
use Rattle.std.specs.Prelude.{◌≡◌, ℕ, ◌+◌, ◌<◌, ◌≤◌, List, ◌∷◌, length, drop}
use Rattle.idb_base.specs.declared.limits.TheConstants.{GREATEST_LENGTH}

-- at this place of the list, counted from 0, stands x
abbrev pub StandsAt : {A : Type 0} → List A → ℕ → A → Type 0
StandsAt xs i x = drop i xs ≡ x ∷ drop (i + 1) xs

-- the list has at most the greatest number of members
abbrev pub IsWithinLimit : {A : Type 0} → List A → Type 0
IsWithinLimit xs = length xs ≤ GREATEST_LENGTH

-- one more member keeps the list within the limit
abbrev pub FitsOneMore : {A : Type 0} → List A → Type 0
FitsOneMore xs = length xs < GREATEST_LENGTH
