-- Key generators (Indexed Database API 3.0, "key generators"), seen as their current number.
--     last_number           the greatest number that a generator gives, 2^53
--     IsGenerator           what the current number of each generator meets
--     IsExhausted           the generator has no number left
--     after_key, after_keys the current number after explicit keys were stored
use Rattle.std.specs.Prelude.{ℕ, ◌+◌, ◌<◌, ◌≤◌, nat_le, min, pos, List, [], ◌∷◌, if◌then◌else◌}
use Rattle.clone_values.specs.KeyTree.{KeyTree, number}
use Rattle.key_generators.specs.declared.generators.TheConstants.{LAST_NUMBER}

-- the greatest number that a generator gives
abbrev pub last_number : ℕ
last_number = LAST_NUMBER

-- the current number is at least 1, and at most one more than the last number
abbrev pub IsGenerator : ℕ → Type 0
IsGenerator current = (1 ≤ current) × (current ≤ last_number + 1)

-- the last number has been given or passed
abbrev pub IsExhausted : ℕ → Type 0
IsExhausted current = last_number < current

-- the current number after a record with this explicit key was stored ("possibly update the key generator"): a number
-- that is not less than the current one, cut to the last number, sets it to one more; no other key changes it
abbrev pub after_key : ℕ → KeyTree → ℕ
after_key current (number (pos n)) = if nat_le current (min n last_number) then min n last_number + 1 else current
after_key current _ = current

-- the current number after these keys, from the left
abbrev pub after_keys : ℕ → List KeyTree → ℕ
after_keys current [] = current
after_keys current (key ∷ keys) = after_keys (after_key current key) keys
