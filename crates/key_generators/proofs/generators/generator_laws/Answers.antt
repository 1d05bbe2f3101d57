use Rattle.std.proofs.Common.{ℕ, ◌<◌, ◌≤◌, ◌+◌, pos, negsuc, List, [], ◌∷◌, arith}
use Rattle.std.proofs.lemmas.Grind.{common_steps}
use Rattle.clone_values.specs.KeyTree.{KeyTree, number, date, text, binary, array}
use Rattle.key_generators.specs.Generators.{after_key, after_keys}
use Rattle.key_generators.proofs.generators.generator_laws.Goals as goal

never_falls : (current : ℕ) (key : KeyTree) → current ≤ after_key current key
never_falls current (number (pos n)) = grind (arith, common_steps)
never_falls current (number (negsuc n)) = omega arith
never_falls current (date d) = omega arith
never_falls current (text s) = omega arith
never_falls current (binary b) = omega arith
never_falls current (array ks) = omega arith

-- what is below the current number stays below it
stays_below : (n current : ℕ) (keys : List KeyTree) → n < current → n < after_keys current keys
stays_below n current [] below = below
stays_below n current (key ∷ keys) below = stays_below n (after_key current key) keys (omega (arith, never_falls current key))

pub returns-clause-rises : goal.returns-clause-rises
returns-clause-rises c = λ current keys. stays_below current (current + 1) keys (omega arith)
