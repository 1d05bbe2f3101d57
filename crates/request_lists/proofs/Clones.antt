-- Tests that say what the words say.
use Rattle.std.proofs.Common.{◌≡◌, ℕ, ◌≤◌, ◌↔◌, Bool, true, false, not, ◌&&◌, IsTrue, refl, arith}
use Rattle.std.proofs.Math.Dec.{leb}
use Rattle.std.proofs.lemmas.Grind.{common_steps}
use Rattle.clone_values.specs.Tree.{Tree}
use Rattle.clone_values.specs.Values.{IsCloneable, holds_function, depth_of}
use Rattle.idb_base.specs.declared.limits.TheConstants.{GREATEST_DEPTH}
use Rattle.request_lists.specs.Refusals.{can_clone}

same : (a b : Bool) (P : Type 0) → (IsTrue a ↔ P) → (IsTrue b ↔ P) → a ≡ b
same true true P p q = refl
same true false P p q = let e : false ≡ true = q.1 (p.0 refl) in cc
same false true P p q = let e : false ≡ true = p.1 (q.0 refl) in cc
same false false P p q = refl

test_by : (a : Bool) (x n : ℕ) → IsTrue (not a && leb x n) ↔ ((a ≡ false) × (x ≤ n))
test_by true x n = grind (arith, common_steps)
test_by false x n = grind (arith, common_steps)

pub clone_test : (b : Bool) (t : Tree) → (IsTrue b ↔ IsCloneable t) → b ≡ can_clone t
clone_test b t e = same b (can_clone t) (IsCloneable t) e (test_by (holds_function t) (depth_of t) GREATEST_DEPTH)
