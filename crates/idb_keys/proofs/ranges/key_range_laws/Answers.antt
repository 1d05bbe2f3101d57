use Rattle.std.proofs.Common.{◌≡◌, ◌↔◌, ◌&&◌, Bool, true, false, IsTrue, refl}
use Rattle.idb_keys.proofs.ranges.key_range_laws.Goals as goal

both : {P Q : Type 0} (a b : Bool) → (IsTrue a ↔ P) → (IsTrue b ↔ Q) → IsTrue (a && b) ↔ (P × Q)
both true b p q = (λ h. (p.0 refl, q.0 h), λ m. q.1 m.1)
both false b p q = (λ h. cc, λ m. let e : false ≡ true = p.1 m.0 in cc)

pub returns-clause-decided : goal.returns-clause-decided
returns-clause-decided c = λ range key. both _ _ (c.bound_laws.ensures.lower_decided range.lower key) (c.bound_laws.ensures.upper_decided range.upper key)
