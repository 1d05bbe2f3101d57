-- What a stop leaves of a note, while it is written behind the closed gate and while the gate is opened.
use Rattle.std.proofs.Common.{◌≡◌, ◌⊎◌, inl, inr, ℕ, ◌+◌, List, [], ◌∷◌, ◌++◌, length, drop, Some, None, ◌∙◌, ap, arith}
use Rattle.std.proofs.lemmas.Bool.{cases_eq}
use Rattle.std.proofs.lemmas.Bool.Decides.{nat_tests}
use Rattle.std.proofs.lemmas.List.{append-nil, drop_all}
use Rattle.disk_trait.specs.Disk.{Torn, Written}
use Rattle.disk_trait.specs.Note.{note_in}

-- the closed gate stands in each outcome of the first write
pub behind : (n : ℕ) (old new : List ℕ) → note_in old ≡ None → length old ≡ 1 → Torn 1 n old new → note_in new ≡ None
behind n [] new none one torn = absurd (omega arith)
behind n (g ∷ a ∷ old) new none one torn = absurd (omega arith)
behind n (g ∷ []) [] none one torn = absurd (omega (arith, torn.no_shorter))
behind n (g ∷ []) (h ∷ new) none one torn = let gates : h ∷ [] ≡ g ∷ [] = torn.before in closed g h (cc) none
  where
    closed : (g h : ℕ) → h ≡ g → note_in (g ∷ []) ≡ None → note_in (h ∷ new) ≡ None
    closed g h same none = elim (cases_eq g 165) [
      | inl is_open ↦ let some : note_in (g ∷ []) ≡ Some [] = grind (arith, nat_tests) in absurd (cc (some, none))
      | inr shut ↦ grind (arith, nat_tests)
    ]

-- done, it leaves the gate and the note
pub written_behind : (note old new : List ℕ) → length old ≡ 1 → Written 1 note old new → (g : ℕ) × (new ≡ g ∷ note)
written_behind note [] new one written = absurd (omega arith)
written_behind note (g ∷ a ∷ old) new one written = absurd (omega arith)
written_behind note (g ∷ []) new one written =
    (g, written ∙ ap (λ (l : List ℕ). (g ∷ note) ++ l) (drop_all (1 + length note) (g ∷ []) (omega arith)) ∙ append-nil (g ∷ note))

-- a gate of any value stands before the whole note
pub torn_gate : (note old new : List ℕ) (g : ℕ) → old ≡ g ∷ note → Torn 0 1 old new → (note_in new ≡ None) ⊎ (note_in new ≡ Some note)
torn_gate note [] new g is torn = absurd (cc)
torn_gate note (o ∷ old) [] g is torn = absurd (omega (arith, torn.no_shorter))
torn_gate note (o ∷ old) (h ∷ new) g is torn =
    let rest : new ≡ note = let same : new ≡ old = torn.after in cc in
    elim (cases_eq h 165) [
      | inl is_open ↦ let some : note_in (h ∷ new) ≡ Some new = grind (arith, nat_tests) in inr (some ∙ ap (λ (l : List ℕ). Some l) rest)
      | inr shut ↦ inl (grind (arith, nat_tests))
    ]

pub written_gate : (note old new : List ℕ) (g : ℕ) → old ≡ g ∷ note → Written 0 (165 ∷ []) old new → note_in new ≡ Some note
written_gate note old new g is written = ap note_in (written ∙ ap (λ (l : List ℕ). 165 ∷ drop 1 l) is)
