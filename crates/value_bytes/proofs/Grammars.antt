-- What follows for a grammar from a reader that fits it.
use Rattle.std.proofs.Common.{◌≡◌, ℕ, ◌-◌, ◌≤◌, List, [], ◌++◌, length, drop, Option, Some, refl, sym, ap, ◌∙◌, arith}
use Rattle.std.proofs.lemmas.List.{append-nil}
use Rattle.value_bytes.specs.declared.error.SpellingError.{SpellingError}
use Rattle.value_bytes.specs.declared.error.SpellingError.TheVariants as error
use Rattle.value_bytes.specs.Places.{StandsSpelled}
use Rattle.value_bytes.specs.Steps.{IsUnspelled}
use Rattle.value_bytes.proofs.Formats.{IsBytes, Format, apart, stands, none_stands}

-- the words of the grammar are the spellings of what may be read
pub record Grammar {A : Type 0} (r : List ℕ → Option (A × List ℕ)) (spell : A → List ℕ) (Good : A → Type 0) (Spells : List ℕ → A → Type 0) : Type 0 where
  pub format : Format r spell Good
  pub spelled : (word : List ℕ) (x : A) → Spells word x → word ≡ spell x
  pub fits : (word : List ℕ) (x : A) → Spells word x → Good x
  pub spells : (word : List ℕ) (x : A) → word ≡ spell x → Good x → Spells word x

-- what was read stands at its place, and what is left is no longer than the whole
pub record Stood {A : Type 0} (Spells : List ℕ → A → Type 0) (bs rest : List ℕ) (from : ℕ) (x : A) : Type 0 where
  pub shorter : length rest ≤ length bs
  pub there : StandsSpelled Spells bs from (length bs - length rest) x

module _ {A : Type 0} {r : List ℕ → Option (A × List ℕ)} {spell : A → List ℕ} {Good : A → Type 0} {Spells : List ℕ → A → Type 0} (g : Grammar r spell Good Spells) where
  pub stood : (bs after : List ℕ) (from : ℕ) (x : A) (rest : List ℕ) → after ≡ drop from bs → from ≤ length bs → IsBytes bs → r after ≡ Some (x, rest) → Stood Spells bs rest from x
  stood bs after from x rest is le fits e =
      let got = stands r spell Good g.format bs from x rest le fits (ap r (sym is) ∙ e) in
      record { shorter = got.0; there = record { starts = got.1; ends = omega arith; spells = g.spells _ x got.2 got.3 } }

  pub refused : (bs after : List ℕ) (from : ℕ) (e : SpellingError) → after ≡ drop from bs → IsUnspelled e (r after) → e ≡ error.NotInGrammar → (x : A) (end : ℕ) → ¬ (StandsSpelled Spells bs from end x)
  refused bs after from error.NoMemory is h same = absurd cc
  refused bs after from error.NotInGrammar is h same = λ x end s. none_stands r spell Good g.format bs from end x (ap r (sym is) ∙ h) (g.spelled _ x s.spells) (g.fits _ x s.spells)

  pub told_apart : (a b x y : List ℕ) (s t : A) → Spells a s → Spells b t → a ++ x ≡ b ++ y → (s ≡ t) × (x ≡ y)
  told_apart a b x y s t p q e = apart r spell Good g.format s t x y (g.fits a s p) (g.fits b t q) (ap (λ w. w ++ x) (sym (g.spelled a s p)) ∙ e ∙ ap (λ w. w ++ y) (g.spelled b t q))

  pub no_prefix : (a b rest : List ℕ) (s t : A) → Spells a s → Spells b t → b ≡ a ++ rest → rest ≡ []
  no_prefix a b rest s t p q e = (told_apart a b rest [] s t p q (sym e ∙ sym (append-nil b))).1

  pub one : (a : List ℕ) (s t : A) → Spells a s → Spells a t → s ≡ t
  one a s t p q = (told_apart a a [] [] s t p q refl).0

  pub one_spelling : (a b : List ℕ) (x : A) → Spells a x → Spells b x → a ≡ b
  one_spelling a b x p q = g.spelled a x p ∙ sym (g.spelled b x q)
