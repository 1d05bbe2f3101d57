-- One step down: from a value to its body.
use Rattle.std.proofs.Common.{◌≡◌, ℕ, zero, suc, ◌-◌, ◌≤◌, List, [], ◌∷◌, length, map, Option, Some, None, refl, sym, ◌∙◌, Bool, true, false, arith}
use Rattle.std.specs.Str.{IsUtf8, is_utf8}
use Rattle.std.proofs.lemmas.Str.{is_utf8-from_IsUtf8, IsUtf8-from_is_utf8}
use Rattle.std.proofs.lemmas.Bool.{false_from_ne_true}
use Rattle.clone_values.specs.Names.{names_of, is_rising}
use Rattle.clone_values.specs.View.{prop_of}
use Rattle.clone_values.specs.declared.value_types.Prop.{Prop}
use Rattle.value_bytes.specs.declared.error.SpellingError.{SpellingError}
use Rattle.value_bytes.specs.declared.error.SpellingError.TheVariants as error
use Rattle.value_bytes.specs.Steps.{◌>>=◌, IsUnspelled, byte_at, string_at, text_at, checked_at}
use Rattle.value_bytes.specs.KeyReading.{key_kind_of, key_body_at, key_at}
use Rattle.value_bytes.specs.Reading.{kind_of, body_at, value_at}

pub value_none : (d : ℕ) (bs : List ℕ) → d ≡ 0 → value_at d bs ≡ None
unfolding value_at
value_none d bs e = rw e refl

pub value_step : (d : ℕ) (bs : List ℕ) → (d ≡ 0 → ⊥) → value_at d bs ≡ (byte_at bs >>= λ b. kind_of b.0 >>= λ k. body_at (value_at (d - 1)) k b.1)
unfolding value_at
value_step zero bs ne = absurd (ne refl)
value_step (suc d) bs ne = let e : suc d - 1 ≡ d = omega arith in rw e refl

pub key_none : (d : ℕ) (bs : List ℕ) → d ≡ 0 → key_at d bs ≡ None
unfolding key_at
key_none d bs e = rw e refl

pub key_step : (d : ℕ) (bs : List ℕ) → (d ≡ 0 → ⊥) → key_at d bs ≡ (byte_at bs >>= λ b. key_kind_of b.0 >>= λ k. key_body_at (key_at (d - 1)) k b.1)
unfolding key_at
key_step zero bs ne = absurd (ne refl)
key_step (suc d) bs ne = let e : suc d - 1 ≡ d = omega arith in rw e refl

module _ {K T : Type 0} (kinds : ℕ → Option K) (bodies : K → List ℕ → Option (T × List ℕ)) (bs : List ℕ) (whole : Option (T × List ℕ)) (step : whole ≡ (byte_at bs >>= λ b. kinds b.0 >>= λ k. bodies k b.1)) where
  pub no_byte : (e : SpellingError) → IsUnspelled e (byte_at bs) → IsUnspelled e whole
  no_byte error.NoMemory h = tt
  no_byte error.NotInGrammar h = step ∙ rw h refl

  pub no_kind : (b : ℕ) (after : List ℕ) → byte_at bs ≡ Some (b, after) → None ≡ kinds b → whole ≡ None
  no_kind b after e k = step ∙ rw e (rw (← k) refl)

  pub has_body : (b : ℕ) (after : List ℕ) (k : K) → byte_at bs ≡ Some (b, after) → Some k ≡ kinds b → bodies k after ≡ whole
  has_body b after k e h = sym (step ∙ rw e (rw (← h) refl))

pub is_text : (bs s after : List ℕ) → string_at bs ≡ Some (s, after) → IsUtf8 s → text_at bs ≡ Some (s, after)
is_text bs s after e u = rw e (rw (is_utf8-from_IsUtf8 s u) refl)

pub no_text : (bs s after : List ℕ) → string_at bs ≡ Some (s, after) → (IsUtf8 s → ⊥) → text_at bs ≡ None
no_text bs s after e u = rw e (rw (false_from_ne_true (is_utf8 s) (λ h. u (IsUtf8-from_is_utf8 s h))) refl)

pub passes : {A : Type 0} (c : A → Bool) (r : List ℕ → Option (A × List ℕ)) (bs : List ℕ) (x : A) (after : List ℕ) → r bs ≡ Some (x, after) → c x ≡ true → checked_at c r bs ≡ Some (x, after)
passes c r bs x after e h = rw e (rw h refl)

pub fails_test : {A : Type 0} (c : A → Bool) (r : List ℕ → Option (A × List ℕ)) (bs : List ℕ) (x : A) (after : List ℕ) → r bs ≡ Some (x, after) → c x ≡ false → checked_at c r bs ≡ None
fails_test c r bs x after e h = rw e (rw h refl)

pub fails_checked : {A : Type 0} (e : SpellingError) (c : A → Bool) (r : List ℕ → Option (A × List ℕ)) (bs : List ℕ) → IsUnspelled e (r bs) → IsUnspelled e (checked_at c r bs)
fails_checked error.NoMemory c r bs h = tt
fails_checked error.NotInGrammar c r bs h = rw h refl

-- one name, or none, rises
pub few_rise : (ps : List Prop) → length ps ≤ 1 → is_rising (names_of (map prop_of ps)) ≡ true
few_rise [] h = refl
few_rise (p ∷ []) h = refl
few_rise (p ∷ q ∷ ps) h = absurd (omega arith)
