-- What the bytes that were read say of the head of an area.
use Rattle.std.proofs.Common.{◌≡◌, ℕ, ◌≤◌, ◌<◌, List, [], length, get_or, take, drop, true, eqb, ltb, sym, ◌∙◌, ap, arith}
use Rattle.std.specs.Prelude.{◌||◌}
use Rattle.std.specs.Int.{w64, from_be_bytes}
use Rattle.std.specs.Str.{bytes_eq}
use Rattle.std.proofs.lemmas.Bool.{cond-true, cond-false, lt-ltb, le-ltb, eq-eqb, ne_eqb, or_from, or_left, or_right, false_from_ne_true}
use Rattle.std.proofs.lemmas.Slice.Eq.{bytes_eq-Decides}
use Rattle.std.proofs.lemmas.List.{drop_all, drop-take, take-take, drop-drop, length-take, length-take-le, length-drop}
use Rattle.gate_areas.specs.Sealed.{Fault, is_open, spelled_number, batches_at, opened, sealed_of, MAGIC, OPEN}
use Rattle.gate_areas.specs.Fronts.{IsFront}
use Rattle.gate_areas.proofs.Making.{head_front}
use Rattle.gate_areas.proofs.Scanning.{open_by, number_is}

module _ (bytes : List ℕ) (long : 2 ≤ length bytes) (buf : List ℕ) (read : buf ≡ take 1 bytes) (is : get_or buf 0 0 ≡ OPEN) where
  opens : is_open bytes ≡ true
  opens = open_by bytes buf long read ∙ eq-eqb (get_or buf 0 0) OPEN is

  pub short_magic : length bytes < 9 → sealed_of bytes ≡ Fault 1
  short_magic short =
      cond-true (is_open bytes) _ _ opens
      ∙ cond-false (bytes_eq (take 8 (drop 1 bytes)) MAGIC) _ _
      (false_from_ne_true (bytes_eq (take 8 (drop 1 bytes)) MAGIC)
      (λ same. absurd (omega (arith, ap length ((bytes_eq-Decides (take 8 (drop 1 bytes)) MAGIC).0 same), length-take 8 (drop 1 bytes), length-drop 1 bytes))))

  module _ (magic : List ℕ) (read_magic : magic ≡ take 8 (drop 1 bytes)) (is_magic : bytes_eq magic MAGIC ≡ true) where
    magic_is : bytes_eq (take 8 (drop 1 bytes)) MAGIC ≡ true
    magic_is = ap (λ (l : List ℕ). bytes_eq l MAGIC) (sym read_magic) ∙ is_magic

    nine : drop 8 (drop 1 bytes) ≡ drop 9 bytes
    nine = drop-drop 8 1 bytes

    pub short_number : length bytes < 17 → sealed_of bytes ≡ Fault 9
    short_number short =
        cond-true (is_open bytes) _ _ opens ∙ cond-true (bytes_eq (take 8 (drop 1 bytes)) MAGIC) _ _ magic_is
        ∙ cond-true (ltb (length (drop 8 (drop 1 bytes))) 8 || eqb (spelled_number (drop 8 (drop 1 bytes))) 0) _ _
        (or_left (ltb (length (drop 8 (drop 1 bytes))) 8) _ (lt-ltb (length (drop 8 (drop 1 bytes))) 8 (omega (arith, ap length nine, length-drop 9 bytes))))

    module _ (enough : 17 ≤ length bytes) (number : List ℕ) (read_number : number ≡ take 8 (drop 9 bytes)) where
      number_here : spelled_number (drop 8 (drop 1 bytes)) ≡ from_be_bytes w64 number
      number_here = number_is (drop 8 (drop 1 bytes)) number (read_number ∙ ap (λ (l : List ℕ). take 8 l) (sym nine))

      pub no_number : from_be_bytes w64 number ≡ 0 → sealed_of bytes ≡ Fault 9
      no_number zero =
          cond-true (is_open bytes) _ _ opens ∙ cond-true (bytes_eq (take 8 (drop 1 bytes)) MAGIC) _ _ magic_is
          ∙ cond-true (ltb (length (drop 8 (drop 1 bytes))) 8 || eqb (spelled_number (drop 8 (drop 1 bytes))) 0) _ _
          (or_right (ltb (length (drop 8 (drop 1 bytes))) 8) _ (eq-eqb (spelled_number (drop 8 (drop 1 bytes))) 0 (number_here ∙ zero)))

      pub no_gate : (from_be_bytes w64 number ≡ 0 → ⊥) → length bytes ≡ 17 → sealed_of bytes ≡ Fault 17
      no_gate some ends =
          cond-true (is_open bytes) _ _ opens ∙ cond-true (bytes_eq (take 8 (drop 1 bytes)) MAGIC) _ _ magic_is
          ∙ cond-false (ltb (length (drop 8 (drop 1 bytes))) 8 || eqb (spelled_number (drop 8 (drop 1 bytes))) 0) _ _
          (or_from _ _ (le-ltb (length (drop 8 (drop 1 bytes))) 8 (omega (arith, ap length nine, length-drop 9 bytes)))
          (ne_eqb (spelled_number (drop 8 (drop 1 bytes))) 0 (λ zero. some (sym number_here ∙ zero))))
          ∙ ap (λ (l : List ℕ). opened (spelled_number (drop 8 (drop 1 bytes))) (batches_at 17 0 l))
          (drop_all 8 (drop 8 (drop 1 bytes)) (omega (arith, ap length nine, length-drop 9 bytes)))

      pub whole_head : (from_be_bytes w64 number ≡ 0 → ⊥) → IsFront (from_be_bytes w64 number) 17 (take 17 bytes) []
      whole_head some = head_front (take 17 bytes) (from_be_bytes w64 number) (length-take-le 17 bytes enough)
          (open_by (take 17 bytes) buf (omega (arith, length-take-le 17 bytes enough)) (read ∙ sym (take-take 1 17 bytes (omega arith))) ∙ eq-eqb (get_or buf 0 0) OPEN is)
          (ap (λ (l : List ℕ). bytes_eq (take 8 l) MAGIC) (drop-take 1 16 bytes) ∙ ap (λ (l : List ℕ). bytes_eq l MAGIC) (take-take 8 16 (drop 1 bytes) (omega arith)) ∙ magic_is)
          (number_is (drop 9 (take 17 bytes)) number (read_number ∙ sym (take-take 8 8 (drop 9 bytes) (omega arith)) ∙ ap (λ (l : List ℕ). take 8 l) (sym (drop-take 9 8 bytes))))
          (nonzero (from_be_bytes w64 number) some)
        where
          nonzero : (n : ℕ) → (n ≡ 0 → ⊥) → 1 ≤ n
          nonzero n some = omega (arith, some)
