-- A new area, on its bytes: while it is made, and once it is.
use Rattle.std.proofs.Common.{◌≡◌, inl, inr, ⊎_elim, ℕ, ◌≤◌, ◌<◌, ◌^◌, List, [], ◌∷◌, ◌++◌, length, take, drop, true, false, ltb, eqb, Result, Ok, Err, refl, sym, ◌∙◌, ap, subst, arith, append_assoc, length-append}
use Rattle.std.specs.Int.{w64, to_be_bytes}
use Rattle.std.specs.Str.{bytes_eq}
use Rattle.std.proofs.lemmas.Bool.{cases_Bool, cond-true, cond-false, or_from, le-ltb, ne_eqb}
use Rattle.std.specs.Prelude.{◌||◌}
use Rattle.std.proofs.lemmas.List.{take-append-le, drop-append-le, drop_at, drop-drop, length-drop}
use Rattle.std.proofs.lemmas.Nat.{from_be_bytes-to_be_bytes_8}
use Rattle.disk_trait.specs.Disk.{Torn, Written}
use Rattle.gate_areas.specs.Sealed.{BatchList, Blank, is_open, spelled_number, batches_at, opened, with_front, sealed_of, area_text, MAGIC, CLOSED, OPEN}
use Rattle.gate_areas.specs.Fronts.{IsFront}
use Rattle.gate_areas.specs.Steps.{Blanking, Blanks, Grows, GrowsBy, Making, Makes}
use Rattle.gate_areas.proofs.Gates.{torn_gate, written_gate}
use Rattle.gate_areas.proofs.Fronts.{number_front}
use Rattle.gate_areas.proofs.Rest.{open_is}

pub blank_from : (bytes : List ℕ) → is_open bytes ≡ false → sealed_of bytes ≡ Blank
blank_from bytes shut = cond-false (is_open bytes) _ _ shut

pub short_blank : (bytes : List ℕ) → length bytes ≤ 1 → sealed_of bytes ≡ Blank
short_blank [] short = refl
short_blank (b ∷ []) short = refl
short_blank (b ∷ c ∷ bytes) short = absurd (omega arith)

closed_blank : (rest : List ℕ) → sealed_of (CLOSED ∷ rest) ≡ Blank
closed_blank [] = refl
closed_blank (b ∷ rest) = refl

module _ (text old : List ℕ) where
  pub blanking_makes : (new : List ℕ) → Blanking old new → Making text old new
  blanking_makes new blanking = ⊎_elim (λ same. inl same) (λ short. inr (inl (short_blank new short))) blanking

  pub growing_makes : (mid new : List ℕ) → Blanks old mid → Grows mid new → Making text old new
  growing_makes mid new blank grown = inr (inl (ap sealed_of (grown.1 ∙ ap (λ (l : List ℕ). l ++ grown.0) blank) ∙ closed_blank grown.0))

  pub blank_then : (mid new : List ℕ) → Blanks old mid → GrowsBy text mid new → new ≡ CLOSED ∷ text
  blank_then mid new blank grown = grown ∙ ap (λ (l : List ℕ). l ++ text) blank

  pub gate_makes : (mid new : List ℕ) → mid ≡ CLOSED ∷ text → Torn 0 1 mid new → Making text old new
  gate_makes mid new is torn =
      let gates = torn_gate [] CLOSED 0 refl text new (subst (λ (l : List ℕ). Torn 0 1 l new) is torn) in
      ⊎_elim
      (λ open_gate. inr (inr (gates.1 ∙ ap (λ (g : ℕ). g ∷ text) (open_is gates.0 text open_gate))))
      (λ shut. inr (inl (ap sealed_of gates.1 ∙ blank_from (gates.0 ∷ text) shut)))
      (cases_Bool (is_open (gates.0 ∷ text)))

  pub gate_made : (mid new : List ℕ) → mid ≡ CLOSED ∷ text → Written 0 (OPEN ∷ []) mid new → Makes text old new
  gate_made mid new is written = written_gate [] CLOSED 0 refl text OPEN new (subst (λ (l : List ℕ). Written 0 (OPEN ∷ []) l new) is written)

-- what stands behind the first gate follows the rest of the text
pub text_is : (generation gate : ℕ) (rest : List ℕ) → area_text generation gate [] ++ rest ≡ area_text generation gate rest
unfolding area_text
text_is generation gate rest = append_assoc (MAGIC ++ to_be_bytes w64 generation) (gate ∷ []) rest

-- A whole head is the front of an area with no batch yet.
module _ (head : List ℕ) (generation : ℕ) (long : length head ≡ 17) (is_open_head : is_open head ≡ true)
    (magic : bytes_eq (take 8 (drop 1 head)) MAGIC ≡ true) (number : spelled_number (drop 9 head) ≡ generation) (some : 1 ≤ generation) where
  more : (k : ℕ) (rest : List ℕ) → k ≤ 17 → drop k (head ++ rest) ≡ drop k head ++ rest
  more k rest le = drop-append-le k head rest (omega (arith, long))

  pub head_front : IsFront generation 17 head []
  head_front = λ gate rest.
      let all = drop 1 (head ++ gate ∷ rest) in
      let one : drop 1 (head ++ gate ∷ rest) ≡ drop 1 head ++ gate ∷ rest = more 1 (gate ∷ rest) (omega arith) in
      let nine : drop 8 all ≡ drop 9 head ++ gate ∷ rest = drop-drop 8 1 (head ++ gate ∷ rest) ∙ more 9 (gate ∷ rest) (omega arith) in
      let seventeen : drop 8 (drop 8 all) ≡ gate ∷ rest =
      drop-drop 8 8 all ∙ drop-drop 16 1 (head ++ gate ∷ rest) ∙ drop_at head (gate ∷ rest) 17 long in
      let is_magic : bytes_eq (take 8 all) MAGIC ≡ true =
      ap (λ (l : List ℕ). bytes_eq (take 8 l) MAGIC) one ∙ ap (λ (l : List ℕ). bytes_eq l MAGIC) (take-append-le 8 (drop 1 head) (gate ∷ rest) (omega (arith, long, length-drop 1 head))) ∙ magic in
      let is_number : spelled_number (drop 8 all) ≡ generation = ap spelled_number nine ∙ number_front (drop 9 head) (gate ∷ rest) (omega (arith, long, length-drop 9 head)) ∙ number in
      let long_enough : ltb (length (drop 8 all)) 8 ≡ false = le-ltb (length (drop 8 all)) 8 (omega (arith, ap length nine, length-append (drop 9 head) (gate ∷ rest), long, length-drop 9 head)) in
      let not_zero : eqb (spelled_number (drop 8 all)) 0 ≡ false = ne_eqb (spelled_number (drop 8 all)) 0 (λ zero. absurd (omega (arith, zero, is_number, some))) in
      cond-true (is_open (head ++ gate ∷ rest)) _ _ (head_open gate rest)
      ∙ cond-true (bytes_eq (take 8 all) MAGIC) _ _ is_magic
      ∙ cond-false (ltb (length (drop 8 all)) 8 || eqb (spelled_number (drop 8 all)) 0) _ _ (or_from _ _ long_enough not_zero)
      ∙ ap (λ (n : ℕ). opened n (batches_at 17 0 (drop 8 (drop 8 all)))) is_number
      ∙ ap (λ (l : List ℕ). opened generation (batches_at 17 0 l)) seventeen
      ∙ ap (λ r. opened generation r) (sym (no_front (batches_at 17 0 (gate ∷ rest))))
    where
      open_more : (bytes tail : List ℕ) → 2 ≤ length bytes → is_open (bytes ++ tail) ≡ is_open bytes
      open_more [] tail le = absurd (omega arith)
      open_more (a ∷ []) tail le = absurd (omega arith)
      open_more (a ∷ b ∷ bytes) tail le = refl

      head_open : (gate : ℕ) (rest : List ℕ) → is_open (head ++ gate ∷ rest) ≡ true
      head_open gate rest = open_more head (gate ∷ rest) (omega (arith, long)) ∙ is_open_head

      no_front : (r : Result BatchList ℕ) → with_front [] r ≡ r
      no_front (Ok batches) = refl
      no_front (Err place) = refl

-- the front of an area that was made
module _ (generation : ℕ) (small : generation < 2 ^ 64) (some : 1 ≤ generation) where
  pub made_front : IsFront generation 17 (OPEN ∷ (MAGIC ++ to_be_bytes w64 generation)) []
  unfolding spelled_number
  made_front = head_front (OPEN ∷ (MAGIC ++ to_be_bytes w64 generation)) generation refl refl refl (from_be_bytes-to_be_bytes_8 generation small) some

  pub made_text : (gate : ℕ) (rest : List ℕ) → OPEN ∷ area_text generation gate rest ≡ (OPEN ∷ (MAGIC ++ to_be_bytes w64 generation)) ++ gate ∷ rest
  unfolding area_text
  made_text gate rest = refl
