-- The order of texts by code units, character by character, and where it differs from that of UTF-8 bytes.
--     text_cmp-encodes      for two texts: by the places of their characters
--     bytes_differ          where the two orders differ
use Rattle.std.proofs.Common.{◌≡◌, ◌≢◌, ℕ, ◌+◌, ◌-◌, ◌/◌, ◌%◌, ◌<◌, ◌≤◌, ◌⊎◌, inl, inr, true, nat_lt, List, [], ◌∷◌, ◌++◌, refl, sym, ◌∙◌, ap, arith, append_assoc}
use Rattle.std.proofs.lemmas.Grind.{common_steps}
use Rattle.std.specs.declared.cmp.Ordering.{Ordering}
use Rattle.std.specs.declared.cmp.Ordering.TheVariants.{Less, Equal, Greater}
use Rattle.std.specs.Ordering.{nat_cmp, ordering_then, ordering_reverse, on}
use Rattle.std.specs.Cmp.Lexicographic.{slice_cmp}
use Rattle.std.specs.List.{flat_map}
use Rattle.std.specs.Char.Escape.{encode_utf16}
use Rattle.std.specs.Str.{chars, IsUtf8, all_scalars, encode_utf8_all}
use Rattle.std.specs.Char.{encode_utf8}
use Rattle.std.proofs.lemmas.Str.{chars-encodes}
use Rattle.std.proofs.lemmas.Cmp.{ranked, by_ranked}
use Rattle.std.specs.Cmp.{nat_cmp_is, first_so, second_so}
use Rattle.std.proofs.lemmas.Cmp.{nat_list_cmp_total, tied_itself}
use Rattle.std.specs.FinMap.{nat_cmp-IsAntisymmetric}
use Rattle.key_order.proofs.TotalOrder.{then_equal}
use Rattle.std.proofs.lemmas.Bool.{cond_both}
use Rattle.std.proofs.Common.{ltb-true, ltb-false}
use lib.Utf8.{scalar, scalar_cases}
use Rattle.key_order.specs.KeyOrder.{code_units, text_cmp, char_rank, DifferAt, SurrogateMeetsHigh}

-- ---- numbers
pub less : (x y : ℕ) → x < y → nat_cmp x y ≡ Less
less x y h = sym (nat_cmp_is x y Less h)

pub greater : (x y : ℕ) → y < x → nat_cmp x y ≡ Greater
greater x y h = sym (nat_cmp_is x y Greater h)

pub tied : (x y : ℕ) → x ≡ y → nat_cmp x y ≡ Equal
tied x y h = sym (nat_cmp_is x y Equal h)

pub three : {G : Type 0} (x y : ℕ) → (x < y → G) → (x ≡ y → G) → (y < x → G) → G
three x y f g h = by_ranked (x < y) (x ≡ y) (y < x) (nat_cmp x y) (ranked x y (nat_cmp x y) refl) (λ _. f) (λ _. g) (λ _. h)

pub alike : (x y u v : ℕ) → (x < y → u < v) → (x ≡ y → u ≡ v) → (y < x → v < u) → nat_cmp x y ≡ nat_cmp u v
alike x y u v f g h = three x y (λ p. less x y p ∙ sym (less u v (f p))) (λ p. tied x y p ∙ sym (tied u v (g p))) (λ p. greater x y p ∙ sym (greater u v (h p)))

-- ---- the places of characters
bmp_rise : (c d : ℕ) → c < 65536 → d < 65536 → char_rank c < char_rank d → c < d
bmp_rise c d h g p = grind (arith, common_steps)

low_rise : (c d : ℕ) → (c < 55296) ⊎ ((57344 ≤ c) × (c < 1114112)) → c < 65536 → 65536 ≤ d → d < 1114112 → char_rank c < char_rank d → c < 55296
low_rise c d s h g k p = grind (arith, common_steps)

high_rise : (c d : ℕ) → 65536 ≤ c → d < 65536 → char_rank c < char_rank d → 57344 ≤ d
high_rise c d h g p = grind (arith, common_steps)

above_rise : (c d : ℕ) → 65536 ≤ c → 65536 ≤ d → char_rank c < char_rank d → c < d
above_rise c d h g p = grind (arith, common_steps)

rank_same_by : (c d : ℕ) → c < 1114112 → d < 1114112 → char_rank c ≡ char_rank d → c ≡ d
rank_same_by c d h g p = grind (arith, common_steps)

pub below_end : (c : ℕ) → scalar c ≡ true → c < 1114112
below_end c h = elim (scalar_cases c h) [ inl p ↦ omega arith | inr p ↦ p.1 ]

-- ---- lists of which the first is less at the first place where they differ
abbrev pub Rises : List ℕ → List ℕ → Type 0
Rises [] vs = ⊥
Rises (u ∷ us) [] = ⊥
Rises (u ∷ us) (v ∷ vs) = (u < v) ⊎ ((u ≡ v) × Rises us vs)

decided : (us vs r t : List ℕ) → Rises us vs → slice_cmp nat_cmp (us ++ r) (vs ++ t) ≡ Less
decided [] vs r t h = absurd h
decided (u ∷ us) [] r t h = absurd h
decided (u ∷ us) (v ∷ vs) r t (inl p) = ap (λ o. ordering_then o (slice_cmp nat_cmp (us ++ r) (vs ++ t))) (less u v p)
decided (u ∷ us) (v ∷ vs) r t (inr p) = ap (λ o. ordering_then o (slice_cmp nat_cmp (us ++ r) (vs ++ t))) (tied u v p.0) ∙ decided us vs r t p.1

longer : (us vs r t : List ℕ) → Rises us vs → Rises (us ++ r) (vs ++ t)
longer [] vs r t h = absurd h
longer (u ∷ us) [] r t h = absurd h
longer (u ∷ us) (v ∷ vs) r t (inl p) = inl p
longer (u ∷ us) (v ∷ vs) r t (inr p) = inr (p.0, longer us vs r t p.1)

after_same : (w r t : List ℕ) → Rises r t → Rises (w ++ r) (w ++ t)
after_same [] r t h = h
after_same (u ∷ w) r t h = inr (refl, after_same w r t h)

common : (w r t : List ℕ) → slice_cmp nat_cmp (w ++ r) (w ++ t) ≡ slice_cmp nat_cmp r t
common [] r t = refl
common (u ∷ w) r t = ap (λ o. ordering_then o (slice_cmp nat_cmp (w ++ r) (w ++ t))) (tied u u refl) ∙ common w r t

-- a code of characters that keeps the order of their places keeps that of texts
module _ (e : ℕ → List ℕ) (place : ℕ → ℕ) (rises : (c d : ℕ) → scalar c ≡ true → scalar d ≡ true → place c < place d → Rises (e c) (e d))
    (same : (c d : ℕ) → scalar c ≡ true → scalar d ≡ true → place c ≡ place d → c ≡ d) (some : (c : ℕ) (r : List ℕ) → slice_cmp nat_cmp [] (e c ++ r) ≡ Less) where
  pub keeps_order : (cs ds : List ℕ) → all_scalars cs ≡ true → all_scalars ds ≡ true → slice_cmp nat_cmp (flat_map e cs) (flat_map e ds) ≡ slice_cmp (on place nat_cmp) cs ds
  keeps_order [] [] h g = refl
  keeps_order [] (d ∷ ds) h g = some d (flat_map e ds)
  keeps_order (c ∷ cs) [] h g = nat_list_cmp_total.antisymm (e c ++ flat_map e cs) [] ∙ ap ordering_reverse (some c (flat_map e cs))
  keeps_order (c ∷ cs) (d ∷ ds) h g =
      let hc = first_so (scalar c) (all_scalars cs) h in
      let gd = first_so (scalar d) (all_scalars ds) g in
      let rest = keeps_order cs ds (second_so (scalar c) (all_scalars cs) h) (second_so (scalar d) (all_scalars ds) g) in
      three (place c) (place d)
      (λ p. decided (e c) (e d) _ _ (rises c d hc gd p) ∙ ap (λ o. ordering_then o (slice_cmp (on place nat_cmp) cs ds)) (sym (less _ _ p)))
      (λ p. ap (λ w. slice_cmp nat_cmp (e c ++ flat_map e cs) (e w ++ flat_map e ds)) (sym (same c d hc gd p)) ∙ common (e c) _ _ ∙ rest ∙ ap (λ o. ordering_then o (slice_cmp (on place nat_cmp) cs ds)) (sym (tied _ _ p)))
      (λ p. nat_list_cmp_total.antisymm (e c ++ flat_map e cs) (e d ++ flat_map e ds) ∙ ap ordering_reverse (decided (e d) (e c) (flat_map e ds) (flat_map e cs) (rises d c gd hc p)) ∙ ap (λ o. ordering_then o (slice_cmp (on place nat_cmp) cs ds)) (sym (greater _ _ p)))

-- ---- code units
abbrev high_unit : ℕ → ℕ
high_unit c = 55296 + (c - 65536) / 1024

abbrev low_unit : ℕ → ℕ
low_unit c = 56320 + (c - 65536) % 1024

pair_rise : (c d : ℕ) → 65536 ≤ c → 65536 ≤ d → c < d → Rises (high_unit c ∷ low_unit c ∷ []) (high_unit d ∷ low_unit d ∷ [])
pair_rise c d h g p = three ((c - 65536) / 1024) ((d - 65536) / 1024) (λ q. inl (omega arith)) (λ q. let low : low_unit c < low_unit d = omega arith in inr (omega arith, inl low)) (λ q. absurd (omega arith))

units_rise : (c d : ℕ) → scalar c ≡ true → scalar d ≡ true → char_rank c < char_rank d → Rises (encode_utf16 c) (encode_utf16 d)
units_rise c d h g p = cond_both (nat_lt c 65536) _ _ (λ us. Rises us (encode_utf16 d))
    (λ e. cond_both (nat_lt d 65536) _ _ (λ vs. Rises (c ∷ []) vs)
    (λ f. inl (bmp_rise c d (ltb-true c 65536 e) (ltb-true d 65536 f) p))
    (λ f. let low : c < 55296 = low_rise c d (scalar_cases c h) (ltb-true c 65536 e) (ltb-false d 65536 f) (below_end d g) p in inl (omega arith)))
    (λ e. cond_both (nat_lt d 65536) _ _ (λ vs. Rises (high_unit c ∷ low_unit c ∷ []) vs)
    (λ f. let high : 57344 ≤ d = high_rise c d (ltb-false c 65536 e) (ltb-true d 65536 f) p in let end : c < 1114112 = below_end c h in inl (omega arith))
    (λ f. pair_rise c d (ltb-false c 65536 e) (ltb-false d 65536 f) (above_rise c d (ltb-false c 65536 e) (ltb-false d 65536 f) p)))

pub rank_same : (c d : ℕ) → scalar c ≡ true → scalar d ≡ true → char_rank c ≡ char_rank d → c ≡ d
rank_same c d h g p = rank_same_by c d (below_end c h) (below_end d g) p

some_unit : (c : ℕ) (r : List ℕ) → slice_cmp nat_cmp [] (encode_utf16 c ++ r) ≡ Less
some_unit c r = cond_both (nat_lt c 65536) _ _ (λ u. slice_cmp nat_cmp [] (u ++ r) ≡ Less) (λ _. refl) (λ _. refl)

-- ---- bytes
digits : (F : ℕ → List ℕ) → ((x y : ℕ) → x < y → Rises (F x) (F y)) → (c d : ℕ) → c < d → Rises (F (c / 64) ++ (128 + c % 64) ∷ []) (F (d / 64) ++ (128 + d % 64) ∷ [])
digits F f c d p = three (c / 64) (d / 64) (λ q. longer _ _ _ _ (f _ _ q)) (λ q. let last : c % 64 < d % 64 = omega arith in let end : 128 + c % 64 < 128 + d % 64 = omega arith in rw q (after_same (F (d / 64)) ((128 + c % 64) ∷ []) ((128 + d % 64) ∷ []) (inl end))) (λ q. absurd (omega arith))

pub encode_cases : (G : List ℕ → Type 0) (c : ℕ) → (c < 128 → G (c ∷ [])) → (128 ≤ c → c < 2048 → G ((192 + c / 64) ∷ (128 + c % 64) ∷ []))
    → (2048 ≤ c → c < 65536 → G ((224 + c / 4096) ∷ (128 + (c / 64) % 64) ∷ (128 + c % 64) ∷ []))
    → (65536 ≤ c → G ((240 + c / 262144) ∷ (128 + (c / 4096) % 64) ∷ (128 + (c / 64) % 64) ∷ (128 + c % 64) ∷ [])) → G (encode_utf8 c)
unfolding encode_utf8
encode_cases G c one two three four = cond_both (nat_lt c 128) _ _ G (λ e. one (ltb-true c 128 e)) (λ e. cond_both (nat_lt c 2048) _ _ G (λ f. two (ltb-false c 128 e) (ltb-true c 2048 f))
    (λ f. cond_both (nat_lt c 65536) _ _ G (λ k. three (ltb-false c 2048 f) (ltb-true c 65536 k)) (λ k. four (ltb-false c 65536 k))))

-- the leading byte, and the further ones
two_bytes : (c d : ℕ) → c < d → Rises ((192 + c / 64) ∷ (128 + c % 64) ∷ []) ((192 + d / 64) ∷ (128 + d % 64) ∷ [])
two_bytes c d p = digits (λ x. (192 + x) ∷ []) (λ x y q. inl (omega arith)) c d p

three_bytes : (c d : ℕ) → c < d → Rises ((224 + c / 4096) ∷ (128 + (c / 64) % 64) ∷ (128 + c % 64) ∷ []) ((224 + d / 4096) ∷ (128 + (d / 64) % 64) ∷ (128 + d % 64) ∷ [])
three_bytes c d p =
    let ec : c / 64 / 64 ≡ c / 4096 = omega arith in
    let ed : d / 64 / 64 ≡ d / 4096 = omega arith in
    rw (← ec, ← ed) (digits (λ y. (224 + y / 64) ∷ (128 + y % 64) ∷ []) (digits (λ x. (224 + x) ∷ []) (λ x y q. inl (omega arith))) c d p)

four_bytes : (c d : ℕ) → c < d
    → Rises ((240 + c / 262144) ∷ (128 + (c / 4096) % 64) ∷ (128 + (c / 64) % 64) ∷ (128 + c % 64) ∷ []) ((240 + d / 262144) ∷ (128 + (d / 4096) % 64) ∷ (128 + (d / 64) % 64) ∷ (128 + d % 64) ∷ [])
four_bytes c d p =
    let ec : c / 64 / 64 ≡ c / 4096 = omega arith in
    let ed : d / 64 / 64 ≡ d / 4096 = omega arith in
    let kc : c / 4096 / 64 ≡ c / 262144 = omega arith in
    let kd : d / 4096 / 64 ≡ d / 262144 = omega arith in
    rw (← kc, ← kd, ← ec, ← ed) (digits (λ z. (240 + z / 64 / 64) ∷ (128 + (z / 64) % 64) ∷ (128 + z % 64) ∷ [])
    (digits (λ y. (240 + y / 64) ∷ (128 + y % 64) ∷ []) (digits (λ x. (240 + x) ∷ []) (λ x y q. inl (omega arith)))) c d p)

pub bytes_rise : (c d : ℕ) → scalar c ≡ true → scalar d ≡ true → c < d → Rises (encode_utf8 c) (encode_utf8 d)
bytes_rise c d h g p = encode_cases (λ us. Rises us (encode_utf8 d)) c
    (λ c1. encode_cases (λ vs. Rises (c ∷ []) vs) d (λ d1. inl p) (λ d1 d2. inl (omega arith)) (λ d2 d3. inl (omega arith)) (λ d3. inl (omega arith)))
    (λ c1 c2. encode_cases (λ vs. Rises ((192 + c / 64) ∷ (128 + c % 64) ∷ []) vs) d (λ d1. absurd (omega arith)) (λ d1 d2. two_bytes c d p) (λ d2 d3. inl (omega arith)) (λ d3. inl (omega arith)))
    (λ c2 c3. encode_cases (λ vs. Rises ((224 + c / 4096) ∷ (128 + (c / 64) % 64) ∷ (128 + c % 64) ∷ []) vs) d
    (λ d1. absurd (omega arith)) (λ d1 d2. absurd (omega arith)) (λ d2 d3. three_bytes c d p) (λ d3. inl (omega arith)))
    (λ c3. encode_cases (λ vs. Rises ((240 + c / 262144) ∷ (128 + (c / 4096) % 64) ∷ (128 + (c / 64) % 64) ∷ (128 + c % 64) ∷ []) vs) d
    (λ d1. absurd (omega arith)) (λ d1 d2. absurd (omega arith)) (λ d2 d3. absurd (omega arith)) (λ d3. four_bytes c d p))

some_byte : (c : ℕ) (r : List ℕ) → slice_cmp nat_cmp [] (encode_utf8 c ++ r) ≡ Less
some_byte c r = encode_cases (λ u. slice_cmp nat_cmp [] (u ++ r) ≡ Less) c (λ _. refl) (λ _ _. refl) (λ _ _. refl) (λ _. refl)

-- ---- texts
pub encodes_flat : (cs : List ℕ) → encode_utf8_all cs ≡ flat_map encode_utf8 cs
encodes_flat [] = refl
encodes_flat (c ∷ cs) = ap (λ r. encode_utf8 c ++ r) (encodes_flat cs)

same_chars : (cs ds : List ℕ) → all_scalars cs ≡ true → all_scalars ds ≡ true → slice_cmp (on char_rank nat_cmp) cs ds ≡ Equal → cs ≡ ds
same_chars [] [] h g e = refl
same_chars [] (d ∷ ds) h g e = cc
same_chars (c ∷ cs) [] h g e = cc
same_chars (c ∷ cs) (d ∷ ds) h g e =
    let both = then_equal (nat_cmp (char_rank c) (char_rank d)) (slice_cmp (on char_rank nat_cmp) cs ds) e in
    let first : c ≡ d = rank_same c d (first_so (scalar c) (all_scalars cs) h) (first_so (scalar d) (all_scalars ds) g) (nat_cmp-IsAntisymmetric (char_rank c) (char_rank d) both.0) in
    let rest : cs ≡ ds = same_chars cs ds (second_so (scalar c) (all_scalars cs) h) (second_so (scalar d) (all_scalars ds) g) both.1 in
    cc

needless : (a b : Ordering) → (a ≡ Equal → b ≡ Equal) → ordering_then a b ≡ a
needless Less b f = refl
needless Equal b f = f refl
needless Greater b f = refl

pub text_cmp-encodes : (cs ds : List ℕ) → all_scalars cs ≡ true → all_scalars ds ≡ true
    → text_cmp (encode_utf8_all cs) (encode_utf8_all ds) ≡ slice_cmp (on char_rank nat_cmp) (chars (encode_utf8_all cs)) (chars (encode_utf8_all ds))
text_cmp-encodes cs ds h g =
    let bytes : slice_cmp (on char_rank nat_cmp) cs ds ≡ Equal → slice_cmp nat_cmp (encode_utf8_all cs) (encode_utf8_all ds) ≡ Equal =
    λ e. rw (same_chars cs ds h g e) (tied_itself nat_list_cmp_total (encode_utf8_all ds)) in
    rw (chars-encodes cs h, chars-encodes ds g, keeps_order encode_utf16 char_rank units_rise rank_same some_unit cs ds h g) (needless _ _ bytes)

-- ---- where the order of bytes is another
pub cross : (c d : ℕ) → c < d → char_rank d < char_rank c → (57344 ≤ c) × (c < 65536) × (65536 ≤ d)
cross c d p q = grind (arith, common_steps)

abbrev Meets : List ℕ → List ℕ → Type 0
Meets us vs = (u : ℕ) × (v : ℕ) × DifferAt us vs u v × (SurrogateMeetsHigh u v ⊎ SurrogateMeetsHigh v u)

one_unit : (c : ℕ) → c < 65536 → encode_utf16 c ≡ c ∷ []
one_unit c h = grind (arith, common_steps)

two_units : (c : ℕ) → 65536 ≤ c → encode_utf16 c ≡ high_unit c ∷ low_unit c ∷ []
two_units c h = grind (arith, common_steps)

behind : (w us vs : List ℕ) → Meets us vs → Meets (w ++ us) (w ++ vs)
behind w us vs (u, v, (front, rest, others, e, f, n), m) =
    (u, v, (w ++ front, rest, others, ap (λ r. w ++ r) e ∙ sym (append_assoc w front (u ∷ rest)), ap (λ r. w ++ r) f ∙ sym (append_assoc w front (v ∷ others)), n), m)

differ : (cs ds : List ℕ) → all_scalars cs ≡ true → all_scalars ds ≡ true → slice_cmp (on char_rank nat_cmp) cs ds ≢ slice_cmp nat_cmp cs ds → Meets (flat_map encode_utf16 cs) (flat_map encode_utf16 ds)
differ [] [] h g n = absurd (n refl)
differ [] (d ∷ ds) h g n = absurd (n refl)
differ (c ∷ cs) [] h g n = absurd (n refl)
differ (c ∷ cs) (d ∷ ds) h g n =
    let c_end : c < 1114112 = below_end c (first_so (scalar c) (all_scalars cs) h) in
    let d_end : d < 1114112 = below_end d (first_so (scalar d) (all_scalars ds) g) in
    three c d
    (λ p. three (char_rank c) (char_rank d)
    (λ q. absurd (n (ap (λ o. ordering_then o (slice_cmp (on char_rank nat_cmp) cs ds)) (less (char_rank c) (char_rank d) q) ∙ ap (λ o. ordering_then o (slice_cmp nat_cmp cs ds)) (sym (less c d p)))))
    (λ q. let e : c ≡ d = rank_same_by c d c_end d_end q in absurd (omega arith))
    (λ q. let k = cross c d p q in
    (c, high_unit d, ([], flat_map encode_utf16 cs, low_unit d ∷ flat_map encode_utf16 ds, ap (λ w. w ++ flat_map encode_utf16 cs) (one_unit c k.1), ap (λ w. w ++ flat_map encode_utf16 ds) (two_units d k.2), omega arith), inr (omega arith, omega arith, k.0))))
    (λ p. rw p (behind (encode_utf16 d) _ _ (differ cs ds (second_so (scalar c) (all_scalars cs) h) (second_so (scalar d) (all_scalars ds) g)
    (λ e. n (ap (λ o. ordering_then o (slice_cmp (on char_rank nat_cmp) cs ds)) (tied (char_rank c) (char_rank d) (ap char_rank p)) ∙ e ∙ ap (λ o. ordering_then o (slice_cmp nat_cmp cs ds)) (sym (tied c d p)))))))
    (λ p. three (char_rank d) (char_rank c)
    (λ q. absurd (n (ap (λ o. ordering_then o (slice_cmp (on char_rank nat_cmp) cs ds)) (greater (char_rank c) (char_rank d) q) ∙ ap (λ o. ordering_then o (slice_cmp nat_cmp cs ds)) (sym (greater c d p)))))
    (λ q. let e : d ≡ c = rank_same_by d c d_end c_end q in absurd (omega arith))
    (λ q. let k = cross d c p q in
    (high_unit c, d, ([], low_unit c ∷ flat_map encode_utf16 cs, flat_map encode_utf16 ds, ap (λ w. w ++ flat_map encode_utf16 cs) (two_units c k.2), ap (λ w. w ++ flat_map encode_utf16 ds) (one_unit d k.1), omega arith), inl (omega arith, omega arith, k.0))))

differ_encodes : (cs ds : List ℕ) → all_scalars cs ≡ true → all_scalars ds ≡ true → text_cmp (encode_utf8_all cs) (encode_utf8_all ds) ≢ slice_cmp nat_cmp (encode_utf8_all cs) (encode_utf8_all ds)
    → Meets (code_units (encode_utf8_all cs)) (code_units (encode_utf8_all ds))
differ_encodes cs ds h g n =
    let by_chars : slice_cmp nat_cmp (encode_utf8_all cs) (encode_utf8_all ds) ≡ slice_cmp nat_cmp cs ds =
    rw (encodes_flat cs, encodes_flat ds) (keeps_order encode_utf8 (λ c. c) bytes_rise (λ c d _ _ e. e) some_byte cs ds h g) in
    let by_rank : text_cmp (encode_utf8_all cs) (encode_utf8_all ds) ≡ slice_cmp (on char_rank nat_cmp) cs ds =
    text_cmp-encodes cs ds h g ∙ (λ i. slice_cmp (on char_rank nat_cmp) (chars-encodes cs h i) (chars-encodes ds g i)) in
    rw (chars-encodes cs h, chars-encodes ds g) (differ cs ds h g (λ e. n (by_rank ∙ e ∙ sym by_chars)))

pub bytes_differ : (s t : List ℕ) → IsUtf8 s → IsUtf8 t → text_cmp s t ≢ slice_cmp nat_cmp s t
    → (u : ℕ) × (v : ℕ) × DifferAt (code_units s) (code_units t) u v × (SurrogateMeetsHigh u v ⊎ SurrogateMeetsHigh v u)
bytes_differ s t (cs, (h, e)) (ds, (g, f)) = rw (← e, ← f) (differ_encodes cs ds h g)
