-- Lists of bytes by the ranks of the first that differ, and that texts compare so.
--     after_front, at_end   what a common front leaves decides, and at the end of the shorter list the lengths do
--     apart                 two bytes that differ have ranks that differ
--     text_cmp-bytes        two texts compare as their bytes by rank
use Rattle.std.proofs.Common.{◌≡◌, ℕ, zero, suc, ◌+◌, ◌-◌, ◌/◌, ◌<◌, ◌≤◌, min, inl, inr, true, false, not, nat_eq, List, [], ◌∷◌, ◌++◌, length, take, drop, map, refl, sym, ◌∙◌, ap, arith}
use Rattle.std.proofs.lemmas.Grind.{common_steps}
use Rattle.std.proofs.lemmas.List.{map-append}
use Rattle.std.specs.declared.cmp.Ordering.TheVariants.{Less}
use Rattle.std.specs.Ordering.{nat_cmp, ordering_then, on}
use Rattle.std.specs.Cmp.Lexicographic.{slice_cmp, pointwise, bytes_decides}
use Rattle.std.proofs.Math.Seq.{take-add}
use Rattle.std.proofs.lemmas.Bool.{not-false}
use Rattle.std.specs.List.{flat_map}
use Rattle.std.specs.Char.{encode_utf8}
use Rattle.std.specs.Str.{IsUtf8, all_scalars, encode_utf8_all}
use Rattle.std.proofs.lemmas.Str.{chars-encodes}
use lib.Utf8.{scalar}
use Rattle.key_order.specs.KeyOrder.{text_cmp, char_rank, byte_rank}
use Rattle.key_order.proofs.TextOrder.{less, tied, greater, three, alike, cross, below_end, rank_same, Rises, keeps_order, encode_cases, bytes_rise, encodes_flat, text_cmp-encodes}

-- ---- what decides
module _ (rank : ℕ → ℕ) where
  pub after_front : (n : ℕ) (xs ys : List ℕ) → n ≤ length xs → n ≤ length ys → take n xs ≡ take n ys
      → slice_cmp (on rank nat_cmp) (drop n xs) (drop n ys) ≡ slice_cmp (on rank nat_cmp) xs ys
  after_front zero xs ys h g e = refl
  after_front (suc n) [] ys h g e = absurd (omega arith)
  after_front (suc n) (x ∷ xs) [] h g e = absurd (omega arith)
  after_front (suc n) (x ∷ xs) (y ∷ ys) h g e =
      let first : x ≡ y = cc in
      let rest : take n xs ≡ take n ys = cc in
      after_front n xs ys (omega arith) (omega arith) rest ∙ sym (ap (λ o. ordering_then o (slice_cmp (on rank nat_cmp) xs ys)) (tied (rank x) (rank y) (ap rank first)))

  pub at_end : (n : ℕ) (xs ys : List ℕ) → n ≡ min (length xs) (length ys) → nat_cmp (length xs) (length ys) ≡ slice_cmp (on rank nat_cmp) (drop n xs) (drop n ys)
  at_end zero [] [] e = refl
  at_end zero [] (y ∷ ys) e = less 0 (length (y ∷ ys)) (omega arith)
  at_end zero (x ∷ xs) [] e = greater (length (x ∷ xs)) 0 (omega arith)
  at_end zero (x ∷ xs) (y ∷ ys) e = absurd (omega arith)
  at_end (suc n) [] ys e = absurd (omega arith)
  at_end (suc n) (x ∷ xs) [] e = absurd (omega arith)
  at_end (suc n) (x ∷ xs) (y ∷ ys) e = alike (suc (length xs)) (suc (length ys)) (length xs) (length ys) (λ p. omega arith) (λ p. omega arith) (λ p. omega arith) ∙ at_end n xs ys (omega arith)

  mapped : (xs ys : List ℕ) → slice_cmp (on rank nat_cmp) xs ys ≡ slice_cmp nat_cmp (map rank xs) (map rank ys)
  mapped [] [] = refl
  mapped [] (y ∷ ys) = refl
  mapped (x ∷ xs) [] = refl
  mapped (x ∷ xs) (y ∷ ys) = ap (ordering_then (nat_cmp (rank x) (rank y))) (mapped xs ys)

  mapped_all : (e : ℕ → List ℕ) (cs : List ℕ) → map rank (flat_map e cs) ≡ flat_map (λ c. map rank (e c)) cs
  mapped_all e [] = refl
  mapped_all e (c ∷ cs) = map-append rank (e c) (flat_map e cs) ∙ ap (λ r. map rank (e c) ++ r) (mapped_all e cs)

-- ---- ranks of bytes
pub apart : (u v : ℕ) → u < 256 → v < 256 → byte_rank u ≡ byte_rank v → u ≡ v
apart u v h g e = grind (arith, common_steps)

low_rises : (u v : ℕ) → u < 238 → u < v → byte_rank u < byte_rank v
low_rises u v h p = grind (arith, common_steps)

lead_rises : (u v : ℕ) → u < v → (238 ≤ u → u < 240 → v < 240) → byte_rank u < byte_rank v
lead_rises u v p h = grind (arith, common_steps)

lead_falls : (u v : ℕ) → 240 ≤ u → u < 256 → 238 ≤ v → v < 240 → byte_rank u < byte_rank v
lead_falls u v a b c d = grind (arith, common_steps)

abbrev AllLow : List ℕ → Type 0
AllLow [] = Unit {0}
AllLow (b ∷ bs) = (b < 238) × AllLow bs

low_ranked : (us vs : List ℕ) → AllLow us → Rises us vs → Rises (map byte_rank us) (map byte_rank vs)
low_ranked [] vs l h = absurd h
low_ranked (u ∷ us) [] l h = absurd h
low_ranked (u ∷ us) (v ∷ vs) l (inl p) = inl (low_rises u v l.0 p)
low_ranked (u ∷ us) (v ∷ vs) l (inr p) = inr (ap byte_rank p.0, low_ranked us vs l.1 p.1)

-- the first byte of a character, and those behind it
record Led (c : ℕ) (us : List ℕ) : Type 0 where
  lead : ℕ
  more : List ℕ
  is : us ≡ lead ∷ more
  low : AllLow more
  end : lead < 256
  above : 65536 ≤ c → 240 ≤ lead
  not_above : c < 65536 → lead < 240
  high : 57344 ≤ c → 238 ≤ lead
  not_high : c < 57344 → lead < 238

led : (c : ℕ) → c < 1114112 → Led c (encode_utf8 c)
led c h = encode_cases (Led c) c
    (λ a. record { lead = c; more = []; is = refl; low = tt; end = omega arith; above = λ k. omega arith; not_above = λ k. omega arith; high = λ k. omega arith; not_high = λ k. omega arith })
    (λ a b. record { lead = 192 + c / 64; more = _; is = refl; low = (omega arith, tt); end = omega arith; above = λ k. omega arith; not_above = λ k. omega arith; high = λ k. omega arith; not_high = λ k. omega arith })
    (λ a b. record { lead = 224 + c / 4096; more = _; is = refl; low = (omega arith, (omega arith, tt)); end = omega arith; above = λ k. omega arith; not_above = λ k. omega arith; high = λ k. omega arith; not_high = λ k. omega arith })
    (λ a. record { lead = 240 + c / 262144; more = _; is = refl; low = (omega arith, (omega arith, (omega arith, tt))); end = omega arith; above = λ k. omega arith; not_above = λ k. omega arith; high = λ k. omega arith; not_high = λ k. omega arith })

either : {G : Type 0} (x y : ℕ) → (x < y → G) → (y ≤ x → G) → G
either x y f g = three x y f (λ e. g (omega arith)) (λ l. g (omega arith))

ranks_cross : (c d : ℕ) → 57344 ≤ c → c < 65536 → 65536 ≤ d → d < 1114112 → char_rank c < char_rank d → ⊥
ranks_cross c d h g k l p = grind (arith, common_steps)

ranked : (u v : ℕ) (us vs : List ℕ) → AllLow us → (238 ≤ u → u < 240 → v < 240) → Rises (u ∷ us) (v ∷ vs) → Rises (map byte_rank (u ∷ us)) (map byte_rank (v ∷ vs))
ranked u v us vs l g (inl p) = inl (lead_rises u v p g)
ranked u v us vs l g (inr p) = inr (ap byte_rank p.0, low_ranked us vs l p.1)

below_high : {c d : ℕ} {us vs : List ℕ} (x : Led c us) (y : Led d vs) → d < 1114112 → char_rank c < char_rank d → 238 ≤ x.lead → x.lead < 240 → y.lead < 240
below_high {c = c} {d = d} x y e p a b = either c 57344 (λ k. absurd (omega (arith, x.not_high k, a)))
    (λ k. either c 65536 (λ l. either d 65536 y.not_above (λ m. absurd (ranks_cross c d k l m e p))) (λ l. absurd (omega (arith, x.above l, b))))

rank_rises : (c d : ℕ) → scalar c ≡ true → scalar d ≡ true → char_rank c < char_rank d → Rises (map byte_rank (encode_utf8 c)) (map byte_rank (encode_utf8 d))
rank_rises c d h g p =
    let c_end = below_end c h in
    let d_end = below_end d g in
    let x = led c c_end in
    let y = led d d_end in
    three c d
    (λ q. rw (x.is, y.is) (ranked x.lead y.lead x.more y.more x.low (below_high x y d_end p) (rw (x.is, y.is) at (bytes_rise c d h g q))))
    (λ q. absurd (omega (arith, ap char_rank q)))
    (λ q. let k = cross d c q p in rw (x.is, y.is) (inl (lead_falls x.lead y.lead (x.above k.2) x.end (y.high k.0) (y.not_above k.1))))

some_byte : (c : ℕ) (r : List ℕ) → slice_cmp nat_cmp [] (map byte_rank (encode_utf8 c) ++ r) ≡ Less
some_byte c r = encode_cases (λ u. slice_cmp nat_cmp [] (map byte_rank u ++ r) ≡ Less) c (λ _. refl) (λ _ _. refl) (λ _ _. refl) (λ _. refl)

by_bytes : (cs ds : List ℕ) → all_scalars cs ≡ true → all_scalars ds ≡ true → slice_cmp (on byte_rank nat_cmp) (encode_utf8_all cs) (encode_utf8_all ds) ≡ slice_cmp (on char_rank nat_cmp) cs ds
by_bytes cs ds h g = rw (mapped byte_rank (encode_utf8_all cs) (encode_utf8_all ds), encodes_flat cs, encodes_flat ds, mapped_all byte_rank encode_utf8 cs, mapped_all byte_rank encode_utf8 ds)
    (keeps_order (λ c. map byte_rank (encode_utf8 c)) char_rank rank_rises rank_same some_byte cs ds h g)

pub text_cmp-bytes : (s t : List ℕ) → IsUtf8 s → IsUtf8 t → text_cmp s t ≡ slice_cmp (on byte_rank nat_cmp) s t
text_cmp-bytes s t (cs, (h, e)) (ds, (g, f)) = rw (← e, ← f) (text_cmp-encodes cs ds h g ∙ (λ i. slice_cmp (on char_rank nat_cmp) (chars-encodes cs h i) (chars-encodes ds g i)) ∙ sym (by_bytes cs ds h g))

-- ---- blocks
pub longer_front : (n k : ℕ) (xs ys : List ℕ) → take n xs ≡ take n ys → not (pointwise nat_eq (take (n + k - n) (drop n xs)) (take (n + k - n) (drop n ys))) ≡ false → take (n + k) xs ≡ take (n + k) ys
longer_front n k xs ys e h =
    let len : n + k - n ≡ k = omega arith in
    let block = (bytes_decides (take (n + k - n) (drop n xs)) (take (n + k - n) (drop n ys))).0 (not-false _ h) in
    let more : take k (drop n xs) ≡ take k (drop n ys) = rw len at block in
    take-add n k xs ∙ (λ i. e i ++ more i) ∙ sym (take-add n k ys)
