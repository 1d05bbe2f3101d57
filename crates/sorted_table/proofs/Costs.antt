-- One step of a halving.
--     taken            with one step more, half as much lies ahead
--     one_more         one step before a halving
--     steps_within     a bound on the steps themselves
use Rattle.std.proofs.Common.{◌≡◌, ℕ, ◌+◌, ◌-◌, ◌*◌, ◌^◌, ◌<◌, ◌≤◌, suc, arith, le_trans, pow-suc, mul_assoc, mul-le-mul_left, le-mul_of_pos_right, lt_of_not-le, pow_mono}

twice : (p s half n : ℕ) → p * s ≤ n → 0 < s → 2 * half ≤ s → (p * 2 * half ≤ n) × (p * 2 ≤ 2 * n + 1)
twice p s half n h z l =
    let most : p * (2 * half) ≤ p * s = mul-le-mul_left p l in
    let least : p ≤ p * s = le-mul_of_pos_right p z in
    (rw mul_assoc (le_trans most h), omega arith)

-- with one step more, half as much lies ahead
pub taken : (old now new n s half : ℕ) → old ≤ now → new ≡ now + 1 → 2 ^ (now - old) * s ≤ n → 0 < s → 2 * half ≤ s
    → (2 ^ (new - old) * half ≤ n) × (2 ^ (new - old) ≤ 2 * n + 1)
taken old now new n s half le e h z l =
    let later : new - old ≡ suc (now - old) = omega arith in
    rw (later, pow-suc) (twice (2 ^ (now - old)) s half n h z l)

-- one comparison before a halving of all but one
pub one_more : (old now new n : ℕ) → now ≡ old + 1 → now ≤ new → 2 ^ (new - now) ≤ 2 * (n - 1) + 1 → 0 < n → 2 ^ (new - old) ≤ 4 * n + 2
one_more old now new n e le h z =
    let later : new - old ≡ suc (new - now) = omega arith in
    rw (later, pow-suc) (omega arith)

-- what two to the power of the steps stays under bounds the steps
pub steps_within : (steps bound most : ℕ) → 2 ^ steps ≤ bound → bound < 2 ^ (most + 1) → steps ≤ most
steps_within steps bound most h l =
    let below : steps < most + 1 = lt_of_not-le (λ (k : most + 1 ≤ steps). omega (arith, pow_mono k)) in
    omega arith

-- among a thousand entries
pub eleven : (old new n : ℕ) → 2 ^ (new - old) ≤ 4 * n + 2 → n ≤ 1000 → new ≤ old + 11
eleven old new n h l =
    let few : new - old ≤ 11 = steps_within (new - old) (4 * n + 2) 11 h (omega arith) in
    omega arith
