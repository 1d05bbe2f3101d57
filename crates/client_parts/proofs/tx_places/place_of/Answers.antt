use Rattle.std.proofs.Common.{◌≡◌, ℕ, ◌<◌, ◌≤◌, ◌+◌, ◌-◌, ◌/◌, List, length, get_or, arith, sym, ◌∙◌}
use Rattle.client_seats.specs.ClientStates.{ClientTx}
use Rattle.scope_desk.specs.Rising.{IsRisingFrom}
use Rattle.client_parts.proofs.Rising.{in_order}
use Rattle.client_parts.proofs.Places.{numbers, length_numbers, number_at, found_at, found_nowhere}
use Rattle.client_parts.proofs.tx_places.place_of.Goals as goal

-- the numbers up to the middle are at most the one there, those from it on at least
up_to : (ts : List ClientTx) (m : ℕ) (t : ClientTx) → IsRisingFrom 0 (numbers ts) → m < length ts → t ≡ get_or ts m t → (k : ℕ) → k ≤ m → get_or (numbers ts) k 0 ≤ t.number
up_to ts m t r l e k h =
    let n : length (numbers ts) ≡ length ts = length_numbers ts in
    let at : get_or (numbers ts) m 0 ≡ t.number = number_at ts m t l e in
    omega (arith, at, in_order 0 (numbers ts) r k m h (omega (arith, n)))

from : (ts : List ClientTx) (m : ℕ) (t : ClientTx) → IsRisingFrom 0 (numbers ts) → m < length ts → t ≡ get_or ts m t → (k : ℕ) → m ≤ k → k < length ts → t.number ≤ get_or (numbers ts) k 0
from ts m t r l e k h w =
    let n : length (numbers ts) ≡ length ts = length_numbers ts in
    let at : get_or (numbers ts) m 0 ≡ t.number = number_at ts m t l e in
    omega (arith, at, in_order 0 (numbers ts) r m k h (omega (arith, n)))

pub returns-then-here-number : goal.returns-then-here-number
returns-then-here-number c =
    let middle = c.loop-low.low + (c.loop-low.high - c.loop-low.low) / 2 in
    let within : middle < length c.args.txs.now.items = omega arith in
    sym (found_at c.args.number c.args.txs.now.items middle 0 c.requires within (number_at c.args.txs.now.items middle c.index.result.now within c.index.ensures ∙ sym c.number-here.ensures ∙ c.if-here-number.true))

pub loop-low-preserved-then-here-number-2 : goal.loop-low-preserved-then-here-number-2
loop-low-preserved-then-here-number-2 c =
    let middle = c.loop-low.low + (c.loop-low.high - c.loop-low.low) / 2 in
    let within : middle < length c.args.txs.now.items = omega arith in
    let low : (k : ℕ) → k ≤ middle → get_or (numbers c.args.txs.now.items) k 0 ≤ c.index.result.now.number = up_to c.args.txs.now.items middle c.index.result.now c.requires within c.index.ensures in
    record {
      ordered = omega arith;
      within = omega arith;
      before = λ k h. omega (arith, low k (omega arith), c.number-here.ensures, c.if-here-number-2.true);
      behind = c.loop-low.invariant.behind;
    }

above : (a b : ℕ) → (a ≡ b → ⊥) → (a < b → ⊥) → b < a
above a b f g = omega arith

pub loop-low-preserved : goal.loop-low-preserved
loop-low-preserved c =
    let middle = c.loop-low.low + (c.loop-low.high - c.loop-low.low) / 2 in
    let within : middle < length c.args.txs.now.items = omega arith in
    let high : (k : ℕ) → middle ≤ k → k < length c.args.txs.now.items → c.index.result.now.number ≤ get_or (numbers c.args.txs.now.items) k 0 = from c.args.txs.now.items middle c.index.result.now c.requires within c.index.ensures in
    record {
      ordered = omega arith;
      within = omega arith;
      before = c.loop-low.invariant.before;
      behind = λ k h w. omega (arith, high k h w, c.number-here.ensures, c.if-here-number.false, c.if-here-number-2.false);
    }

apart : (low high k m n : ℕ) → (k < low → m < n) → (high ≤ k → n < m) → high ≤ low → m ≡ n → ⊥
apart low high k m n f g h e = grind arith

pub returns : goal.returns
returns c = sym (found_nowhere c.args.number c.args.txs.now.items
    (λ k l. apart c.loop-low.low c.loop-low.high k _ c.args.number (c.loop-low.invariant.before k) (λ h. c.loop-low.invariant.behind k h l) (omega arith)))
