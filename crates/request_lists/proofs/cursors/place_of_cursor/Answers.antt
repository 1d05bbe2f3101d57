use Rattle.std.proofs.Common.{◌≡◌, ℕ, ◌<◌, ◌≤◌, ◌+◌, ◌-◌, ◌/◌, length, arith, sym, ◌∙◌}
use Rattle.request_lists.proofs.Numbered.{number_at, up_to, from, found_at, found_nowhere}
use Rattle.request_lists.proofs.cursors.place_of_cursor.Goals as goal

middle_within : (low high n : ℕ) → low < high → high ≤ n → low + (high - low) / 2 < n
middle_within low high n l h = omega arith

pub returns-then-here-number : goal.returns-then-here-number
returns-then-here-number g c =
    let within = middle_within c.loop-low.low c.loop-low.high (length c.args.cursors.now) c.loop-low-test.true c.loop-low.invariant.within in
    sym (found_at c.args.number c.args.cursors.now _ c.args.next c.requires within (number_at c.args.cursors.now _ c.index-cursors-middle.result within ∙ c.if-here-number.true))

pub loop-low-preserved-then-here-number-2 : goal.loop-low-preserved-then-here-number-2
loop-low-preserved-then-here-number-2 g c =
    let within = middle_within c.loop-low.low c.loop-low.high (length c.args.cursors.now) c.loop-low-test.true c.loop-low.invariant.within in
    record {
      ordered = omega arith;
      within = c.loop-low.invariant.within;
      before = λ k h. omega (arith, up_to c.args.cursors.now _ c.args.next c.index-cursors-middle.result c.requires within k (omega arith), c.if-here-number-2.true);
      behind = c.loop-low.invariant.behind;
    }

pub loop-low-preserved : goal.loop-low-preserved
loop-low-preserved g c =
    let within = middle_within c.loop-low.low c.loop-low.high (length c.args.cursors.now) c.loop-low-test.true c.loop-low.invariant.within in
    record {
      ordered = omega arith;
      within = omega (arith, within);
      before = c.loop-low.invariant.before;
      behind = λ k h w. omega (arith, from c.args.cursors.now _ c.args.next c.index-cursors-middle.result c.requires within k h w, c.if-here-number.false, c.if-here-number-2.false);
    }

apart : (low high k m n : ℕ) → (k < low → m < n) → (high ≤ k → n < m) → high ≤ low → m ≡ n → ⊥
apart low high k m n f g h e = grind arith

pub returns : goal.returns
returns g c = sym (found_nowhere c.args.number c.args.cursors.now
    (λ k l. apart c.loop-low.low c.loop-low.high k _ c.args.number (c.loop-low.invariant.before k) (λ h. c.loop-low.invariant.behind k h l) (omega arith)))
