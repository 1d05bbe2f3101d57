use Rattle.std.proofs.Common.{◌≡◌, ◌+◌, ◌≤◌, length}
use Rattle.std.specs.Str.{IsUtf8}
use Rattle.std.specs.Str.Iter.{chars_rest}
use Rattle.key_order.specs.KeyOrder.{code_units}
use Rattle.key_paths.proofs.evaluation.count_code_units.Given as goal

-- what is left is text, and has the other code units
abbrev pub invariant-loop-c : goal.invariant-loop-c
invariant-loop-c l = record {
  is_text : IsUtf8 (chars_rest l.rest);
  counted : l.count + length (code_units (chars_rest l.rest)) ≡ length (code_units l.s);
  within : l.count + length (chars_rest l.rest) ≤ length l.s;
}
