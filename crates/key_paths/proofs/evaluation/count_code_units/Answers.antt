use Rattle.std.proofs.Common.{length, ap, arith}
use Rattle.std.specs.List.{flat_map}
use Rattle.std.specs.Char.Escape.{encode_utf16}
use Rattle.clone_values.specs.Characters.{took, nothing_left}
use Rattle.key_paths.proofs.Units.{unit_count, byte_count}
use Rattle.key_paths.proofs.evaluation.count_code_units.Goals as goal

pub loop-c-preserved : goal.loop-c-preserved
loop-c-preserved c =
    let x = took _ _ _ c.in-Some.ensures.steps.0 c.loop-c.invariant.is_text in
    let units = unit_count _ _ _ _ x.first c.len_utf16-count.ensures.bmp c.len_utf16-count.ensures.surrogate_pair in
    let bytes = byte_count _ _ _ _ c.in-Some.ensures.steps.0 c.len_utf16-count.ensures.bmp c.len_utf16-count.ensures.surrogate_pair in
    record { is_text = x.rest; counted = omega arith; within = omega arith }

pub returns-clause-count : goal.returns-clause-count
returns-clause-count c =
    let none = nothing_left _ c.in_default.ensures.steps.0.0 in
    omega (arith, ap (λ cs. length (flat_map encode_utf16 cs)) none, c.loop-c.invariant.counted)
