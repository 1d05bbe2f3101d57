use Rattle.std.proofs.Common.{◌≡◌, ap, arith}
use Rattle.script_exprs.specs.Expression.{expression_size}
use Rattle.script_values.proofs.Steps.{part_falls}
use Rattle.script_values.proofs.evaluating.+evaluate.Goals as goal

pub values_of_parts-evaluate-requires : goal.values_of_parts-evaluate-requires
values_of_parts-evaluate-requires t c =
    let e = ap expression_size c.part-item.is in
    (omega (arith, e, part_falls c.args.parts.now c.loop-part.part-index c.part-item.result c.loop-part-test.true, c.decreases), tt)
