use Rattle.std.proofs.Common.{◌≡◌, ◌-◌, ◌+◌, ◌*◌, [], ◌++◌, length, map, take, drop}
use Rattle.std.specs.List.{zip, fold}
use Rattle.clone_values.specs.View.{tree_of, prop_of}
use Rattle.clone_values.specs.Sameness.{put_once}
use Rattle.script_values.specs.Evaluating.{entries_put, parts_in}
use Rattle.script_exprs.specs.Expression.{expressions_of, expression_size, parts_size}
use Rattle.script_values.proofs.evaluating.+evaluate.Given as goal

abbrev pub decreases-evaluate : goal.decreases-evaluate
decreases-evaluate l = expression_size l.expr.now

abbrev pub decreases-values_of_parts : goal.decreases-values_of_parts
decreases-values_of_parts l = parts_size (expressions_of l.parts.now)

abbrev pub invariant-values_of_parts-loop-part : goal.invariant-values_of_parts-loop-part
invariant-values_of_parts-loop-part l = l.values ++ parts_in l.variables (expressions_of (drop l.part-index l.parts)) ≡ parts_in l.variables (expressions_of l.parts)
