use Rattle.std.proofs.Common.{◌≡◌, ◌+◌, ◌*◌, drop, []}
use Rattle.script_exprs.specs.Documents.{datas_of}
use Rattle.script_exprs.specs.Expressions.{expr_within, all_read}
use Rattle.script_exprs.proofs.expressions.+read.Given as goal

abbrev pub decreases-read_within : goal.decreases-read_within
decreases-read_within l = 2 * l.levels

abbrev pub decreases-read_parts : goal.decreases-read_parts
decreases-read_parts l = 2 * l.levels + 1

abbrev pub invariant-read_parts-loop-document : goal.invariant-read_parts-loop-document
invariant-read_parts-loop-document l =
    all_read (expr_within l.levels) l.parts.items (datas_of (drop l.document-index l.documents)) ≡ all_read (expr_within l.levels) [] (datas_of l.documents)
