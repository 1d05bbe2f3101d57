use Rattle.std.proofs.Common.{◌≡◌, Some, refl, sym, ap, ◌∙◌, arith}
use Rattle.std.proofs.lemmas.Grind.{common_steps}
use Rattle.serde_json.specs.View.{view}
use Rattle.script_exprs.specs.Documents.{datas_of}
use Rattle.script_exprs.specs.Forms.{spelled_in}
use Rattle.script_exprs.proofs.ExpressionsLemmas.{with_parts}
use Rattle.script_exprs.proofs.expressions.+read.Goals as goal

pub read_within-returns-in_err-parts : goal.read_within-returns-in_err-parts
read_within-returns-in_err-parts t c =
    let ds = datas_of c.as_slice.result.now in
    let spelled : spelled_in (view c.args.json.now) ≡ Some (c.in_ok-form.form, ds) = c.in_ok-form.ensures ∙ ap (λ l. Some (c.in_ok-form.form, datas_of l)) (sym c.as_slice.ensures.value) in
    rw (with_parts c.args.levels (view c.args.json.now) c.in_ok-form.form ds _ (omega (arith, c.if-levels-eq0.false)) spelled refl) (grind (arith, common_steps))
