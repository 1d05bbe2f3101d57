use Rattle.std.proofs.Common.{◌∙◌, sym}
use Rattle.range_reads.proofs.Rising.{members_rise, first_in_range, first_outside, first_missing}
use Rattle.range_reads.proofs.reads.first_in.Goals as goal

pub returns-then-includes : goal.returns-then-includes
returns-then-includes g c = first_in_range c.args.range.now _ _ c.lower_end-start.ensures _ (sym c.in-Some.ensures) (sym c.includes.ensures.value ∙ c.if-includes.true)

pub returns-else-includes : goal.returns-else-includes
returns-else-includes g c =
    let range = c.args.range.now in
    let records = c.args.records.now in
    first_outside range _ _ c.lower_end-start.ensures (members_rise records.info.indexes records.records c.args.over) _ (sym c.in-Some.ensures) (sym c.includes.ensures.value ∙ c.if-includes.false)

pub returns-in-None : goal.returns-in-None
returns-in-None g c = first_missing c.args.range.now _ _ c.lower_end-start.ensures (sym c.in-None.ensures)
