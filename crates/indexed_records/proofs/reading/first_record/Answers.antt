use Rattle.std.proofs.Common.{[], ◌∙◌, sym, arith}
use Rattle.std.proofs.lemmas.Option.{slice_get_within}
use Rattle.store_contents.proofs.Laws.{first_of_all, first_of_none, first_open, first_closed, first_between}
use Rattle.indexed_records.proofs.reading.first_record.Goals as goal

pub overflow_add-result : goal.overflow_add-result
overflow_add-result g c = omega (arith, slice_get_within (g.R.OrderedTable.entries c.args.records.now) c.in-Ok.place (c.in-Some.key.now, c.in-Ok.ensures.found.value) c.in-Ok.ensures.found.stands, c.len.ensures.value, c.len.type_inv)

pub returns-in_default : goal.returns-in_default
returns-in_default g c = rw c.in_default.is (first_of_all _)

pub returns-then-len-eq0 : goal.returns-then-len-eq0
returns-then-len-eq0 g c = first_of_none _ [] _ (g.met.R.OrderedTable.rises c.args.records.now) (sym c.len.ensures.value ∙ c.if-len-eq0.true)

pub returns-then-lower_open : goal.returns-then-lower_open
returns-then-lower_open g c = rw c.in-Some.is (first_open c.in-Some.key.now c.args.lower_open _ [] _ c.if-lower_open.true (g.met.R.OrderedTable.rises c.args.records.now) c.in-Ok.ensures.found)

pub returns-else-lower_open : goal.returns-else-lower_open
returns-else-lower_open g c = rw c.in-Some.is (first_closed c.in-Some.key.now c.args.lower_open _ [] _ c.if-lower_open.false (g.met.R.OrderedTable.rises c.args.records.now) c.in-Ok.ensures.found)

pub returns-in-Err : goal.returns-in-Err
returns-in-Err g c = rw c.in-Some.is (first_between c.in-Some.key.now c.args.lower_open _ [] _ (g.met.R.OrderedTable.rises c.args.records.now) c.in-Err.ensures.absent)
