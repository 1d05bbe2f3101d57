use Rattle.std.proofs.Common.{arith, sym, ◌∙◌}
use Rattle.index_tables.specs.Rows.{has_key}
use Rattle.index_tables.specs.View.{row_set}
use Rattle.index_tables.proofs.TableRows.{past_end}
use Rattle.index_tables.proofs.Firsts.{not_yet, found_first}
use Rattle.index_tables.proofs.searching.first_key_had.Goals as goal
use Rattle.index_tables.proofs.searching.first_key_had.Goals.{in-Some+else-has_key, in_default}

pub returns-then-has_key : goal.returns-then-has_key
returns-then-has_key g c = found_first (has_key (row_set (g.R.OrderedTable.entries c.args.table.now))) _ _ _ c.loop-place.invariant (sym c.in-Some.ensures.item) (sym c.has_key.ensures ∙ c.if-has_key.true)

pub loop-place-preserved : goal.loop-place-preserved
loop-place-preserved g c = elim c.match-at.branch [
  | in-Some+else-has_key w ↦ not_yet (has_key (row_set (g.R.OrderedTable.entries c.args.table.now))) _ _ _ c.loop-place.invariant (sym w.in-Some.ensures.item) (sym w.has_key.ensures ∙ w.if-has_key.false)
  | in_default w ↦ absurd (omega (arith, past_end c.args.keys.now c.loop-place.place w.in_default.ensures.item, c.loop-place-test.true, c.len-place-end.ensures.count))
]
