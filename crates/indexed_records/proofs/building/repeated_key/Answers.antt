use Rattle.std.proofs.Common.{◌≤◌, length, arith, ◌∙◌}
use Rattle.clone_values.specs.View.{key_tree_of}
use Rattle.index_tables.specs.Rows.{rows_of}
use Rattle.store_contents.proofs.Laws.{row_count}
use Rattle.indexed_records.proofs.NewIndex.{repeated_here, repeated_later, repeated_past}
use Rattle.indexed_records.proofs.building.repeated_key.Goals as goal

pub returns-in-Some : goal.returns-in-Some
returns-in-Some g c = repeated_here (rows_of c.args.table.now.rows) c.loop-place.place (key_tree_of c.in-Some.key.now) c.in-Some.ensures ∙ c.loop-place.invariant

pub loop-place-preserved : goal.loop-place-preserved
loop-place-preserved g c = repeated_later (rows_of c.args.table.now.rows) c.loop-place.place c.in_default.ensures ∙ c.loop-place.invariant

pub returns : goal.returns
returns g c =
    let past : length (rows_of c.args.table.now.rows) ≤ c.loop-place.place = omega (arith, c.loop-place-test.false, c.len-place-end.ensures, row_count c.args.table.now.rows) in
    repeated_past (rows_of c.args.table.now.rows) c.loop-place.place past ∙ c.loop-place.invariant
