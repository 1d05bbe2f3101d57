use Rattle.std.proofs.Common.{Some, subst, sym, ◌∙◌, arith}
use Rattle.clone_values.specs.View.{key_tree_of}
use Rattle.idb_keys.specs.KeyRange.{bound_at}
use Rattle.sorted_table.proofs.Laws.{rises_on, split_on}
use Rattle.index_tables.specs.Rows.{row_meets}
use Rattle.index_tables.specs.View.{row_of, row_set}
use Rattle.index_tables.specs.Halves.{IsSplitAt, StaysPassed}
use Rattle.index_tables.proofs.Meeting.{rows_rise}
use Rattle.index_tables.proofs.TableRows.{rows_of_set, count_of_set}
use Rattle.index_tables.proofs.searching.first_meeting.Goals as goal

pub first_behind-requires : goal.first_behind-requires
first_behind-requires g c =
    let es = g.R.OrderedTable.entries c.args.table.now in
    let test = row_meets (Some (bound_at (key_tree_of c.args.lower.now) c.args.is_open)) in
    rises_on (λ e. row_of e.0) test es (subst (StaysPassed test) (rows_of_set es (g.met.R.OrderedTable.rises c.args.table.now)) (rows_rise (Some (bound_at (key_tree_of c.args.lower.now) c.args.is_open)) (row_set es)))

pub returns-clause-split : goal.returns-clause-split
returns-clause-split g c =
    let es = g.R.OrderedTable.entries c.args.table.now in
    let test = row_meets (Some (bound_at (key_tree_of c.args.lower.now) c.args.is_open)) in
    subst (λ rows. IsSplitAt test rows c.first_behind.result) (sym (rows_of_set es (g.met.R.OrderedTable.rises c.args.table.now))) (split_on (λ e. row_of e.0) test es _ _ c.first_behind.ensures.split)

pub returns-clause-cost : goal.returns-clause-cost
returns-clause-cost g c = rw (count_of_set _ (g.met.R.OrderedTable.rises c.args.table.now)) c.first_behind.ensures.cost
