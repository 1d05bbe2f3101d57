use Rattle.std.proofs.Common.{◌≡◌, ◌≤◌, ◌∙◌, length, sym, subst, arith}
use Rattle.index_tables.specs.RecordRows.{index_rows}
use Rattle.store_contents.proofs.Laws.{inserted_in_step, counted_within}
use Rattle.std.proofs.Math.Nat.{min-le_left, min-le_right}
use Rattle.indexed_records.proofs.records.IndexedRecords.put_back.Goals as goal

pub insert_both-requires-clause-tables : goal.insert_both-requires-clause-tables
insert_both-requires-clause-tables g c = λ κs h. counted_within _ _ _ _ c.self.invariant

pub invariant_of-self : goal.invariant_of-self
invariant_of-self g c =
    let t = c.insert_both.ensures.tables in
    let rows = subst (λ v. c.args.dropped.rows ≡ index_rows c.args.dropped.index v.records) (sym c.self.view_is) c.requires.rows in
    let place = subst (λ v. c.args.dropped.place ≤ length v.info.indexes) (sym c.self.view_is) c.requires.place in
    rw c.insert_both.ensures.indexes (inserted_in_step c.args.dropped.place _ c.self.inside.tables.items _ _ c.self.inside.row_spare _ c.args.dropped.index t.0 c.self.invariant place (t.1 ∙ rows)
    (omega (arith, min-le_left c.self.inside.row_spare c.spare.result, c.min-self-inside.ensures)) (omega (arith, min-le_right c.self.inside.row_spare c.spare.result, c.min-self-inside.ensures, c.spare.ensures, t.2)) t.3)
