use Rattle.std.proofs.Common.{◌<◌, length, sym, arith}
use Rattle.index_tables.proofs.Laws.{past_end}
use Rattle.store_contents.specs.Walks.{Removes}
use Rattle.store_contents.proofs.Laws.{walked_on, walked_all}
use Rattle.indexed_records.proofs.growing.remove_in.Goals as goal
use Rattle.indexed_records.proofs.growing.remove_in.Goals.{in-Some, in_default}

pub loop-place-preserved : goal.loop-place-preserved
loop-place-preserved g c =
    let lt : c.loop-place.place < length c.loop-place.tables = omega (arith, c.loop-place.auto.tables, c.loop-place-test.true) in
    elim c.match-at.branch [
      | in-Some w ↦ rw w.tables-is (walked_on Removes _ _ _ _ _ c.index-tables-place.result _ c.loop-place.invariant lt (sym w.in-Some.ensures) (w.remove_rows.ensures.rows, w.remove_rows.ensures.spare))
      | in_default w ↦ absurd (omega (arith, past_end c.args.rows.now c.loop-place.place w.in_default.ensures, c.loop-place-test.true, c.requires))
    ]

pub returns : goal.returns
returns g c = walked_all Removes _ _ _ _ c.loop-place.invariant c.loop-place-test.false
