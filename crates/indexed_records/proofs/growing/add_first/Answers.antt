use Rattle.std.proofs.Common.{[], ◌∷◌, refl, arith}
use Rattle.store_contents.specs.Walks.{Adds, CanAdd}
use Rattle.store_contents.proofs.Laws.{one_changed, all_counted}
use Rattle.indexed_records.proofs.growing.add_first.Goals as goal

pub returns-then-tables-gt0 : goal.returns-then-tables-gt0
returns-then-tables-gt0 g c =
    one_changed Adds (c.args.rows ∷ []) _ c.args.rows c.index-tables-0.result _ refl c.if-tables-gt0.true (omega (arith, all_counted CanAdd (c.args.rows ∷ []) _ _ c.requires)) (c.add_rows.ensures.rows, c.add_rows.ensures.spare)
