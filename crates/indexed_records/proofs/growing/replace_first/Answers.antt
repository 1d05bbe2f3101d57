use Rattle.std.proofs.Common.{[], ◌∷◌, refl, sym, arith}
use Rattle.store_contents.specs.Walks.{Replaces, CanAdd, paired}
use Rattle.store_contents.proofs.Laws.{one_changed, all_counted, paired_get}
use Rattle.indexed_records.proofs.growing.replace_first.Goals as goal

pub returns-in-Some : goal.returns-in-Some
returns-in-Some g c =
    one_changed Replaces (paired c.args.old.now (c.args.new ∷ [])) _ _ c.index-tables-0.result _ (paired_get c.args.old.now (c.args.new ∷ []) 0 _ c.args.new (sym c.in-Some.ensures) refl)
    c.if-tables-gt0.true (omega (arith, all_counted CanAdd (c.args.new ∷ []) _ _ c.requires.room)) (c.replace_rows.ensures.rows, c.replace_rows.ensures.spare)
