use Rattle.std.proofs.Common.{Some, sym, ◌∙◌, ap}
use Rattle.clone_values.specs.View.{tree_of}
use Rattle.key_paths.specs.Conversion.{key_of}
use Rattle.index_tables.specs.View.{row_of}
use Rattle.idb_cursors.proofs.Ahead.{both, by_both}
use Rattle.idb_cursors.proofs.cursor.row_order.Goals as goal

pub returns-in-Some-Some : goal.returns-in-Some-Some
returns-in-Some-Some c =
    ap Some c.then.ensures
    ∙ (λ i. both ((sym c.in-Some-Some.is-0 ∙ c.compare_key.ensures) i) ((sym c.in-Some-Some.is-1 ∙ c.compare_key-2.ensures) i))
    ∙ by_both (row_of c.args.row.now) (key_of (tree_of c.args.key.now)) (key_of (tree_of c.args.primary.now))

pub returns-in-Some-None : goal.returns-in-Some-None
returns-in-Some-None c =
    (λ i. both ((sym c.in-Some-None.is-0 ∙ c.compare_key.ensures) i) ((sym c.in-Some-None.is-1 ∙ c.compare_key-2.ensures) i))
    ∙ by_both (row_of c.args.row.now) (key_of (tree_of c.args.key.now)) (key_of (tree_of c.args.primary.now))
