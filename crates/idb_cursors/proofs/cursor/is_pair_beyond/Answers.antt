use Rattle.std.proofs.Common.{true, Some, None, option_map, sym, ◌∙◌, ap}
use Rattle.std.specs.Prelude.{if◌then◌else◌}
use Rattle.std.specs.Option.{option_zip}
use Rattle.std.specs.Ordering.{is_lt}
use Rattle.clone_values.specs.View.{tree_of}
use Rattle.key_paths.specs.Conversion.{key_of}
use Rattle.index_tables.specs.View.{row_of}
use Rattle.idb_cursors.specs.Cursors.{toward, pair_beyond_place}
use Rattle.idb_cursors.proofs.Ahead.{by_pair, pair_wherever}
use Rattle.idb_cursors.proofs.cursor.is_pair_beyond.Goals as goal

pub returns-in-Some : goal.returns-in-Some
returns-in-Some c =
    let pair = option_zip (key_of (tree_of c.args.key.now)) (key_of (tree_of c.args.primary.now)) in
    c.is_ahead.ensures ∙ ap (option_map (λ o. is_lt (toward c.args.direction o))) c.row_order.ensures
    ∙ by_pair c.args.direction (row_of c.in-Some.row) pair
    ∙ ap (λ p. option_map (pair_beyond_place c.args.direction (option_map row_of p)) pair) (sym c.in-Some.is)

pub returns-in-None : goal.returns-in-None
returns-in-None c =
    let pair = option_zip (key_of (tree_of c.args.key.now)) (key_of (tree_of c.args.primary.now)) in
    c.if_key.ensures ∙ ap (λ b. if b then Some true else None) c.are_keys.ensures
    ∙ pair_wherever c.args.direction pair
    ∙ ap (λ p. option_map (pair_beyond_place c.args.direction (option_map row_of p)) pair) (sym c.in-None.is)
