use Rattle.std.proofs.Common.{option_map, ◌∙◌, ap}
use Rattle.std.specs.Option.{option_zip}
use Rattle.clone_values.specs.View.{tree_of}
use Rattle.key_paths.specs.Conversion.{key_of}
use Rattle.idb_cursors.specs.Cursors.{pair_beyond_place}
use Rattle.idb_cursors.proofs.cursor.Cursor.is_pair_ahead.Goals as goal

pub returns : goal.returns
returns c =
    let pair = option_zip (key_of (tree_of c.args.key.now)) (key_of (tree_of c.args.primary.now)) in
    c.is_pair_beyond.ensures ∙ ap (λ s. option_map (pair_beyond_place s.direction s.place) pair) c.self.view_is
