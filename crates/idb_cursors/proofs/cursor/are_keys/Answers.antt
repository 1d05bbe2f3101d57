use Rattle.std.proofs.Common.{◌&&◌, is_some, sym, ◌∙◌}
use Rattle.clone_values.specs.View.{tree_of}
use Rattle.key_paths.specs.Conversion.{key_of}
use Rattle.idb_cursors.proofs.Ahead.{zip_there}
use Rattle.idb_cursors.proofs.cursor.are_keys.Goals as goal

pub returns-then-is_key : goal.returns-then-is_key
returns-then-is_key c =
    let second = key_of (tree_of c.args.primary.now) in
    c.is_key-then-is_key.ensures ∙ (λ i. c.if-is_key.ensures i && is_some second) ∙ sym (zip_there (key_of (tree_of c.args.key.now)) second)
