use Rattle.std.proofs.Common.{Some, sym, ◌∙◌, ap}
use Rattle.clone_values.specs.View.{tree_of, key_tree_of}
use Rattle.key_paths.specs.Comparing.{compared}
use Rattle.key_paths.proofs.Convertible.{has_key}
use Rattle.key_paths.proofs.comparing.compare_key.Goals as goal

pub returns : goal.returns
returns c =
    ap Some c.order_with.ensures
    ∙ sym (ap (compared (Some (key_tree_of c.args.key.now))) (has_key (tree_of c.args.value.now) (sym c.if-not-is_key.ensures)).1)
