use Rattle.std.proofs.Common.{◌&&◌, is_eq, sym, ◌∙◌, ap}
use Rattle.clone_values.specs.View.{tree_of, key_tree_of}
use Rattle.key_paths.specs.Comparing.{as_key, is_item}
use Rattle.key_paths.specs.View.{value_found}
use Rattle.key_paths.proofs.KeysGiven.{flip}
use Rattle.key_paths.proofs.comparing.is_item.Goals as goal

pub returns-then-fits_in_array : goal.returns-then-fits_in_array
returns-then-fits_in_array c =
    c.is_eq.ensures ∙ ap is_eq c.order_with.ensures
    ∙ (λ i. c.if-fits_in_array.ensures i && flip (key_tree_of c.args.key.now) (as_key (tree_of c.in-Part.v.now)) i)
    ∙ ap (λ f. is_item (value_found f) (key_tree_of c.args.key.now)) (sym c.in-Part.is)
