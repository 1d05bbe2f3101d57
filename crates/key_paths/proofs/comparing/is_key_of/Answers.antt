use Rattle.std.proofs.Common.{true, false, is_eq, sym, ◌∙◌, ap}
use Rattle.clone_values.specs.View.{tree_of, key_tree_of}
use Rattle.key_paths.proofs.Convertible.{has_key}
use Rattle.key_paths.proofs.KeysGiven.{given_key}
use Rattle.key_paths.proofs.comparing.is_key_of.Goals as goal

pub order_with-requires : goal.order_with-requires
order_with-requires c = (has_key (tree_of c.args.v.now) (sym c.if-is_key.ensures)).0

pub returns-then-is_key : goal.returns-then-is_key
returns-then-is_key c = c.is_eq.ensures ∙ ap is_eq c.order_with.ensures ∙ given_key (tree_of c.args.v.now) (key_tree_of c.args.key.now) true c.if-is_key.ensures

pub returns-else-is_key : goal.returns-else-is_key
returns-else-is_key c = c.if-is_key.false ∙ given_key (tree_of c.args.v.now) (key_tree_of c.args.key.now) false c.if-is_key.ensures
