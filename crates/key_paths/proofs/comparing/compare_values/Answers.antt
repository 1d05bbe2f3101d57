use Rattle.std.proofs.Common.{Some, sym, ◌∙◌, ap}
use Rattle.clone_values.specs.View.{tree_of}
use Rattle.key_paths.specs.Comparing.{compared}
use Rattle.key_paths.proofs.Convertible.{has_key}
use Rattle.key_paths.proofs.comparing.compare_values.Goals as goal

pub returns : goal.returns
returns c =
    let first = has_key (tree_of c.args.a.now) (sym c.if-not-is_key.ensures) in
    let second = has_key (tree_of c.args.b.now) (sym c.if-not-is_key-2.ensures) in
    ap Some c.order_of_values.ensures ∙ sym (λ i. compared (first.1 i) (second.1 i))
