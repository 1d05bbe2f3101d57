-- Values that the code lends, as trees.
--     seen_one, seen_two    one value, and two
use Rattle.std.specs.Prelude.{Option, option_map}
use Rattle.std.specs.Borrow.{Bor}
use Rattle.clone_values.specs.Tree.{Tree}
use Rattle.clone_values.specs.View.{tree_of}
use Rattle.clone_values.specs.declared.value_types.Value.{Value}

abbrev pub seen_one : Option (Bor Value) → Option Tree
seen_one o = option_map (λ v. tree_of v.now) o

abbrev pub seen_two : Option (Bor Value × Bor Value) → Option (Tree × Tree)
seen_two o = option_map (λ p. (tree_of p.0.now, tree_of p.1.now)) o
