-- What contracts see of an entry.
--     entry_seen            a key and a value, and the generator's number afterwards
use Rattle.std.specs.Prelude.{ℕ}
use Rattle.clone_values.specs.declared.key_types.Key.{Key}
use Rattle.clone_values.specs.declared.value_types.Value.{Value}
use Rattle.clone_values.specs.View.{key_tree_of, tree_of}
use Rattle.store_contents.specs.Storing.{Entry}

abbrev pub entry_seen : ℕ → Key × Value → Entry
entry_seen current e = record { key = key_tree_of e.0; value = tree_of e.1; current = current }
