-- The keys that multi-entry conversion has found so far.
--     is_among_keys         whether a key is among these
--     with_new              these, with a key at the end unless it is there
--     HasExactly            a set has these keys and no other
use Rattle.std.specs.Prelude.{◌≡◌, Bool, List, [], ◌∷◌, ◌++◌, if◌then◌else◌}
use Rattle.std.specs.List.{list_any}
use Rattle.std.specs.Ordering.{is_eq}
use Rattle.std.specs.BTreeSet.{BTreeSet, contains}
use Rattle.clone_values.specs.KeyTree.{KeyTree}
use Rattle.key_order.specs.KeyOrder.{key_cmp}

abbrev pub is_among_keys : List KeyTree → KeyTree → Bool
is_among_keys ks j = list_any (λ k. is_eq (key_cmp j k)) ks

abbrev pub with_new : List KeyTree → KeyTree → List KeyTree
with_new ks k = if is_among_keys ks k then ks else ks ++ k ∷ []

abbrev pub HasExactly : BTreeSet KeyTree → List KeyTree → Type 0
HasExactly s ks = (k : KeyTree) → contains key_cmp s k ≡ is_among_keys ks k
