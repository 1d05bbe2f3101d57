-- What other crates cite.
--     trees_again, members_again, pairs_again     a list that is part of a tree, read back
--     stands_from_got, below_StandsAt             what stands at a place of a list
--     rising_set, all_rising                      names still rise once one property, or each of a list, is set
--     set_longer, all_longer                      and how long the list is then
--     same_tree_decides                           the test of equality answers by equality
--     both_so               two tests that pass
--     ArrayFits, array_fits, array_again          the test of an Array, part by part, and so of an Object, a Map and a Set
--     all_set, values_set, names_set, properties_set      what holds of each property still does once one is set
--     values_push, put_kept, put_longer, pair_kept, pair_longer   the same of items pushed, and members and entries put
--     cloneable_within, within_cloneable, cloneable_set   what can be cloned, as the walk that stops at a depth tells it
pub use Rattle.clone_values.specs.Falls.{below_StandsAt}
pub use Rattle.value_trees.proofs.Laws.{trees_again, members_again, pairs_again, same_tree_decides}
pub use Rattle.clone_values.proofs.Places.{stands_from_got}
pub use Rattle.clone_values.proofs.NamesLaws.{rising_set}
pub use Rattle.clone_values.proofs.Sorting.{set_longer, all_longer, all_rising}
pub use Rattle.clone_values.proofs.Built.{both_so, ArrayFits, array_fits, array_again, ObjectFits, object_fits, object_again, MapFits, map_fits, map_again, SetFits, set_fits, set_again}
pub use Rattle.clone_values.proofs.Built.{all_set, values_set, names_set, properties_set, cloneable_set}
pub use Rattle.clone_values.proofs.Built.{IsSet, IsMap, values_push, put_kept, put_longer, pair_kept, pair_longer}
pub use Rattle.clone_values.proofs.CloneableLemmas.{cloneable_within, within_cloneable}
