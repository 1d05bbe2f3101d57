-- What other crates may cite of trees.
--     trees_again, members_again, pairs_again     a list that is part of a tree, read back
--     all_bytes, is_unicode     lists of bytes, and texts
--     same_tree_decides     the test of sameness answers by equality
pub use Rattle.value_trees.proofs.Lists.{trees_again, members_again, pairs_again, all_bytes, is_unicode}
pub use Rattle.value_trees.proofs.SamenessLaws.{same_tree_decides}
