-- What other crates may cite of runs of items and of sizes.
--     of LeavesLemmas       items put in, taken out, read;  leaves split, joined, left out;  excesses;  none too small
--     of RankLemmas         a leaf of a block among all
--     of Shrinking          a run that has lost a member
--     of Halves             the halves of a run that is split
--     sum_more              the sum of one size more
pub use Rattle.leaf_blocks.proofs.LeavesLemmas.{excess_at, excess_join, excess_most, excess_out, excess_set, excess_split, fit, grown, halved, join_content, join_is, joined_get, joined_join, joined_out, joined_put, joined_split, joined_take, least_items, least_leaves, length_join, length_split, most_items, spare_some, split_content}
pub use Rattle.leaf_blocks.proofs.RankLemmas.{joined_more, leaf_within, rank_before, rank_below, rank_leaf, rank_set, rank_split}
pub use Rattle.leaf_blocks.proofs.Shrinking.{filled_alone, filled_former, filled_next, filled_out, same_widths}
pub use Rattle.leaf_blocks.proofs.Halves.{before_lower, before_upper, lower_size, upper_size}
pub use Rattle.leaf_blocks.proofs.EndsLemmas.{sum_more}
