-- What other crates may cite of lists of entries in the order of their keys.
--     first, second, both, is_less                                  the parts of a conjunction;  an answer that is less
--     sorted_remove, sorted_value                                   what stays in order
--     below_through, above_from, stands, stands_tied                on which side of a key the entries stand;  an entry is that of its key
--     above_read, below_read, has_read                              the same, of an entry that was read
--     place_within, found, found_of, absent                         what is found by a place
--     has_not_lacks, has_not_belongs, one_place, one_gap            a key has one place, or one gap
--     put_at, value_put, removed, entries_remove                    what inserting, changing a value and removing make of the list
--     set_value, length_value, appended, past_last                  a value written;  a key above all others belongs at the end
--     taken, one_more, steps_within                                 what a halving costs
--     unsplit, split_below, split_above, split_from, read_passed, rises_on, split_on     of places found by halving
pub use Rattle.sorted_table.proofs.Rising.{both, first, second, is_less, sorted_remove, swapped_less, swapped_greater, below_through, above_from}
pub use Rattle.sorted_table.proofs.Rising.{stands, stands_tied, above_read, below_read, has_read}
pub use Rattle.sorted_table.proofs.Places.{place_within, found, found_of, absent, has_not_lacks, has_not_belongs, one_place, one_gap, put_at, removed}
pub use Rattle.sorted_table.proofs.Maps.{entries_remove}
pub use Rattle.sorted_table.proofs.Values.{sorted_value, length_value, set_value, value_put, appended, past_last}
pub use Rattle.sorted_table.proofs.Costs.{taken, one_more, steps_within}
pub use Rattle.sorted_table.proofs.Splits.{unsplit, split_below, split_above, split_from, read_passed, rises_on, split_on}
