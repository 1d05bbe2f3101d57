-- What other crates may cite of the rows of indexes.
--     same_rows, has_with_rows, has_without_rows, has_row_among          a set is told by its rows
--     removal_undoes, addition_undoes                                    what undoes a change
--     has_index_row, among_rows_of_record                                a row is there where the record of its primary key gives its key
--     rows_with, rows_over, rows_without, rows_new, rows_present         a record comes, comes over another, goes
--     apart, two_rows, keys_rise, keys_rise_from, rows_rise_in           of keys that have two rows
--     broken_by, unbroken, nothing_breaks, removal_keeps                 of unique indexes
--     stays_unique, is_repeated                                          a record that comes clashes, or not
--     below_at, find_removed, past_end, or_nothing, same_primary         of lists
--     position_of_split                                                  of places found by halving
pub use Rattle.index_tables.proofs.RowLaws.{same_rows, has_no_row, has_with_row, has_without_row, has_with_rows, has_without_rows, has_row_among, same_row}
pub use Rattle.index_tables.proofs.RowLaws.{removal_undoes, addition_undoes, rising, counted, key_of_row, row_of_key}
pub use Rattle.index_tables.proofs.RecordRows.{has_index_row, among_rows_of_record, rows_with, rows_over, rows_without, rows_new, rows_present, or_nothing}
pub use Rattle.index_tables.proofs.Unique.{keys_rise, rows_rise, keys_rise_from, rows_rise_in, is_less, same_primary, apart, HasTwo, two_rows}
pub use Rattle.index_tables.proofs.Unique.{broken_by, unbroken, Clashes, stays_unique, is_repeated}
pub use Rattle.index_tables.proofs.UniqueLaws.{nothing_breaks, removal_keeps}
pub use Rattle.index_tables.proofs.Mapped.{below_at, find_removed}
pub use Rattle.index_tables.proofs.TableRows.{past_end}
pub use Rattle.index_tables.proofs.Halving.{position_of_split}
