-- What other crates may cite of records, rows and stores.
--     record_found, told_same, unbroken_over      the record at a place;  values that give the same rows;  one put in place of another
--     ByKey                 records by key, and as a table in order
--     Lists, Walks          lists of tables, changed one by one
--     Matching, Changes     tables that keep in step, as they change
--     Members               the members that a store or an index shows
--     Past                  a store at a mark
--     ChoiceLemmas          the key that a record is stored under
--     RecordChanges         each operation as changes of single records
pub use Rattle.store_contents.proofs.RecordPlaces.{record_found, record_there}
pub use Rattle.store_contents.proofs.Lists.{mapped_more, rows_more, rows_more_among}
pub use Rattle.store_contents.proofs.Sameness.{revalued_in_step, told_same, unbroken_over}
pub use Rattle.store_contents.proofs.Walks.{FilledOn, Walked, all_at, all_counted, next_at, next_left, none_next, one_changed, paired_get, walked_all, walked_get, walked_kept, walked_on}
pub use Rattle.store_contents.proofs.ByKey.{Entries, InOrder, copy_is_lacked, copy_is_put, count_of, entry_at, entry_of, gap_in, gap_of, get_of, lacks, of_none, of_put, of_removed, of_value, same_value, seen_again, stands, stands_of, taken_lack, taken_put, value_at_place}
pub use Rattle.store_contents.proofs.Matching.{copied_in_step, counted_within, filled_count, filled_in_step, inserted_in_step, kept_in_step, last_removed, none_left, nothing_in_step, out_of_sets, pushed_in_step, room_of, roomy_in_step, rows_of_nothing, sets_of, taken_in_step, taken_room, taken_rows, unplaced_in_step}
pub use Rattle.store_contents.proofs.Changes.{put_fits, put_steps, replace_steps, take_fits, take_steps}
pub use Rattle.store_contents.proofs.Members.{first_between, first_closed, first_of_all, first_of_none, first_open, members_split, none_shown, row_count, shown_get, shown_is_members, shown_keys, shown_length, shown_none, shown_table}
pub use Rattle.store_contents.proofs.Past.{at_end, back_content, back_length, back_past, content_cut, cut_at, keeps_again, keeps_cut, keeps_pushed}
pub use Rattle.store_contents.proofs.ChoiceLemmas.{found_depth, found_fits, found_key, given_fits, not_evaluated}
pub use Rattle.store_contents.proofs.RecordChanges.{cleared_changes, deleted_changes, stored_changes}
