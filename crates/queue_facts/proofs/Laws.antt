-- What other crates may cite of queues.
--     Moves                 a queue moves as far as it can
--     Changes, Ends         what ends a request, a connection, an upgrade, a deletion, or all of a name
--     Sums                  sums over names and inboxes
pub use Rattle.queue_facts.proofs.Moves.{counts_itself, is_itself, is_same, one_true, settled_name_goes, tally_both, ties_itself}
pub use Rattle.queue_facts.proofs.Changes.{Changes, all_found, alone_held, begun_changes, closed_changes, goes_changes, marked_changes, no_less, not_over, one_more, tx_changes}
pub use Rattle.queue_facts.proofs.Ends.{aborted_database, alone_txs, deleted_database, deletion_changes, deletion_named, fault_changes, undeleted_database, upgrade_changes, upgrade_named, upgraded_database}
pub use Rattle.queue_facts.proofs.Sums.{all_find, all_first, all_kept, all_last, all_left, all_mapped, all_told, apart_first, apart_mapped, box_kept, box_sent, find_passes, first_addressed, first_nowhere, sent_addressed, sent_just, sent_most, tally_first}
