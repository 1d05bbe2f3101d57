-- What other crates may cite of names, inboxes and their room.
--     IsPlace, IsNowhere, place_of, place_in, nowhere, nowhere_in, any_there, any_nowhere, gap_some, gap_none, at_end     the first that passes a test
--     Pays and what begins with pays                a change sends and leaves owed no more than was owed
--     what begins with mails, room, more or taken   boxes after an event came, or with more room
pub use Rattle.name_queues.proofs.BoxLemmas.{events_found, events_nowhere, mails_at_first, mails_more, mails_put, mails_put_all, more_mails, more_nowhere, more_own, more_placed, more_room, put_append, room_kept, room_mapped, room_more_first, room_put, room_put_all, taken_found, taken_nowhere}
pub use Rattle.name_queues.proofs.Counts.{counted_append, queue_more}
pub use Rattle.name_queues.proofs.Firsts.{IsNowhere, IsPlace, any_nowhere, any_there, at_end, gap_none, gap_some, nowhere, nowhere_in, place_in, place_of}
pub use Rattle.name_queues.proofs.Lists.{at_err, both_err, both_ok, drop_entry, either, map_here, map_long, map_step, none_is, on_err_weaker}
pub use Rattle.name_queues.proofs.Paying.{Pays, pays_closed, pays_deletion, pays_fault, pays_turn, pays_tx, pays_upgrade, with_owed}
