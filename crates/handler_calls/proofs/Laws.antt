-- What other crates may cite of handlers.
--     becomes_attended, handled_attended, rest_attended       each entry has its handler, after calls, after a handler, and without the first
--     becomes_finished      no call changes a front that is finished
--     first_is              the entry that is run next, and the rest
pub use Rattle.handler_calls.proofs.Attending.{becomes_attended, handled_attended, rest_attended}
pub use Rattle.handler_calls.proofs.Finished.{becomes_finished}
pub use Rattle.handler_calls.proofs.Telling.{first_is}
