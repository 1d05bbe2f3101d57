-- What other crates may cite of changes that can be logged.
--     loggable_both         changes, and then more
--     opening_loggable      those with which a transaction begins
--     turn_loggable, run_loggable   those after a turn, and after turns, whatever the handlers are
--     few_enough            as many as a transaction may make are few enough for one record
pub use Rattle.loggable_changes.proofs.Requests.{loggable_both}
pub use Rattle.loggable_changes.proofs.Turns.{opening_loggable, turn_loggable, run_loggable, few_enough}
