-- What other crates may cite of the desk's steps.
--     Runs                  a run begins, and goes on
--     Owing                 what a desk owes its clients
--     Standing              what a client asked stands there, and nothing of any other
--     Placed                the places of databases
--     Relaxing              the durability of a transaction stays; numbers are drawn one after the other
--     Settles               a queue settles after so many turns
pub use Rattle.desk_steps.proofs.Runs.{goes_on, starts}
pub use Rattle.desk_steps.proofs.Owing.{one_owed, wide_owes, within_owes}
pub use Rattle.desk_steps.proofs.Standing.{asked_first, asked_there, client_nowhere, client_nowhere_in, client_there, client_there_in, handled_there, none_in}
pub use Rattle.desk_steps.proofs.Placed.{Puts, puts_again, puts_behind, puts_free}
pub use Rattle.desk_steps.proofs.Relaxing.{durability_stays, goes_relaxed, next_grows, none_relaxed}
pub use Rattle.desk_steps.proofs.Settles.{rank_at, rank_less, settled_there, turn_settles}
