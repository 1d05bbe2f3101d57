-- What other crates may cite of turns.
--     AllCame, limit_all, unless_all, turn_all      what a turn that goes on keeps, given what its entry and its handler keep
--     turn_ends, goes_keeps, run_aborted            what turns keep, and what an aborted transaction leaves
--     Below, Stands, stands, both_true      the laws of the layer below, which callers hand in;  the store that was found stands there
--     noted_fresh, turn_noted               the changes lead from the database before to the one now
--     grown, handled_grows, aborted_empties         what waits
--     handles_map, cancels_map, aborts_map, turn_map, goes_map, runs_map      handlers seen otherwise
pub use Rattle.list_machine.proofs.Turning.{AllCame, limit_all, unless_all, turn_all}
pub use Rattle.list_machine.proofs.Aborting.{turn_ends, goes_keeps, run_aborted}
pub use Rattle.list_machine.proofs.Growing.{grown, handled_grows, aborted_empties}
pub use Rattle.list_machine.proofs.Seeing.{handles_map, cancels_map, aborts_map, turn_map, goes_map, runs_map}
pub use Rattle.list_machine.proofs.Leaving.{Below, Stands, stands, both_true}
pub use Rattle.list_machine.proofs.Noting.{noted_fresh, turn_noted}
