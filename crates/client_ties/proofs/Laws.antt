-- What other crates may cite of clients' transactions and the desk's.
--     IsSound, sound_run    what holds of each run
--     step_starts, step_scopes, step_leaves         a transaction starts, or is finished
--     made_split, made_before, run_before, run_after, made_notes, made_turns        steps that one driver makes
--     Grows, is_tame, is_drawing, grows_now, grows_event, grows_end         what tasks and events do to transactions
--     notes_txs             posts change none
--     none_unfinished, least_unfinished, first_drawn        the least
pub use Rattle.client_ties.proofs.Effects.{IsSound, sound_run, is_drawing, step_starts, step_scopes, step_leaves}
pub use Rattle.client_ties.proofs.Making.{made_split, made_before, run_before, run_after, made_notes, made_turns}
pub use Rattle.client_ties.proofs.Growing.{is_tame, Grows, notes_txs, grows_now, grows_event, grows_end}
pub use Rattle.client_ties.proofs.Stepping.{none_unfinished, least_unfinished, IsDrawnAs, first_drawn}
pub use Rattle.client_machine.proofs.Laws.{agrees_begins, agrees_other, agrees_own, all_still}
