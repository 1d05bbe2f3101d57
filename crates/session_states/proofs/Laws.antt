-- What other crates may cite of sessions under way.
--     fits_last             the order in which transactions finished fits with one more behind all
pub use Rattle.session_states.proofs.FinishOrder.{fits_last}
