-- What other crates may cite of a client's acts.
--     agrees_begins, made_joined, agrees_own, agrees_other, all_still
pub use Rattle.client_machine.proofs.Agreeing.{agrees_begins, made_joined, agrees_own, agrees_other, all_still}
