-- What other crates may cite of entries by name.
--     all_entries           what holds of all that is found holds of each entry
pub use Rattle.session_databases.proofs.Opened.{all_entries}
