-- What other crates may cite of statements of tasks.
--     made_noted, noted_notes       what was noted makes no step;  it is what the acts of it note
pub use Rattle.task_statements.proofs.Acted.{made_noted, noted_notes}
