-- The lemmas that other crates may cite.
pub use Rattle.desk_steps.proofs.Laws.{next_grows, durability_stays}
