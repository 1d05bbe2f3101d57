-- What other crates may cite of the desk.
--     orderly_opening, orderly_step, orderly_run    a desk is orderly
--     own, asked_in_run, asks_stay  whose its connections and events are; what was asked, and that it stays
--     opening_databases, step_keeps, upgrade_puts, deletion_removes     how databases move
--     shows, sees_upgrade   what connections see of them
--     alone_in, stays_through, stays_in_run     upgrades and deletions run alone; a database stays
--     Names                 what is kept for each name in a run, as `IsSteady` says
pub use Rattle.desk_facts.proofs.Stepping.{orderly_opening, orderly_step, orderly_run}
pub use Rattle.desk_facts.proofs.Runs.{own, asked_in_run, stays_in_run}
pub use Rattle.desk_facts.proofs.Staying.{asks_stay}
pub use Rattle.desk_facts.proofs.Databases.{opening_databases}
pub use Rattle.desk_facts.proofs.Facts.{step_keeps, upgrade_puts, deletion_removes, shows}
pub use Rattle.desk_facts.proofs.Alone.{alone_in, stays_through, sees_upgrade}
pub use Rattle.desk_facts.proofs.Names.{AreSteady, length_infos, steady_run, steady_step}
