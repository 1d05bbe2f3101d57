-- What other crates may cite of the limits of a session.
--     unbroken, rests, record_gives, record_more, commit_more         databases at rest;  records and commits one behind the other
--     held, versions_run, upgrades_run, in_range, upgrade_bodies        versions
--     names_run, few_run, few_bodies, within_limits     how many names have a place, how many stores a database has, and that a session keeps so
pub use Rattle.session_limits.proofs.Resting.{unbroken, rests, record_gives, record_more, commit_more}
pub use Rattle.session_limits.proofs.Versions.{held, versions_run, upgrades_run}
pub use Rattle.session_limits.proofs.Bodies.{in_range, upgrade_bodies, few_bodies}
pub use Rattle.session_limits.proofs.Limits.{names_run, few_run, within_limits}
