use Rattle.session_limits.proofs.Bodies.{in_range, upgrade_bodies}
use Rattle.session_limits.proofs.Versions.{held, versions_run, upgrades_run}
use Rattle.session_limits.proofs.laws_of_versions.version_laws.Goals as goal

pub returns : goal.returns
returns c = record { held = held; databases = versions_run; upgrades = upgrades_run; in_range = in_range; bodies = upgrade_bodies }
