use Rattle.disk_trait.proofs.SinceSync.{kept_is_read, dropped_is_synced}
use Rattle.disk_trait.proofs.over_calls.planned_images.Goals as goal

pub returns-clause-kept : goal.returns-clause-kept
returns-clause-kept c = kept_is_read

pub returns-clause-dropped : goal.returns-clause-dropped
returns-clause-dropped c = dropped_is_synced
