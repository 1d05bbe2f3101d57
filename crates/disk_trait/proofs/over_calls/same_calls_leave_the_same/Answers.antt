use Rattle.disk_trait.proofs.SinceSync.{same_since_sync}
use Rattle.disk_trait.proofs.over_calls.same_calls_leave_the_same.Goals as goal

pub returns : goal.returns
returns c = same_since_sync
