use Rattle.disk_trait.proofs.SinceSync.{pinned_by_sync}
use Rattle.disk_trait.proofs.over_calls.sync_pins.Goals as goal

pub returns : goal.returns
returns c = pinned_by_sync
