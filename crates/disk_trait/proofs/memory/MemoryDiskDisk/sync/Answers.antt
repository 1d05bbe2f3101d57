use Rattle.disk_trait.proofs.Restart.{sync_pins_area}
use Rattle.disk_trait.proofs.memory.MemoryDiskDisk.sync.Goals as goal

pub returns-clause-durable : goal.returns-clause-durable
returns-clause-durable c = sync_pins_area c.args.self.now c.sync.new.self c.sync.result c.args.area c.sync.ensures.after
