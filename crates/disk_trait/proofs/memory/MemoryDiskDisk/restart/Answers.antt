use Rattle.disk_trait.proofs.Restart.{restart_images, restart_leads}
use Rattle.disk_trait.proofs.memory.MemoryDiskDisk.restart.Goals as goal

pub returns-clause-restarted : goal.returns-clause-restarted
returns-clause-restarted c = restart_leads c.args.self.now c.restart.new.self c.restart.result c.restart.ensures.after

pub returns-clause-images : goal.returns-clause-images
returns-clause-images c = restart_images c.args.self.now c.restart.new.self c.restart.result c.restart.ensures.after
