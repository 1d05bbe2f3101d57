use Rattle.std.proofs.Common.{arith}
use Rattle.idb_databases.specs.Stores.{AreStores}
use Rattle.session_databases.proofs.Opened.{all_next}
use Rattle.session_databases.proofs.entries.look_at_stores.Goals as goal

pub loop-entry-preserved : goal.loop-entry-preserved
loop-entry-preserved g c = all_next (λ e. AreStores e.1.stores) c.args.items.now c.loop-entry.entry-index c.entry-item.result c.entry-item.is (omega arith) c.loop-entry.invariant c.len-count.ensures.sound
