use Rattle.std.proofs.Common.{subst}
use Rattle.item_changes.specs.Items.{stores_in}
use Rattle.idb_databases.specs.Stores.{AreStores}
use Rattle.live_tx.specs.Live.{LiveState}
use Rattle.live_tx.proofs.live.LiveTx.stand_sound.Goals as goal

pub returns : goal.returns
returns g c = subst (λ (t : LiveState _). AreStores (stores_in t.state.database)) c.self.view_is c.stand_sound.ensures
