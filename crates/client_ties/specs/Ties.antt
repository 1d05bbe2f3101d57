-- A client's transactions are those of the desk that it made.
--     shown_tx              a client's transaction, as the desk shows it
--     IsTied                the desk's unfinished ones that it made are the client's, in the same order, each started here
--                           where it is started there
use Rattle.std.specs.Prelude.{◌≡◌, ℕ, map}
use Rattle.idb_desk.specs.Desks.{DeskState}
use Rattle.client_machine.specs.ClientStates.{ClientTx, ClientState}
use Rattle.client_ties.specs.Unfinished.{UnfinishedTx, own_unfinished}

abbrev pub shown_tx : ℕ → ClientTx → UnfinishedTx
shown_tx client tx = record { number = tx.number; client = client; started = tx.started }

pub record IsTied (d : DeskState) (c : ClientState) : Type 0 where
  pub txs : own_unfinished d c.number ≡ map (shown_tx c.number) c.txs
