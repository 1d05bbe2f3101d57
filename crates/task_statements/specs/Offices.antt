-- A desk with one of its clients.
--     OfficeState           the client's blocks, the client, and the run of the desk
use Rattle.std.specs.Prelude.{List}
use Rattle.idb_desk.specs.Steps.{DeskRun}
use Rattle.script_statements.specs.declared.script.Block.{Block as Named}
use Rattle.client_machine.specs.ClientStates.{ClientState}

pub record OfficeState : Type 0 where
  pub blocks : List Named
  pub client : ClientState
  pub run : DeskRun
