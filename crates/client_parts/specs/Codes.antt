-- Codes of what clients have, by which a proof tells two apart. Each is found once, and stays shut.
--     begun_code, tx_code, open_code, client_code           of a begun transaction; of a transaction; of an open; of a client
use Rattle.std.specs.Coded.{Coded, codes}
use Rattle.clone_values.specs.KeyTree.{key_code}
use Rattle.clone_values.specs.Tree.{tree_code}
use Rattle.idb_keys.specs.KeyRange.{range_code}
use Rattle.client_seats.specs.FinishEntries.{ScriptedBody, TxBody}
use Rattle.script_handlers.specs.Codes.{script_code}
use Rattle.script_handlers.specs.Handling.{Script}
use Rattle.client_seats.specs.ClientStates.{OpenAsked, ClientTxKind, ClientTx, ClientState}
use Rattle.client_parts.specs.Begun.{BegunState}

scripted_code : Coded (ScriptedBody Script)
scripted_code = hlevel (codes, script_code, range_code, key_code, tree_code)

pub begun_code : Coded BegunState
begun_code = hlevel (codes, scripted_code)

body_code : Coded (TxBody Script)
body_code = hlevel (codes, scripted_code)

kind_code : Coded ClientTxKind
kind_code = hlevel (codes, tree_code)

pub tx_code : Coded ClientTx
tx_code = hlevel (codes, kind_code, body_code)

pub open_code : Coded OpenAsked
open_code = hlevel (codes, tree_code)

pub client_code : Coded ClientState
client_code = hlevel (codes, open_code, tx_code, tree_code)
