-- Codes of running transactions.
--     session_tx_code, part_code    by which a proof tells two of them apart;  two parts that they had
use Rattle.std.specs.Coded.{Coded, codes}
use Rattle.clone_values.specs.KeyTree.{key_code}
use Rattle.clone_values.specs.Tree.{tree_code}
use Rattle.idb_keys.specs.KeyRange.{range_code}
use Rattle.indexed_records.specs.Contents.{records_code}
use Rattle.idb_databases.specs.Items.{database_code}
use Rattle.script_handlers.specs.Codes.{script_code}
use Rattle.session_txs.specs.Running.{SessionTxState, PartState}

pub session_tx_code : Coded SessionTxState
session_tx_code = hlevel (codes, database_code (hlevel (codes, records_code)), script_code, range_code, key_code, tree_code)

pub part_code : Coded PartState
part_code = hlevel (codes, database_code (hlevel (codes, records_code)), key_code, tree_code)
