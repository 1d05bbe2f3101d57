-- What contracts see of a change.
--     delta_of              the change as plain data
use Rattle.clone_values.specs.View.{tree_of, key_tree_of}
use Rattle.idb_calls.specs.Deltas.{DeltaTree, Version, DropDatabase, CreateStore, DropStore, CreateIndex, DropIndex, Put, Remove, Clear, Current}
use Rattle.idb_calls.specs.declared.deltas.Delta.{Delta}
use Rattle.idb_calls.specs.declared.deltas.Delta.TheVariants as delta

abbrev pub delta_of : Delta → DeltaTree
delta_of (delta.Version db version) = Version db version
delta_of (delta.DropDatabase db) = DropDatabase db
delta_of (delta.CreateStore db store path auto) = CreateStore db store path auto
delta_of (delta.DropStore db store) = DropStore db store
delta_of (delta.CreateIndex db store index path unique multi) = CreateIndex db store index path unique multi
delta_of (delta.DropIndex db store index) = DropIndex db store index
delta_of (delta.Put db store key value) = Put db store (key_tree_of key) (tree_of value)
delta_of (delta.Remove db store key) = Remove db store (key_tree_of key)
delta_of (delta.Clear db store) = Clear db store
delta_of (delta.Current db store current) = Current db store current
