-- The statement that is made of its fields.
--     statement             none where a field that it needs wasn't read
use Rattle.std.specs.Prelude.{Option, Some, option_and_then}
use Rattle.script_reading.specs.declared.fields.Fields.{Fields}
use Rattle.script_reading.specs.declared.ops.Op.{Op}
use Rattle.script_reading.specs.declared.ops.Op.TheVariants as op
use Rattle.script_statements.specs.declared.statement.Stmt.{Stmt}
use Rattle.script_statements.specs.declared.statement.Stmt.TheVariants as stmt

infixl 10 ◌>>=◌
abbrev pub ◌>>=◌ : {A B : Type 0} → Option A → (A → Option B) → Option B
o >>= f = option_and_then f o

unfoldable pub statement : Op → Fields → Option Stmt
statement op.Open fs = do
  db ← fs.db
  Some (stmt.Open db fs.version fs.upgrade fs.blocked fs.success fs.error fs.version_change fs.closed)
statement op.DeleteDatabase fs = do
  db ← fs.db
  Some (stmt.DeleteDatabase db fs.blocked fs.success fs.error)
statement op.Close fs = Some (stmt.Close fs.conn)
statement op.Transaction fs = do
  scope ← fs.scope
  mode ← fs.mode
  body ← fs.body
  Some (stmt.Transaction fs.conn scope mode fs.durability body fs.complete fs.abort)
statement op.Post fs = do
  block ← fs.block
  Some (stmt.Post block)
statement op.Repeat fs = do
  times ← fs.times
  block ← fs.block
  Some (stmt.Repeat times block)
statement op.If fs = do
  test ← fs.test
  Some (stmt.If test fs.then fs.otherwise)
statement op.Let fs = do
  name ← fs.name
  value ← fs.value
  Some (stmt.Let name value)
statement op.Say fs = do
  value ← fs.value
  Some (stmt.Say value)
statement op.Throw fs = Some stmt.Throw
statement op.Add fs = do
  store ← fs.store
  value ← fs.value
  Some (stmt.Add store value fs.key fs.success fs.error)
statement op.Put fs = do
  store ← fs.store
  value ← fs.value
  Some (stmt.Put store value fs.key fs.success fs.error)
statement op.Get fs = do
  store ← fs.store
  Some (stmt.Get store fs.index fs.query fs.range fs.success fs.error)
statement op.GetKey fs = do
  store ← fs.store
  Some (stmt.GetKey store fs.index fs.query fs.range fs.success fs.error)
statement op.Count fs = do
  store ← fs.store
  Some (stmt.Count store fs.index fs.query fs.range fs.success fs.error)
statement op.GetAll fs = do
  store ← fs.store
  Some (stmt.GetAll store fs.index fs.query fs.range fs.count fs.success fs.error)
statement op.GetAllKeys fs = do
  store ← fs.store
  Some (stmt.GetAllKeys store fs.index fs.query fs.range fs.count fs.success fs.error)
statement op.Delete fs = do
  store ← fs.store
  Some (stmt.Delete store fs.query fs.range fs.success fs.error)
statement op.Clear fs = do
  store ← fs.store
  Some (stmt.Clear store fs.success fs.error)
statement op.OpenCursor fs = do
  store ← fs.store
  Some (stmt.OpenCursor store fs.index fs.query fs.range fs.direction fs.success fs.error)
statement op.OpenKeyCursor fs = do
  store ← fs.store
  Some (stmt.OpenKeyCursor store fs.index fs.query fs.range fs.direction fs.success fs.error)
statement op.Continue fs = Some (stmt.Continue fs.key)
statement op.ContinuePrimaryKey fs = do
  key ← fs.key
  primary_key ← fs.primary_key
  Some (stmt.ContinuePrimaryKey key primary_key)
statement op.Advance fs = do
  count ← fs.count
  Some (stmt.Advance count)
statement op.Update fs = do
  value ← fs.value
  Some (stmt.Update value fs.success fs.error)
statement op.DeleteHere fs = Some (stmt.DeleteHere fs.success fs.error)
statement op.Commit fs = Some stmt.Commit
statement op.Abort fs = Some stmt.Abort
statement op.Prevent fs = Some stmt.Prevent
statement op.CreateObjectStore fs = do
  store ← fs.store
  Some (stmt.CreateObjectStore store fs.key_path fs.auto_increment)
statement op.DeleteObjectStore fs = do
  store ← fs.store
  Some (stmt.DeleteObjectStore store)
statement op.CreateIndex fs = do
  store ← fs.store
  index ← fs.index
  key_path ← fs.key_path
  Some (stmt.CreateIndex store index key_path fs.unique fs.multi_entry)
statement op.DeleteIndex fs = do
  store ← fs.store
  index ← fs.index
  Some (stmt.DeleteIndex store index)
