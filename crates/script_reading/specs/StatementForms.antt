-- The statements, the names of their fields, and which of them a statement must and may have.
--     op_named, field_name      the statement that a word names; the name of a field
--     needs, may_have           the fields that a statement must have, and those that it may have besides
--     field_of                  the field of a statement that has this name
--     op_in, complete_op        the statement that an object names; and where it has all that it needs
use Rattle.std.specs.Prelude.{ℕ, Bool, not, ◌&&◌, List, [], ◌∷◌, if◌then◌else◌, Option, Some, None, is_some, option_and_then, codes}
use Rattle.std.specs.Str.{bytes_eq}
use Rattle.std.specs.List.{find, list_all}
use Rattle.serde_json.specs.Data.{Data}
use Rattle.serde_json.specs.Find.{get, as_str}
use Rattle.script_exprs.specs.Forms.{where_so}
use Rattle.script_reading.specs.declared.ops.Op.{Op}
use Rattle.script_reading.specs.declared.ops.Op.TheVariants as op
use Rattle.script_reading.specs.declared.ops.Field.{Field}
use Rattle.script_reading.specs.declared.ops.Field.TheVariants as field

-- statements of tasks alone
abbrev pub task_named : List ℕ → Option Op
task_named word = if bytes_eq word (codes "open") then Some op.Open
    else if bytes_eq word (codes "deleteDatabase") then Some op.DeleteDatabase
    else if bytes_eq word (codes "close") then Some op.Close
    else if bytes_eq word (codes "transaction") then Some op.Transaction
    else None

-- statements of tasks and handlers
abbrev pub plain_named : List ℕ → Option Op
plain_named word = if bytes_eq word (codes "post") then Some op.Post
    else if bytes_eq word (codes "repeat") then Some op.Repeat
    else if bytes_eq word (codes "if") then Some op.If
    else if bytes_eq word (codes "let") then Some op.Let
    else if bytes_eq word (codes "say") then Some op.Say
    else if bytes_eq word (codes "throw") then Some op.Throw
    else None

-- requests of stores and indexes
abbrev pub request_named : List ℕ → Option Op
request_named word = if bytes_eq word (codes "add") then Some op.Add
    else if bytes_eq word (codes "put") then Some op.Put
    else if bytes_eq word (codes "get") then Some op.Get
    else if bytes_eq word (codes "getKey") then Some op.GetKey
    else if bytes_eq word (codes "count") then Some op.Count
    else if bytes_eq word (codes "getAll") then Some op.GetAll
    else if bytes_eq word (codes "getAllKeys") then Some op.GetAllKeys
    else if bytes_eq word (codes "delete") then Some op.Delete
    else if bytes_eq word (codes "clear") then Some op.Clear
    else None

-- cursors
abbrev pub cursor_named : List ℕ → Option Op
cursor_named word = if bytes_eq word (codes "openCursor") then Some op.OpenCursor
    else if bytes_eq word (codes "openKeyCursor") then Some op.OpenKeyCursor
    else if bytes_eq word (codes "continue") then Some op.Continue
    else if bytes_eq word (codes "continuePrimaryKey") then Some op.ContinuePrimaryKey
    else if bytes_eq word (codes "advance") then Some op.Advance
    else if bytes_eq word (codes "update") then Some op.Update
    else if bytes_eq word (codes "deleteHere") then Some op.DeleteHere
    else None

-- transactions and schemas
abbrev pub upgrade_named : List ℕ → Option Op
upgrade_named word = if bytes_eq word (codes "commit") then Some op.Commit
    else if bytes_eq word (codes "abort") then Some op.Abort
    else if bytes_eq word (codes "prevent") then Some op.Prevent
    else if bytes_eq word (codes "createObjectStore") then Some op.CreateObjectStore
    else if bytes_eq word (codes "deleteObjectStore") then Some op.DeleteObjectStore
    else if bytes_eq word (codes "createIndex") then Some op.CreateIndex
    else if bytes_eq word (codes "deleteIndex") then Some op.DeleteIndex
    else None

abbrev or_else : Option Op → Option Op → Option Op
or_else None other = other
or_else (Some o) other = Some o

unfoldable pub op_named : List ℕ → Option Op
op_named word = or_else (task_named word) (or_else (plain_named word) (or_else (request_named word) (or_else (cursor_named word) (upgrade_named word))))

abbrev pub field_name : Field → List ℕ
field_name field.Db = codes "db"
field_name field.Version = codes "version"
field_name field.Upgrade = codes "upgrade"
field_name field.Blocked = codes "blocked"
field_name field.Success = codes "success"
field_name field.Error = codes "error"
field_name field.VersionChange = codes "versionchange"
field_name field.Closed = codes "closed"
field_name field.Conn = codes "conn"
field_name field.Scope = codes "scope"
field_name field.Mode = codes "mode"
field_name field.Durability = codes "durability"
field_name field.Body = codes "body"
field_name field.Complete = codes "complete"
field_name field.Abort = codes "abort"
field_name field.Do = codes "do"
field_name field.Times = codes "times"
field_name field.Test = codes "test"
field_name field.Then = codes "then"
field_name field.Else = codes "else"
field_name field.Name = codes "name"
field_name field.Value = codes "value"
field_name field.Store = codes "store"
field_name field.Key = codes "key"
field_name field.Index = codes "index"
field_name field.Query = codes "query"
field_name field.Range = codes "range"
field_name field.Count = codes "count"
field_name field.Direction = codes "direction"
field_name field.PrimaryKey = codes "primaryKey"
field_name field.KeyPath = codes "keyPath"
field_name field.AutoIncrement = codes "autoIncrement"
field_name field.Unique = codes "unique"
field_name field.MultiEntry = codes "multiEntry"

abbrev pub needs : Op → List Field
needs op.Open = field.Db ∷ []
needs op.DeleteDatabase = field.Db ∷ []
needs op.Close = []
needs op.Transaction = field.Scope ∷ field.Mode ∷ field.Body ∷ []
needs op.Post = field.Do ∷ []
needs op.Repeat = field.Times ∷ field.Do ∷ []
needs op.If = field.Test ∷ []
needs op.Let = field.Name ∷ field.Value ∷ []
needs op.Say = field.Value ∷ []
needs op.Throw = []
needs op.Add = field.Store ∷ field.Value ∷ []
needs op.Put = field.Store ∷ field.Value ∷ []
needs op.Get = field.Store ∷ []
needs op.GetKey = field.Store ∷ []
needs op.Count = field.Store ∷ []
needs op.GetAll = field.Store ∷ []
needs op.GetAllKeys = field.Store ∷ []
needs op.Delete = field.Store ∷ []
needs op.Clear = field.Store ∷ []
needs op.OpenCursor = field.Store ∷ []
needs op.OpenKeyCursor = field.Store ∷ []
needs op.Continue = []
needs op.ContinuePrimaryKey = field.Key ∷ field.PrimaryKey ∷ []
needs op.Advance = field.Count ∷ []
needs op.Update = field.Value ∷ []
needs op.DeleteHere = []
needs op.Commit = []
needs op.Abort = []
needs op.Prevent = []
needs op.CreateObjectStore = field.Store ∷ []
needs op.DeleteObjectStore = field.Store ∷ []
needs op.CreateIndex = field.Store ∷ field.Index ∷ field.KeyPath ∷ []
needs op.DeleteIndex = field.Store ∷ field.Index ∷ []

abbrev pub may_have : Op → List Field
may_have op.Open = field.Version ∷ field.Upgrade ∷ field.Blocked ∷ field.Success ∷ field.Error ∷ field.VersionChange ∷ field.Closed ∷ []
may_have op.DeleteDatabase = field.Blocked ∷ field.Success ∷ field.Error ∷ []
may_have op.Close = field.Conn ∷ []
may_have op.Transaction = field.Conn ∷ field.Durability ∷ field.Complete ∷ field.Abort ∷ []
may_have op.Post = []
may_have op.Repeat = []
may_have op.If = field.Then ∷ field.Else ∷ []
may_have op.Let = []
may_have op.Say = []
may_have op.Throw = []
may_have op.Add = field.Key ∷ field.Success ∷ field.Error ∷ []
may_have op.Put = field.Key ∷ field.Success ∷ field.Error ∷ []
may_have op.Get = field.Index ∷ field.Query ∷ field.Range ∷ field.Success ∷ field.Error ∷ []
may_have op.GetKey = field.Index ∷ field.Query ∷ field.Range ∷ field.Success ∷ field.Error ∷ []
may_have op.Count = field.Index ∷ field.Query ∷ field.Range ∷ field.Success ∷ field.Error ∷ []
may_have op.GetAll = field.Index ∷ field.Query ∷ field.Range ∷ field.Count ∷ field.Success ∷ field.Error ∷ []
may_have op.GetAllKeys = field.Index ∷ field.Query ∷ field.Range ∷ field.Count ∷ field.Success ∷ field.Error ∷ []
may_have op.Delete = field.Query ∷ field.Range ∷ field.Success ∷ field.Error ∷ []
may_have op.Clear = field.Success ∷ field.Error ∷ []
may_have op.OpenCursor = field.Index ∷ field.Query ∷ field.Range ∷ field.Direction ∷ field.Success ∷ field.Error ∷ []
may_have op.OpenKeyCursor = field.Index ∷ field.Query ∷ field.Range ∷ field.Direction ∷ field.Success ∷ field.Error ∷ []
may_have op.Continue = field.Key ∷ []
may_have op.ContinuePrimaryKey = []
may_have op.Advance = []
may_have op.Update = field.Success ∷ field.Error ∷ []
may_have op.DeleteHere = field.Success ∷ field.Error ∷ []
may_have op.Commit = []
may_have op.Abort = []
may_have op.Prevent = []
may_have op.CreateObjectStore = field.KeyPath ∷ field.AutoIncrement ∷ []
may_have op.DeleteObjectStore = []
may_have op.CreateIndex = field.Unique ∷ field.MultiEntry ∷ []
may_have op.DeleteIndex = []

-- the field of this name among these
abbrev pub field_among : List Field → List ℕ → Option Field
field_among fields name = find (λ f. bytes_eq name (field_name f)) fields

abbrev pub or_field : Option Field → Option Field → Option Field
or_field None other = other
or_field (Some f) other = Some f

unfoldable pub field_of : Op → List ℕ → Option Field
field_of o name = or_field (field_among (needs o) name) (field_among (may_have o) name)

-- ---- an object
abbrev pub has_field : Data → Field → Bool
has_field d f = is_some (get (field_name f) d)

unfoldable pub op_in : Data → Option Op
op_in d = option_and_then op_named (option_and_then as_str (get (codes "op") d))

-- it has all that it needs, and no range beside a query
abbrev pub is_complete : Op → Data → Bool
is_complete o d = list_all (has_field d) (needs o) && not (has_field d field.Query && has_field d field.Range)

unfoldable pub complete_op : Data → Option Op
complete_op d = option_and_then (λ o. where_so (is_complete o d) o) (op_in d)
