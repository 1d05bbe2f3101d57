-- The state of a transaction while its list is run (Indexed Database API 3.0, "transaction" and "transaction lifetime").
--     State                 its front, its database before it and now, and what it changed so far
--     opening_changes       an upgrade's first change is the version of its database
--     fresh_state           the state of a transaction whose body has run
--     bytes_of_value        the bytes of a value that count for the limit
use Rattle.std.specs.Prelude.{ℕ, List, [], ◌∷◌, length, Option}
use Rattle.clone_values.specs.View.{tree_of}
use Rattle.clone_values.specs.declared.value_types.Value.{Value}
use Rattle.value_bytes.specs.Spelling.{spelling_of}
use Rattle.idb_keys.specs.declared.names.Mode.{Mode}
use Rattle.idb_keys.specs.declared.names.Mode.TheVariants as mode
use Rattle.idb_schema.specs.Schemas.{SchemaData}
use Rattle.idb_calls.specs.Deltas.{DeltaTree, Version}
use Rattle.store_requests.specs.Items.{Name, Database}
use Rattle.store_requests.specs.Effects.{made_all}
use Rattle.request_lists.specs.Fronts.{Front}

-- The schema is as the entries that have run left it; the front's own is as the calls left it, and so ahead. The changes stand in the
-- order in which they took effect. The counts are of the requests that have run, and of the bytes of the values that these stored.
pub record State (D : Type 0) : Type 0 where
  pub front : Front D
  pub name : Name
  pub schema : SchemaData
  pub before : Option Database
  pub database : Option Database
  pub changes : List DeltaTree
  pub requests : ℕ
  pub bytes : ℕ

abbrev pub opening_changes : Mode → SchemaData → List DeltaTree
opening_changes mode.ReadOnly schema = []
opening_changes mode.ReadWrite schema = []
opening_changes mode.VersionChange schema = Version schema.name schema.version ∷ []

-- with the front as its body left it, and the schema with which that front was made
abbrev pub fresh_state : {D : Type 0} → Front D → SchemaData → Option Database → State D
fresh_state front schema before = record {
  front = front;
  name = schema.name;
  schema = schema;
  before = before;
  database = made_all (opening_changes front.mode schema) before;
  changes = opening_changes front.mode schema;
  requests = 0;
  bytes = 0;
}

abbrev pub bytes_of_value : Value → ℕ
bytes_of_value value = length (spelling_of (tree_of value))
