-- The databases of a session are those that its desk has.
--     IsDatabaseOf          a schema is that of the database of a name: it has its version, and tells its stores, whole
--     AgreesAt              what the desk has under a name, and what the items have there
--     IsShown               of every name
--     IsSoundKept           a schema that is kept is one that a program can have
use Rattle.std.specs.Prelude.{◌≡◌, true, Option, Some, None, ⊤}
use Rattle.std.specs.FinMap as finite
use Rattle.idb_schema.specs.Schemas.{SchemaData, IsSchema}
use Rattle.idb_desk.specs.Databases.{database_under}
use Rattle.idb_desk.specs.Steps.{desk_run}
use Rattle.item_changes.specs.Items.{Name, Database}
use Rattle.machine_laws.specs.Keeping.{Shows}
use Rattle.session_states.specs.Sessions.{SessionNow}

pub record IsDatabaseOf (name : Name) (schema : SchemaData) (x : Database) : Type 0 where
  pub sound : IsSchema schema
  pub name_is : schema.name ≡ name
  pub version_is : schema.version ≡ x.version
  pub stores : Shows true schema (Some x)

abbrev pub AgreesAt : Name → Option SchemaData → Option Database → Type 0
AgreesAt name None None = ⊤
AgreesAt name (Some schema) (Some x) = IsDatabaseOf name schema x
AgreesAt name None (Some x) = ⊥
AgreesAt name (Some schema) None = ⊥

pub record IsShown (now : SessionNow) : Type 0 where
  pub each : (name : Name) → AgreesAt name (database_under (desk_run now.run) name) (finite.get now.items name)

abbrev pub IsSoundKept : Option SchemaData → Type 0
IsSoundKept None = ⊤
IsSoundKept (Some schema) = IsSchema schema
