-- The databases as the desk sees them (Indexed Database API 3.0, "Database").
--     database_in, database_under      the schema of the database of a name, as its last finished upgrade left it
use Rattle.std.specs.Prelude.{ℕ, List, [], ◌∷◌, Option, Some, None, if◌then◌else◌}
use Rattle.idb_schema.specs.Schemas.{SchemaData}
use Rattle.name_queues.specs.Names.{is_name}
use Rattle.name_queues.specs.declared.names.Named.{Named}
use Rattle.desk_steps.specs.Desks.{DeskState}

-- the schema of the database of this name; none where there is no database
abbrev pub database_in : List Named → List ℕ → Option SchemaData
database_in [] name = None
database_in (n ∷ ns) name = if is_name name n then n.database else database_in ns name

abbrev pub database_under : DeskState → List ℕ → Option SchemaData
database_under d name = database_in d.queues.names name
