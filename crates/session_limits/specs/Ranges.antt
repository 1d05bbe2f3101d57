-- Versions in range (Indexed Database API 3.0, "Database").
--     AreInRange            each schema of a beginning has a version of at most 2^53 - 1
use Rattle.std.specs.Prelude.{◌≤◌, List}
use Rattle.std.specs.List.{AllByRecursion}
use Rattle.idb_schema.specs.Schemas.{SchemaData}
use Rattle.idb_databases.specs.declared.limits.TheConstants.{GREATEST_VERSION}

abbrev pub AreInRange : List SchemaData → Type 0
AreInRange schemas = AllByRecursion (λ (s : SchemaData). s.version ≤ GREATEST_VERSION) schemas
