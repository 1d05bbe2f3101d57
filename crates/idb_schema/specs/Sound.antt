-- What the schema of a database meets beside its names and ids.
--     AreSound              the definition of each store is as the standard asks
--     IsDatabaseSchema      a schema whose definitions are sound
use Rattle.std.specs.Prelude.{List}
use Rattle.std.specs.List.{AllByRecursion}
use Rattle.idb_schema.specs.declared.entries.StoreEntry.{StoreEntry}
use Rattle.idb_schema.specs.Definitions.{IsStoreInfo}
use Rattle.idb_schema.specs.Schemas.{SchemaData, IsSchema}

-- the definition of each store is as the standard asks
abbrev pub AreSound : List StoreEntry → Type 0
AreSound entries = AllByRecursion (λ e. IsStoreInfo e.info) entries

-- a schema whose definitions are sound
abbrev pub IsDatabaseSchema : SchemaData → Type 0
IsDatabaseSchema schema = IsSchema schema × AreSound schema.entries
