-- The schema of a database that stands when a session begins (Indexed Database API 3.0, "Database").
--     infos_in              the definitions of the stores, in the order of the bytes of their names
--     opened_schema         the schema of the database of this name, with new numbers for its stores and indexes
use Rattle.std.specs.Prelude.{List, map}
use Rattle.std.specs.FinMap as finite
use Rattle.idb_schema.specs.declared.definitions.StoreInfo.{StoreInfo}
use Rattle.idb_schema.specs.Schemas.{SchemaData, new_schema}
use Rattle.item_changes.specs.Items.{Name, Database}
use Rattle.idb_databases.specs.Stores.{Stores}

abbrev pub infos_in : Stores → List StoreInfo
infos_in stores = map (λ e. e.1.info) (finite.entries stores)

abbrev pub opened_schema : Name × Database → SchemaData
opened_schema e = new_schema e.0 e.1.version (infos_in e.1.stores)
