-- What contracts see of the databases of a session.
--     database_seen, session_items     a database with its stores;  and the databases by name
--     all_inserted          stores put in one after the other, each under its own name
use Rattle.std.specs.Prelude.{List, [], ◌∷◌}
use Rattle.std.specs.FinMap as finite
use Rattle.object_stores.specs.Store.{Kept}
use Rattle.item_changes.specs.Items.{Name, Database, Items}
use Rattle.idb_databases.specs.Named.{with_values}
use Rattle.idb_databases.specs.Stores.{Stores}
use Rattle.session_databases.specs.declared.entries.SessionDatabase.{SessionDatabase}

abbrev pub database_seen : {T R W : Type 0} → SessionDatabase T R W → Database
database_seen d = record { version = d.version; stores = d.stores }

abbrev pub session_items : {T R W : Type 0} → List (Name × SessionDatabase T R W) → Items
session_items es = finite.from_entries (with_values database_seen es)

abbrev pub all_inserted : List (Name × Kept) → Stores → Stores
all_inserted [] stores = stores
all_inserted (e ∷ es) stores = all_inserted es (finite.insert stores e.1.store.info.name e.1.store)
