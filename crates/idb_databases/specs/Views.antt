-- What contracts see of databases by name.
--     database_alone, database_entry        of a database: its version and its stores, and its name with them
--     items_seen            the databases by name
--     AreDatabases          the names rise strictly, and each database has its name and is as it should be
use Rattle.std.specs.Prelude.{◌≡◌, List}
use Rattle.std.specs.FinMap as finite
use Rattle.std.specs.List.{AllByRecursion}
use Rattle.sorted_table.specs.Tables.{IsSorted}
use Rattle.item_changes.specs.Items as items
use Rattle.item_changes.specs.Items.{Name, name_cmp, Items}
use Rattle.idb_databases.specs.declared.databases.Database.{Database}
use Rattle.idb_databases.specs.Named.{with_values}
use Rattle.idb_databases.specs.Items.{IsDatabase}

abbrev pub database_alone : {T R W : Type 0} → Database T R W → items.Database
database_alone d = record { version = d.version; stores = d.stores }

abbrev pub database_entry : {T R W : Type 0} → Database T R W → Name × items.Database
database_entry d = (d.name, record { version = d.version; stores = d.stores })

abbrev pub items_seen : {T R W : Type 0} → List (Name × Database T R W) → Items
items_seen es = finite.from_sorted (with_values database_alone es)

pub record AreDatabases {T R W : Type 0} (es : List (Name × Database T R W)) : Type 0 where
  pub sorted : IsSorted name_cmp es
  pub sound : AllByRecursion (λ e. (e.1.name ≡ e.0) × IsDatabase (database_alone e.1)) es
