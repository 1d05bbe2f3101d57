-- The part of the databases that a scope takes out of them (Indexed Database API 3.0, "transaction", on scope).
--     scope_of              the scope of a transaction in this mode on these stores of a database
--     left_by, without_part what is left of a database;  and of all databases
--     put_if                the stores, with one under this name
--     with_stores_of        the stores, with those that others have under these names
--     joined_by, with_part  the database with the part that comes back;  and all databases
--     AreSoundDatabases              each store of each database is as the standard asks, and stands under its own name
use Rattle.std.specs.Prelude.{◌≡◌, Bool, not, List, [], ◌∷◌, Option, Some, None, option_map}
use Rattle.std.specs.FinMap as finite
use Rattle.idb_keys.specs.declared.names.Mode.{Mode}
use Rattle.object_stores.specs.Store.{Store}
use Rattle.item_changes.specs.Items.{Name, Database, Items, changed_at, stores_in}
use Rattle.item_changes.specs.Scopes.{Access, Reads, Writes, Whole, Scope, access_of, is_among}
use Rattle.idb_databases.specs.Stores.{Stores, AreStores}

abbrev pub scope_of : Mode → Name → List Name → Scope
scope_of mode database names = record { database = database; access = access_of mode names }

-- ---- what is left
abbrev pub is_not_among : List Name → Name → Bool
is_not_among names name = not (is_among names name)

abbrev pub without_stores_among : List Name → Database → Database
without_stores_among names d = record d { stores = finite.retain_keys d.stores (is_not_among names) }

-- the database keeps its version and its other stores
abbrev pub left_by : Access → Option Database → Option Database
left_by (Reads names) there = option_map (without_stores_among names) there
left_by (Writes names) there = option_map (without_stores_among names) there
left_by Whole there = None

abbrev pub without_part : Scope → Items → Items
without_part scope items = changed_at items scope.database (left_by scope.access)

-- ---- what comes back
-- the store under this name, if there is one; else what stands there stays
abbrev pub put_if : Stores → Name → Option Store → Stores
put_if stores name None = stores
put_if stores name (Some store) = finite.insert stores name store

-- each under its name, in the place of what stood there
abbrev pub put_all : List (Name × Store) → Stores → Stores
put_all [] stores = stores
put_all (e ∷ es) stores = finite.insert (put_all es stores) e.0 e.1

abbrev pub with_stores_of : List Name → Stores → Stores → Stores
with_stores_of names others stores = put_all (finite.entries (finite.retain_keys others (is_among names))) stores

abbrev pub joined_with : List Name → Stores → Database → Database
joined_with names others d = record d { stores = with_stores_of names others d.stores }

-- the whole database stands as it comes back; else the stores of the scope do
abbrev pub joined_by : Access → Option Database → Option Database → Option Database
joined_by (Reads names) part there = option_map (joined_with names (stores_in part)) there
joined_by (Writes names) part there = option_map (joined_with names (stores_in part)) there
joined_by Whole part there = part

abbrev pub with_part : Scope → Items → Option Database → Items
with_part scope items part = changed_at items scope.database (joined_by scope.access part)

-- ---- soundness
abbrev pub AreSoundDatabases : Items → Type 0
AreSoundDatabases items = (name : Name) (d : Database) → finite.get items name ≡ Some d → AreStores d.stores
