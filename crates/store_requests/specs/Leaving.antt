-- What the changes of a request make of its database.
--     with_named_store            the database with this store under its name
--     Leaves                each change finds what it needs, they leave the store that the request left, and a scope that names the
--                           store to write allows them
use Rattle.std.specs.Prelude.{◌≡◌, true, List, Some}
use Rattle.std.specs.FinMap as finite
use Rattle.item_changes.specs.Store.{Store}
use Rattle.item_changes.specs.Items.{Name, Database}
use Rattle.item_changes.specs.Effects.{made_all, finds_all}
use Rattle.item_changes.specs.Scopes.{Writes, Whole, is_among, AllWithin}
use Rattle.store_requests.specs.Runs.{Ran}
use Rattle.store_requests.specs.declared.changes.StoreNames.{StoreNames}

abbrev pub with_named_store : Database → Name → Store → Database
with_named_store d name store = record d { stores = finite.insert d.stores name store }

-- of every database in which the store stood as it was
pub record Leaves (named : StoreNames) (old : Store) (ran : Ran) : Type 0 where
  pub find : (d : Database) → finite.get d.stores named.store ≡ Some old → finds_all ran.changes (Some d) ≡ true
  pub make : (d : Database) → finite.get d.stores named.store ≡ Some old → made_all ran.changes (Some d) ≡ Some (with_named_store d named.store ran.store)
  pub writes : (names : List Name) → is_among names named.store ≡ true → AllWithin (record { database = named.database; access = Writes names }) ran.changes
  pub upgrades : AllWithin (record { database = named.database; access = Whole }) ran.changes
