-- What contracts see of stores by name.
--     store_alone, store_entry      of a store with its past: the store as it is, and its name with it
--     stores_seen           the stores by name, without their past
--     Stores, AreStores     stores by name;  each is as the standard asks, and stands under its own name
--     AreVersions           the names rise strictly, and each store has its name and is as it should be
use Rattle.std.specs.Prelude.{◌≡◌, List, Some}
use Rattle.std.specs.FinMap as finite
use Rattle.std.specs.FinMap.{FinMap}
use Rattle.std.specs.List.{AllByRecursion}
use Rattle.sorted_table.specs.Tables.{IsSorted}
use Rattle.item_changes.specs.Store.{Store, Kept}
use Rattle.item_changes.specs.IsStore.{IsStore}
use Rattle.item_changes.specs.Items.{Name, name_cmp}
use Rattle.idb_databases.specs.Named.{with_values}

abbrev pub Stores : Type 0
Stores = FinMap name_cmp Store

-- the store is as the standard asks, and has this name
abbrev pub IsStoreNamed : Name → Store → Type 0
IsStoreNamed name store = (store.info.name ≡ name) × IsStore store

abbrev pub AreStores : Stores → Type 0
AreStores stores = (name : Name) (store : Store) → finite.get stores name ≡ Some store → IsStoreNamed name store

abbrev pub store_alone : Kept → Store
store_alone kept = kept.store

abbrev pub store_entry : Kept → Name × Store
store_entry kept = (kept.store.info.name, kept.store)

abbrev pub stores_seen : List (Name × Kept) → Stores
stores_seen es = finite.from_sorted (with_values store_alone es)

pub record AreVersions (es : List (Name × Kept)) : Type 0 where
  pub sorted : IsSorted name_cmp es
  pub sound : AllByRecursion (λ e. IsStoreNamed e.0 e.1.store) es
