-- The databases as plain data (Indexed Database API 3.0, "database").
--     Name, name_cmp, is_same_name  a name is the list of its UTF-8 bytes; names stand in the order of their bytes
--     Database, Items       a version, and the stores by name;  the databases by name
--     new_database          a database without stores
--     stood_at, changed_at  the map with this at a key, or with nothing there;  the map after a change of what stands at a key
--     stores_at, store_at   the stores of the database of a name;  the store of a name there
use Rattle.std.specs.Prelude.{ℕ, Bool, List, Option, Some, None, option_and_then}
use Rattle.std.specs.FinMap as finite
use Rattle.std.specs.FinMap.{FinMap}
use Rattle.std.specs.declared.cmp.Ordering.{Ordering}
use Rattle.std.specs.Ordering.{nat_cmp, eq_by_cmp}
use Rattle.std.specs.Cmp.Lexicographic.{slice_cmp}
use Rattle.object_stores.specs.Store.{Store}

abbrev pub Name : Type 0
Name = List ℕ

abbrev pub name_cmp : Name → Name → Ordering
name_cmp = slice_cmp nat_cmp

abbrev pub is_same_name : Name → Name → Bool
is_same_name = eq_by_cmp name_cmp

-- its own name stands outside
pub record Database : Type 0 where
  pub version : ℕ
  pub stores : FinMap name_cmp Store

abbrev pub Items : Type 0
Items = FinMap name_cmp Database

abbrev pub new_database : ℕ → Database
new_database version = record { version = version; stores = finite.empty }

-- the value stands at the key, or nothing does
abbrev pub stood_at : {K X : Type 0} {R : K → K → Ordering} → FinMap R X → K → Option X → FinMap R X
stood_at m k (Some x) = finite.insert m k x
stood_at m k None = finite.remove m k

-- the one way in which items change: what the change makes of that which stands at the key, if anything does
abbrev pub changed_at : {K X : Type 0} {R : K → K → Ordering} → FinMap R X → K → (Option X → Option X) → FinMap R X
changed_at m k change = stood_at m k (change (finite.get m k))

-- none where there is no such database
abbrev pub stores_in : Option Database → FinMap name_cmp Store
stores_in None = finite.empty
stores_in (Some d) = d.stores

abbrev pub stores_at : Items → Name → FinMap name_cmp Store
stores_at items db = stores_in (finite.get items db)

-- none where there is no such database, or no such store in it
abbrev pub store_at : Items → Name → Name → Option Store
store_at items db store = option_and_then (λ d. finite.get d.stores store) (finite.get items db)
