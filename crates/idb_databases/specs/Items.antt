-- What the databases of a program meet (Indexed Database API 3.0, "database").
--     IsVersionNumber       from 1 to 2^53 - 1
--     IsDatabase, AreItems  a database is of such a version and such stores;  each database is one
--     fits_stores, is_within_limits         a database has at most 63 stores;  each does, and there are at most 16
--     database_code         how a database is stored
use Rattle.std.specs.Prelude.{◌≡◌, ℕ, ◌≤◌, nat_le, Bool, ◌&&◌, Some, refl}
use Rattle.std.specs.List.{list_all}
use Rattle.std.specs.FinMap as finite
use Rattle.std.specs.Coded.{Coded, code_by, coded×, coded_ℕ}
use Rattle.item_changes.specs.Store.{Store}
use Rattle.item_changes.specs.Items.{Name, Database, Items}
use Rattle.idb_databases.specs.Named.{names_code}
use Rattle.idb_databases.specs.Stores.{Stores, AreStores}
use Rattle.idb_databases.specs.declared.limits.TheConstants.{GREATEST_VERSION, GREATEST_DATABASE_COUNT, GREATEST_STORE_COUNT}

abbrev pub IsVersionNumber : ℕ → Type 0
IsVersionNumber version = (1 ≤ version) × (version ≤ GREATEST_VERSION)

pub record IsDatabase (d : Database) : Type 0 where
  pub version : IsVersionNumber d.version
  pub stores : AreStores d.stores

abbrev pub AreItems : Items → Type 0
AreItems items = (name : Name) (d : Database) → finite.get items name ≡ Some d → IsDatabase d

abbrev pub fits_stores : Database → Bool
fits_stores d = nat_le (finite.len d.stores) GREATEST_STORE_COUNT

-- no part of what always holds: a change may pass the limits where a later one takes it back
abbrev pub is_within_limits : Items → Bool
is_within_limits items = nat_le (finite.len items) GREATEST_DATABASE_COUNT && list_all fits_stores (finite.values items)

-- as its version and its stores
abbrev pub database_code : Coded Store → Coded Database
database_code store = code_by (ℕ × Stores) (coded× coded_ℕ (finite.code names_code store)) (λ d. (d.version, d.stores)) (λ p. record { version = p.0; stores = p.1 }) (λ _. refl)
