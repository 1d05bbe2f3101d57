-- Scopes of transactions (Indexed Database API 3.0, "transaction", on scope and mode).
--     Access, Scope         the stores that are read, or also written, by name, or the whole database;  with the database
--     access_of             what a mode gives on these stores
--     is_among, share_name  the name is one of these;  a name stands in both lists
--     clashes, scopes_conflict      not both can be under way at once
--     allows, is_within, AllWithin  a scope lets a change be made
--     seen_by, part_of      the part of the items that a scope names: its database, with the stores that it names
use Rattle.std.specs.Prelude.{◌≡◌, Bool, true, false, ◌&&◌, List, Option, Some, None}
use Rattle.std.specs.List.{list_any, AllByRecursion}
use Rattle.std.specs.FinMap as finite
use Rattle.idb_keys.specs.declared.names.Mode.{Mode}
use Rattle.idb_keys.specs.declared.names.Mode.TheVariants as mode
use Rattle.idb_calls.specs.Deltas.{DeltaTree}
use Rattle.item_changes.specs.Items.{Name, Database, Items, is_same_name}
use Rattle.item_changes.specs.Effects.{Effect, OnDatabase, OnStore, effect_of, database_of}

-- an upgrade and a deletion have the whole database
pub data Access : Type 0 where
  Reads : List Name → Access
  Writes : List Name → Access
  Whole : Access

pub record Scope : Type 0 where
  pub database : Name
  pub access : Access

abbrev pub access_of : Mode → List Name → Access
access_of mode.ReadOnly stores = Reads stores
access_of mode.ReadWrite stores = Writes stores
access_of mode.VersionChange stores = Whole

abbrev pub is_among : List Name → Name → Bool
is_among names name = list_any (is_same_name name) names

abbrev pub share_name : List Name → List Name → Bool
share_name names others = list_any (is_among others) names

-- they share a store, and not both only read
abbrev pub clashes : Access → Access → Bool
clashes (Reads xs) (Reads ys) = false
clashes (Reads xs) (Writes ys) = share_name xs ys
clashes (Writes xs) (Reads ys) = share_name xs ys
clashes (Writes xs) (Writes ys) = share_name xs ys
clashes (Reads xs) Whole = true
clashes (Writes xs) Whole = true
clashes Whole a = true

abbrev pub scopes_conflict : Scope → Scope → Bool
scopes_conflict a b = is_same_name a.database b.database && clashes a.access b.access

-- a writer changes its stores, and nothing else of the database
abbrev pub allows : Access → Effect → Bool
allows (Reads xs) effect = false
allows (Writes xs) (OnDatabase test make) = false
allows (Writes xs) (OnStore store test make) = is_among xs store
allows Whole effect = true

abbrev pub is_within : Scope → DeltaTree → Bool
is_within scope delta = is_same_name scope.database (database_of delta) && allows scope.access (effect_of delta)

abbrev pub AllWithin : Scope → List DeltaTree → Type 0
AllWithin scope deltas = AllByRecursion (λ delta. is_within scope delta ≡ true) deltas

abbrev pub with_stores_among : List Name → Database → Database
with_stores_among names d = record d { stores = finite.retain_keys d.stores (is_among names) }

abbrev pub seen_by : Access → Option Database → Option Database
seen_by access None = None
seen_by (Reads xs) (Some d) = Some (with_stores_among xs d)
seen_by (Writes xs) (Some d) = Some (with_stores_among xs d)
seen_by Whole (Some d) = Some d

abbrev pub part_of : Scope → Items → Option Database
part_of scope items = seen_by scope.access (finite.get items scope.database)
