-- The numbers of items. An item is a store of a database, or its schema; a database has 64 items, from 64 times its place on.
--     is_placed_name, is_free_place     the place is that of a name; no database is there, and no transaction of it is unfinished
--     with_place            the places, with one for this name
--     place_of_name         the place of a name
--     whole_database        the items of a database
--     store_item, scope_items           the item of a store; those of a scope
--     one_more_unfinished, one_less_unfinished   a transaction of the database begins, or is finished
--     with_existence        the database exists from now on, or doesn't
--     places_of_schemas     the places at the beginning
use Rattle.std.specs.Prelude.{ℕ, zero, suc, ◌+◌, ◌-◌, ◌*◌, Bool, true, false, not, ◌&&◌, ◌==◌, nat_eq, List, [], ◌∷◌, ◌++◌, map, if◌then◌else◌, unwrap_or}
use Rattle.std.specs.List.{list_any, position_or_len}
use Rattle.std.specs.Cmp.Lexicographic.{pointwise}
use Rattle.idb_schema.specs.Schemas.{SchemaData, stores_of}
use Rattle.idb_schema.specs.Definitions.{store_named}
use Rattle.name_queues.specs.Names.{at_first}
use Rattle.desk_steps.specs.declared.stands.DeskPlace.{DeskPlace}

-- ---- places
abbrev pub is_placed_name : List ℕ → DeskPlace → Bool
is_placed_name name p = pointwise nat_eq p.name name

abbrev pub is_free_place : DeskPlace → Bool
is_free_place p = not p.exists && (p.unfinished == 0)

abbrev pub new_place : List ℕ → DeskPlace
new_place name = record { name = name; exists = false; unfinished = 0 }

-- at the first free place, or behind the last
abbrev pub put_place : List ℕ → List DeskPlace → List DeskPlace
put_place name places =
    if list_any is_free_place places then at_first is_free_place (λ p. new_place name) places
    else places ++ new_place name ∷ []

-- a name keeps its place
abbrev pub with_place : List ℕ → List DeskPlace → List DeskPlace
with_place name places = if list_any (is_placed_name name) places then places else put_place name places

-- the count of places, where the name has none
abbrev pub place_of_name : List ℕ → List DeskPlace → ℕ
place_of_name name places = position_or_len (is_placed_name name) places

abbrev pub one_more_unfinished : DeskPlace → DeskPlace
one_more_unfinished p = record { name = p.name; exists = p.exists; unfinished = p.unfinished + 1 }

abbrev pub one_less_unfinished : DeskPlace → DeskPlace
one_less_unfinished p = record { name = p.name; exists = p.exists; unfinished = p.unfinished - 1 }

abbrev pub with_existence : Bool → DeskPlace → DeskPlace
with_existence exists p = record { name = p.name; exists = exists; unfinished = p.unfinished }

-- the place is changed
abbrev pub at_place : List ℕ → (DeskPlace → DeskPlace) → List DeskPlace → List DeskPlace
at_place name f places = at_first (is_placed_name name) f places

abbrev pub place_of_schema : SchemaData → DeskPlace
place_of_schema s = record { name = s.name; exists = true; unfinished = 0 }

-- the databases of the beginning, in their order
abbrev pub places_of_schemas : List SchemaData → List DeskPlace
places_of_schemas schemas = map place_of_schema schemas

-- ---- items
-- so many numbers, from this one on
abbrev pub numbers_from : ℕ → ℕ → List ℕ
numbers_from zero first = []
numbers_from (suc n) first = first ∷ numbers_from n (first + 1)

-- the schema's item, and those of 63 stores; `unfoldable`, since it is a long list
unfoldable pub whole_database : ℕ → List ℕ
whole_database place = numbers_from 64 (64 * place)

-- the item of a store, by its place among the stores of the schema
abbrev pub store_item : ℕ → SchemaData → List ℕ → ℕ
store_item place schema name = 64 * place + 1 + unwrap_or (store_named (stores_of schema) name) 0

abbrev pub scope_items : ℕ → SchemaData → List (List ℕ) → List ℕ
scope_items place schema scope = map (store_item place schema) scope
