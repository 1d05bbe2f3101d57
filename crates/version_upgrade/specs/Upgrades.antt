-- The calls of an upgrade (Indexed Database API 3.0, "createObjectStore", "deleteObjectStore", "createIndex" and "deleteIndex").
--     has_store, has_index  whether a name is taken
--     refusal_of_schema     the first cause for which a schema refuses a call, in the standard's order
--     schema_after          the schema that a call leaves
use Rattle.std.specs.Prelude.{ℕ, Bool, true, not, ◌&&◌, List, [], ◌∷◌, if◌then◌else◌, Option, Some, None, is_some, unwrap_or, option_map}
use Rattle.std.specs.Option.{option_and_then}
use Rattle.clone_values.specs.declared.path_types.PathSpec.{PathSpec}
use Rattle.path_grammar.specs.KeyPath.{is_key_path}
use Rattle.idb_keys.specs.declared.names.ErrorName.{ErrorName}
use Rattle.idb_keys.specs.declared.names.ErrorName.TheVariants.{SyntaxError, ConstraintError, InvalidAccessError, NotFoundError}
use Rattle.idb_schema.specs.declared.calls.SchemaCall.{SchemaCall}
use Rattle.idb_schema.specs.declared.calls.SchemaCall.TheVariants.{CreateStore, DropStore, CreateIndex, DropIndex}
use Rattle.idb_schema.specs.declared.definitions.IndexInfo.{IndexInfo}
use Rattle.idb_schema.specs.declared.identities.StoreId.{StoreId}
use Rattle.idb_schema.specs.Definitions.{store_named, index_named, is_list_path, takes_generator}
use Rattle.idb_schema.specs.Schemas.{SchemaData, stores_of, indexes_at, place_of, with_store, without_store, with_index, without_index}

-- ---- what is asked
-- the database has a store of this name
abbrev pub has_store : SchemaData → List ℕ → Bool
has_store schema name = is_some (store_named (stores_of schema) name)

-- the indexes of the store that the id names; none where it is deleted
abbrev pub indexes_of : SchemaData → StoreId → List IndexInfo
indexes_of schema store = unwrap_or (option_map (indexes_at schema) (place_of schema store)) []

-- that store has an index of this name
abbrev pub has_index : SchemaData → StoreId → List ℕ → Bool
has_index schema store name = is_some (index_named (indexes_of schema store) name)

-- no path, or one that the grammar has
abbrev pub is_valid_path : Option PathSpec → Bool
is_valid_path None = true
is_valid_path (Some path) = is_key_path path

-- the name beside the first of these that holds
abbrev pub first_of : List (Bool × ErrorName) → Option ErrorName
first_of [] = None
first_of (cause ∷ causes) = if cause.0 then Some cause.1 else first_of causes

abbrev pub refusal_of_new_store : SchemaData → List ℕ → Option PathSpec → Bool → Option ErrorName
refusal_of_new_store schema name path auto = first_of (
    (not (is_valid_path path), SyntaxError)
    ∷ (has_store schema name, ConstraintError)
    ∷ (auto && not (takes_generator path), InvalidAccessError)
    ∷ [])

abbrev pub refusal_of_new_index : SchemaData → StoreId → List ℕ → PathSpec → Bool → Option ErrorName
refusal_of_new_index schema store name path multi = first_of (
    (has_index schema store name, ConstraintError)
    ∷ (not (is_key_path path), SyntaxError)
    ∷ (multi && is_list_path path, InvalidAccessError)
    ∷ [])

-- what was asked before: that an upgrade is running, that it is active, and that the store isn't deleted
abbrev pub refusal_of_schema : SchemaData → SchemaCall → Option ErrorName
refusal_of_schema schema (CreateStore name path auto) = refusal_of_new_store schema name path auto
refusal_of_schema schema (DropStore name) = first_of ((not (has_store schema name), NotFoundError) ∷ [])
refusal_of_schema schema (CreateIndex store name path unique multi) = refusal_of_new_index schema store name path multi
refusal_of_schema schema (DropIndex store name) = first_of ((not (has_index schema store name), NotFoundError) ∷ [])

-- ---- what is made
abbrev pub without_named : SchemaData → List ℕ → SchemaData
without_named schema name = unwrap_or (option_map (without_store schema) (store_named (stores_of schema) name)) schema

abbrev pub with_index_at : SchemaData → StoreId → IndexInfo → SchemaData
with_index_at schema store index = unwrap_or (option_map (λ place. with_index schema place index) (place_of schema store)) schema

abbrev pub without_index_named : SchemaData → StoreId → List ℕ → SchemaData
without_index_named schema store name = unwrap_or (option_and_then (λ at. option_map (without_index schema at) (index_named (indexes_at schema at) name)) (place_of schema store)) schema

abbrev pub schema_after : SchemaData → SchemaCall → SchemaData
schema_after schema (CreateStore name path auto) = with_store schema (record { name = name; path = path; auto = auto; indexes = [] })
schema_after schema (DropStore name) = without_named schema name
schema_after schema (CreateIndex store name path unique multi) = with_index_at schema store (record { name = name; path = path; unique = unique; multi = multi })
schema_after schema (DropIndex store name) = without_index_named schema store name
