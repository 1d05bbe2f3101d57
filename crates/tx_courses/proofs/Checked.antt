-- What a call of an upgrade that no cause refuses brings.
--     store_path, store_sound       the path and the definition of a new store
--     index_path, index_sound       and of a new index
use Rattle.std.proofs.Common.{◌≡◌, ℕ, Bool, true, false, not, ◌&&◌, ◌||◌, List, [], ◌∷◌, Option, None, refl, ap}
use Rattle.std.specs.List.{AllByRecursion}
use Rattle.clone_values.specs.declared.path_types.PathSpec.{PathSpec}
use Rattle.path_grammar.specs.KeyPath.{is_key_path}
use Rattle.idb_keys.specs.declared.names.ErrorName.{ErrorName}
use Rattle.idb_keys.specs.declared.names.ErrorName.TheVariants.{SyntaxError, ConstraintError, InvalidAccessError}
use Rattle.idb_schema.specs.declared.calls.SchemaCall.TheVariants.{CreateStore, CreateIndex}
use Rattle.idb_schema.specs.declared.identities.StoreId.{StoreId}
use Rattle.idb_schema.specs.Definitions.{IsStoreInfo, IsIndexInfo, is_list_path, takes_generator}
use Rattle.idb_schema.specs.Schemas.{SchemaData}
use Rattle.version_upgrade.specs.Upgrades.{first_of, has_store, has_index, is_valid_path, refusal_of_schema}

no_cause : (cs : List (Bool × ErrorName)) → first_of cs ≡ None → AllByRecursion (λ c. c.0 ≡ false) cs
no_cause [] e = tt
no_cause ((true, n) ∷ cs) e = cc
no_cause ((false, n) ∷ cs) e = (refl, no_cause cs e)

not_not : (b : Bool) → not b ≡ false → b ≡ true
not_not true e = refl
not_not false e = cc

takes_if : (auto takes : Bool) → (auto && not takes) ≡ false → ((not auto || takes) && true && true) ≡ true
takes_if false takes e = refl
takes_if true true e = refl
takes_if true false e = cc

module _ (schema : SchemaData) (name : List ℕ) (path : Option PathSpec) (auto : Bool) (taken : refusal_of_schema schema (CreateStore name path auto) ≡ None) where
  abbrev store_causes : List (Bool × ErrorName)
  store_causes = (not (is_valid_path path), SyntaxError) ∷ (has_store schema name, ConstraintError) ∷ (auto && not (takes_generator path), InvalidAccessError) ∷ []

  pub store_path : is_valid_path path ≡ true
  store_path = not_not (is_valid_path path) (no_cause store_causes taken).0

  pub store_sound : IsStoreInfo (record { name = name; path = path; auto = auto; indexes = [] })
  store_sound = takes_if auto (takes_generator path) (no_cause store_causes taken).1.1.0

module _ (schema : SchemaData) (store : StoreId) (name : List ℕ) (path : PathSpec) (unique multi : Bool) (taken : refusal_of_schema schema (CreateIndex store name path unique multi) ≡ None) where
  abbrev index_causes : List (Bool × ErrorName)
  index_causes = (has_index schema store name, ConstraintError) ∷ (not (is_key_path path), SyntaxError) ∷ (multi && is_list_path path, InvalidAccessError) ∷ []

  pub index_path : is_key_path path ≡ true
  index_path = not_not (is_key_path path) (no_cause index_causes taken).1.0

  pub index_sound : IsIndexInfo (record { name = name; path = path; unique = unique; multi = multi })
  index_sound = ap not (no_cause index_causes taken).1.1.0
