-- Definitions stay sound through a call that is not refused.
--     sound_after             the schema after such a call, by what each change keeps
use Rattle.std.proofs.Common.{◌≡◌, ℕ, Bool, true, false, List, [], ◌∷◌, Option, Some, None, option_map, unwrap_or, refl, sym, ◌∙◌, ap}
use Rattle.std.specs.Prelude.{not, ◌&&◌, ◌||◌, is_some}
use Rattle.std.specs.Option.{option_and_then}
use Rattle.idb_keys.specs.declared.names.ErrorName.{ErrorName}
use Rattle.path_grammar.specs.KeyPath.{is_key_path}
use Rattle.clone_values.specs.declared.path_types.PathSpec.{PathSpec}
use Rattle.idb_schema.specs.declared.calls.SchemaCall.{SchemaCall}
use Rattle.idb_schema.specs.declared.calls.SchemaCall.TheVariants.{CreateStore, DropStore, CreateIndex, DropIndex}
use Rattle.idb_schema.specs.declared.definitions.IndexInfo.{IndexInfo}
use Rattle.idb_schema.specs.declared.definitions.StoreInfo.{StoreInfo}
use Rattle.idb_schema.specs.Definitions.{IsStoreInfo, IsIndexInfo, store_named, index_named, is_list_path, takes_generator}
use Rattle.idb_schema.specs.Schemas.{SchemaData, stores_of, indexes_at, place_of, with_store, without_store, with_index, without_index}
use Rattle.idb_schema.specs.Sound.{AreSound}
use Rattle.version_upgrade.specs.Upgrades.{first_of, has_store, has_index, is_valid_path, refusal_of_schema, schema_after}

-- where none of three causes holds
none_of : (a b c : Bool) (x y z : ErrorName) → first_of ((a, x) ∷ (b, y) ∷ (c, z) ∷ []) ≡ None → (a ≡ false) × (b ≡ false) × (c ≡ false)
none_of true b c x y z e = cc
none_of false true c x y z e = cc
none_of false false true x y z e = cc
none_of false false false x y z e = (refl, refl, refl)

is_none : {X : Type 0} (o : Option X) → is_some o ≡ false → o ≡ None
is_none None e = refl
is_none (Some x) e = cc

fits_generator : (auto takes : Bool) → (auto && not takes) ≡ false → (((not auto || takes) && true) && true) ≡ true
fits_generator true true e = refl
fits_generator true false e = cc
fits_generator false takes e = refl

module _ (new_store : (schema : SchemaData) (info : StoreInfo) → AreSound schema.entries → IsStoreInfo info → AreSound (with_store schema info).entries)
    (dropped_store : (schema : SchemaData) (place : ℕ) → AreSound schema.entries → AreSound (without_store schema place).entries)
    (new_index : (schema : SchemaData) (store : ℕ) (index : IndexInfo) → AreSound schema.entries → IsIndexInfo index → index_named (indexes_at schema store) index.name ≡ None → AreSound (with_index schema store index).entries)
    (dropped_index : (schema : SchemaData) (store place : ℕ) → AreSound schema.entries → AreSound (without_index schema store place).entries) where
  dropped : (schema : SchemaData) (found : Option ℕ) → AreSound schema.entries → AreSound (unwrap_or (option_map (without_store schema) found) schema).entries
  dropped schema None sound = sound
  dropped schema (Some place) sound = dropped_store schema place sound

  indexed : (schema : SchemaData) (index : IndexInfo) (found : Option ℕ) → AreSound schema.entries → IsIndexInfo index → is_some (index_named (unwrap_or (option_map (indexes_at schema) found) []) index.name) ≡ false
      → AreSound (unwrap_or (option_map (λ place. with_index schema place index) found) schema).entries
  indexed schema index None sound fits new = sound
  indexed schema index (Some place) sound fits new = new_index schema place index sound fits (is_none (index_named (indexes_at schema place) index.name) new)

  index_gone : (schema : SchemaData) (place : ℕ) (found : Option ℕ) → AreSound schema.entries → AreSound (unwrap_or (option_map (without_index schema place) found) schema).entries
  index_gone schema place None sound = sound
  index_gone schema place (Some at) sound = dropped_index schema place at sound

  unindexed : (schema : SchemaData) (n : List ℕ) (found : Option ℕ) → AreSound schema.entries
      → AreSound (unwrap_or (option_and_then (λ place. option_map (without_index schema place) (index_named (indexes_at schema place) n)) found) schema).entries
  unindexed schema n None sound = sound
  unindexed schema n (Some place) sound = index_gone schema place (index_named (indexes_at schema place) n) sound

  pub sound_after : (schema : SchemaData) (call : SchemaCall) → AreSound schema.entries → refusal_of_schema schema call ≡ None → AreSound (schema_after schema call).entries
  sound_after schema (CreateStore name path auto) sound none =
      let fits = none_of (not (is_valid_path path)) (has_store schema name) (auto && not (takes_generator path)) _ _ _ none in
      new_store schema _ sound (fits_generator auto (takes_generator path) fits.2)
  sound_after schema (DropStore name) sound none = dropped schema (store_named (stores_of schema) name) sound
  sound_after schema (CreateIndex store name path unique multi) sound none =
      let fits = none_of (has_index schema store name) (not (is_key_path path)) (multi && is_list_path path) _ _ _ none in
      indexed schema _ (place_of schema store) sound (ap not fits.2) fits.0
  sound_after schema (DropIndex store name) sound none = unindexed schema name (place_of schema store) sound
