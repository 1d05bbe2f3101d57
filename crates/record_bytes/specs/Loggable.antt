-- Changes that a log can hold.
--     names_of_delta, paths_in      the names that a change gives, of databases, stores and indexes;  its key paths
--     is_logged_version     from 1 to 2^53 - 1
--     is_logged_current     from 1 to 2^53 + 1
--     HasLoggableParts             its numbers are in range, its key and its value can be spelled, and a generator or a
--                           multi-entry index has a key path that fits
--     IsNamed               its names are texts, and its paths are key paths, as they are by their types
--     IsLoggable            both
use Rattle.std.specs.Prelude.{◌≡◌, ℕ, ◌+◌, Bool, true, not, ◌&&◌, ◌||◌, nat_le, List, [], ◌∷◌, Some, ⊤}
use Rattle.std.specs.List.{AllByRecursion}
use Rattle.clone_values.specs.WellFormed.{is_text}
use Rattle.clone_values.specs.declared.path_types.PathSpec.{PathSpec}
use Rattle.path_grammar.specs.KeyPath.{is_key_path}
use Rattle.idb_schema.specs.Definitions.{takes_generator, is_list_path}
use Rattle.key_generators.specs.Generators.{last_number}
use Rattle.value_bytes.specs.Spelling.{spelling_of, SpellsValue}
use Rattle.value_bytes.specs.KeySpelling.{key_spelling_of, SpellsKey}
use Rattle.idb_calls.specs.Deltas.{DeltaTree, Version, DropDatabase, CreateStore, DropStore, CreateIndex, DropIndex, Put, Remove, Clear, Current}
use Rattle.record_bytes.specs.declared.limits.TheConstants.{GREATEST_LOGGED_VERSION}

abbrev pub names_of_delta : DeltaTree → List (List ℕ)
names_of_delta (Version db version) = db ∷ []
names_of_delta (DropDatabase db) = db ∷ []
names_of_delta (CreateStore db store path auto) = db ∷ store ∷ []
names_of_delta (DropStore db store) = db ∷ store ∷ []
names_of_delta (CreateIndex db store index path unique multi) = db ∷ store ∷ index ∷ []
names_of_delta (DropIndex db store index) = db ∷ store ∷ index ∷ []
names_of_delta (Put db store key value) = db ∷ store ∷ []
names_of_delta (Remove db store key) = db ∷ store ∷ []
names_of_delta (Clear db store) = db ∷ store ∷ []
names_of_delta (Current db store current) = db ∷ store ∷ []

abbrev pub paths_in : DeltaTree → List PathSpec
paths_in (CreateStore db store (Some path) auto) = path ∷ []
paths_in (CreateIndex db store index path unique multi) = path ∷ []
paths_in _ = []

abbrev pub is_logged_version : ℕ → Bool
is_logged_version n = nat_le 1 n && nat_le n GREATEST_LOGGED_VERSION

abbrev pub is_logged_current : ℕ → Bool
is_logged_current n = nat_le 1 n && nat_le n (last_number + 1)

abbrev pub HasLoggableParts : DeltaTree → Type 0
HasLoggableParts (Version db version) = is_logged_version version ≡ true
HasLoggableParts (DropDatabase db) = ⊤
HasLoggableParts (CreateStore db store path auto) = (not auto || takes_generator path) ≡ true
HasLoggableParts (DropStore db store) = ⊤
HasLoggableParts (CreateIndex db store index path unique multi) = not (multi && is_list_path path) ≡ true
HasLoggableParts (DropIndex db store index) = ⊤
HasLoggableParts (Put db store key value) = SpellsKey (key_spelling_of key) key × SpellsValue (spelling_of value) value
HasLoggableParts (Remove db store key) = SpellsKey (key_spelling_of key) key
HasLoggableParts (Clear db store) = ⊤
HasLoggableParts (Current db store current) = is_logged_current current ≡ true

pub record IsNamed (delta : DeltaTree) : Type 0 where
  pub names : AllByRecursion (λ name. is_text name ≡ true) (names_of_delta delta)
  pub paths : AllByRecursion (λ path. is_key_path path ≡ true) (paths_in delta)

pub record IsLoggable (delta : DeltaTree) : Type 0 where
  pub named : IsNamed delta
  pub parts : HasLoggableParts delta
