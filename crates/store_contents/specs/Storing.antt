-- Storing a record (Indexed Database API 3.0, "store a record into an object store", with the steps of "add or put" that choose its key).
--     Entry                 what is to be stored: the key, the value with the key injected, and the generator's number afterwards
--     entry_for             the entry of a value and a key that may be given; none where the generator is used up
--     CanStore              what the calls `add` and `put` have checked before
--     Outcome, stored_as    the key and the store after it, or a refusal
use Rattle.std.specs.Prelude.{◌≡◌, ℕ, ◌+◌, ◌≤◌, Bool, true, false, ◌&&◌, ◌||◌, nat_le, pos, if◌then◌else◌, List, Option, Some, None, ⊤, is_some}
use Rattle.std.specs.FinMap as finite
use Rattle.idb_base.specs.declared.limits.TheConstants.{GREATEST_DEPTH}
use Rattle.clone_values.specs.Tree.{Tree}
use Rattle.clone_values.specs.Values.{IsCloneable}
use Rattle.clone_values.specs.WellFormed.{IsValue}
use Rattle.clone_values.specs.KeyTree.{KeyTree, number}
use Rattle.clone_values.specs.KeyValues.{IsKey, key_depth}
use Rattle.clone_values.specs.declared.path_types.PathSpec.{PathSpec}
use Rattle.key_paths.specs.Evaluation.{Extract, one, many, invalid, failure, extracted}
use Rattle.key_paths.specs.Injection.{can_inject, injected, has_room_for}
use Rattle.key_generators.specs.Generators.{last_number, after_key}
use Rattle.index_tables.specs.RecordRows.{Records}
use Rattle.index_tables.specs.Unique.{is_broken}
use Rattle.idb_schema.specs.declared.definitions.IndexInfo.{IndexInfo}
use Rattle.store_contents.specs.Store.{Store, Content}
use Rattle.store_contents.specs.Changed.{store_with_record, with_current}

-- a record that is to be stored
pub record Entry : Type 0 where
  pub key : KeyTree
  pub value : Tree
  pub current : ℕ

-- the generator, if there is one, notes a key that it did not give
abbrev pub noted : Bool → ℕ → KeyTree → ℕ
noted auto current key = if auto then after_key current key else current

-- with a key that was given, or that stands in the value
abbrev pub with_key : Bool → ℕ → Tree → KeyTree → Entry
with_key auto current value key = record { key = key; value = value; current = noted auto current key }

-- the value with a generated key, where the store has a key path
abbrev pub with_injected : Option PathSpec → Tree → KeyTree → Tree
with_injected None value key = value
with_injected (Some path) value key = injected path value key

-- with the next number of the generator
abbrev pub with_next : Option PathSpec → ℕ → Tree → Entry
with_next path current value = record { key = number (pos current); value = with_injected path value (number (pos current)); current = current + 1 }

-- none where the last number has been given or passed
abbrev pub generated : Option PathSpec → ℕ → Tree → Option Entry
generated path current value = if nat_le current last_number then Some (with_next path current value) else None

-- what the store's key path gives on the value
abbrev pub in_line : Option PathSpec → Tree → Extract
in_line None value = failure
in_line (Some path) value = extracted path false value

-- the key that the path gave, if it gave one
abbrev pub key_found : Extract → Option KeyTree
key_found (one key) = Some key
key_found (many keys) = None
key_found invalid = None
key_found failure = None

-- with the key that was found, or else a generated one
abbrev pub entry_by : Option PathSpec → Bool → ℕ → Tree → Option KeyTree → Option Entry
entry_by path auto current value (Some key) = Some (with_key auto current value key)
entry_by path auto current value None = generated path current value

-- the key that is given, or else the one that the path gives
abbrev pub own_key : Option PathSpec → Tree → Option KeyTree → Option KeyTree
own_key path value (Some key) = Some key
own_key path value None = key_found (in_line path value)

-- the entry of a value, with the key that is given or without one
abbrev pub entry_for : Option PathSpec → Bool → ℕ → Tree → Option KeyTree → Option Entry
entry_for path auto current value key = entry_by path auto current value (own_key path value key)

-- a generated key can stand in the value
abbrev pub CanInject : Option PathSpec → Tree → Type 0
CanInject None value = ⊤
CanInject (Some path) value = (can_inject path value ≡ true) × (has_room_for path value ≡ true)

-- the path gave a key, or there is a generator whose key can stand in the value
abbrev pub HasKey : Option PathSpec → Bool → Tree → Extract → Type 0
HasKey path auto value (one key) = ⊤
HasKey path auto value (many keys) = ⊥
HasKey path auto value invalid = ⊥
HasKey path auto value failure = (auto ≡ true) × CanInject path value

-- a key is given, or the path gives one, or the generator does
abbrev pub ComesWithKey : Option PathSpec → Bool → Tree → Option KeyTree → Type 0
ComesWithKey path auto value (Some key) = IsKey key × (key_depth key ≤ GREATEST_DEPTH)
ComesWithKey path auto value None = HasKey path auto value (in_line path value)

-- the value is well formed and can be cloned, and it comes with a key; the path and the generator are those of the store
pub record CanStore (path : Option PathSpec) (auto : Bool) (v : Tree) (k : Option KeyTree) : Type 0 where
  pub value : IsValue v
  pub cloneable : IsCloneable v
  pub key : ComesWithKey path auto v k

-- the key and the store after it, or ConstraintError
pub data Outcome : Type 0 where
  refused : Outcome
  stored : KeyTree → Store → Outcome

-- the content with a record, in place of one of the same key
abbrev pub content_with : Content → KeyTree → Tree → Content
content_with content key value = record content { records = finite.insert content.records key value }

-- `add` found a record of that key, or a unique index would have two rows of one key
abbrev pub is_refused : List IndexInfo → Records → Bool → KeyTree → Tree → Bool
is_refused indexes records add key value = (add && is_some (finite.get records key)) || is_broken indexes (finite.insert records key value)

-- the generator has the entry's number, and the store its record
abbrev pub with_entry : Store → Entry → Store
with_entry store entry = store_with_record (with_current store entry.current) entry.key entry.value

abbrev pub outcome_of : Store → Bool → Option Entry → Outcome
outcome_of store add None = refused
outcome_of store add (Some entry) = if is_refused store.info.indexes store.records add entry.key entry.value then refused else stored entry.key (with_entry store entry)

-- what storing a value comes to; by `add` a record of the same key is kept
abbrev pub stored_as : Store → Tree → Option KeyTree → Bool → Outcome
stored_as store value key add = outcome_of store add (entry_for store.info.path store.info.auto store.current value key)
