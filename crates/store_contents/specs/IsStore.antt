-- What each object store meets.
--     IsStored              a key and a value as they may be stored
--     IsCurrent             the current number of a store's generator; 1 where there is none
--     IsStoreContent             each record may be stored, the definition is as the standard asks, and no unique index is broken
--     IsStore               and the current number is one
use Rattle.std.specs.Prelude.{◌≡◌, ℕ, ◌≤◌, Bool, false, Some}
use Rattle.std.specs.FinMap as finite
use Rattle.idb_base.specs.declared.limits.TheConstants.{GREATEST_DEPTH}
use Rattle.clone_values.specs.Tree.{Tree}
use Rattle.clone_values.specs.KeyTree.{KeyTree}
use Rattle.clone_values.specs.KeyValues.{IsKey, key_depth}
use Rattle.clone_values.specs.Values.{IsCloneable}
use Rattle.clone_values.specs.WellFormed.{IsValue}
use Rattle.idb_schema.specs.Definitions.{IsStoreInfo}
use Rattle.key_generators.specs.Generators.{IsGenerator}
use Rattle.index_tables.specs.RecordRows.{Records}
use Rattle.index_tables.specs.Unique.{is_broken}
use Rattle.store_contents.specs.Store.{Store, Content, unnumbered}

-- the key is in range and at most 100 deep; the value is well formed, and can be cloned
pub record IsStored (k : KeyTree) (v : Tree) : Type 0 where
  pub key : IsKey k
  pub depth : key_depth k ≤ GREATEST_DEPTH
  pub value : IsValue v
  pub cloneable : IsCloneable v

-- from 1 to 2^53 + 1, and 1 in a store without a generator
abbrev pub IsCurrent : Bool → ℕ → Type 0
IsCurrent auto current = IsGenerator current × (auto ≡ false → current ≡ 1)

abbrev pub AreStored : Records → Type 0
AreStored records = (key : KeyTree) (value : Tree) → finite.get records key ≡ Some value → IsStored key value

-- the names of indexes are distinct, a generator and a multi-entry index have paths that fit, and no unique index has two rows of one key
pub record IsStoreContent (content : Content) : Type 0 where
  pub info : IsStoreInfo content.info
  pub records : AreStored content.records
  pub unique : is_broken content.info.indexes content.records ≡ false

pub record IsStore (store : Store) : Type 0 where
  pub content : IsStoreContent (unnumbered store)
  pub current : IsCurrent store.info.auto store.current
