-- Unique indexes (Indexed Database API 3.0, "index", its unique flag).
--     first_repeated        the first key of two rows
--     broken_key            the least key of which a unique index has two rows
--     GivenTwice            two records give a key;  IsLeastTwice: and no lesser one
--     is_broken             whether a unique index has two rows of one key
use Rattle.std.specs.Prelude.{◌≡◌, ◌≢◌, Bool, true, List, [], ◌∷◌, if◌then◌else◌, Option, Some, None, is_some}
use Rattle.std.specs.List.{list_any}
use Rattle.std.specs.FinMap.{get}
use Rattle.std.specs.declared.cmp.Ordering.TheVariants.{Less}
use Rattle.std.specs.Ordering.{is_eq}
use Rattle.clone_values.specs.KeyTree.{KeyTree}
use Rattle.idb_keys.specs.KeyOrder.{key_cmp}
use Rattle.idb_schema.specs.declared.definitions.IndexInfo.{IndexInfo}
use Rattle.index_tables.specs.RecordRows.{Records, index_rows, gives_key}
use Rattle.index_tables.specs.Rows.{rows_of}

-- of rows that are sorted by key, the key of the first two neighbours that have one
abbrev pub first_repeated : List (KeyTree × KeyTree) → Option KeyTree
first_repeated [] = None
first_repeated (r ∷ []) = None
first_repeated (r ∷ s ∷ rs) = if is_eq (key_cmp r.0 s.0) then Some r.0 else first_repeated (s ∷ rs)

-- the least key of which the index has two rows, where it is unique
abbrev pub broken_key : IndexInfo → Records → Option KeyTree
broken_key index records = if index.unique then first_repeated (rows_of (index_rows index records)) else None

-- two records give this key in the index
pub record GivenTwice (index : IndexInfo) (records : Records) (key : KeyTree) : Type 0 where
  pub one : KeyTree
  pub other : KeyTree
  pub by_one : gives_key index key (get records one) ≡ true
  pub by_other : gives_key index key (get records other) ≡ true
  pub apart : one ≢ other

-- it is the least such key
pub record IsLeastTwice (index : IndexInfo) (records : Records) (key : KeyTree) : Type 0 where
  pub given : GivenTwice index records key
  pub least : (k : KeyTree) → GivenTwice index records k → key_cmp k key ≢ Less

-- a unique index has two rows of one key
abbrev pub is_broken : List IndexInfo → Records → Bool
is_broken indexes records = list_any (λ index. is_some (broken_key index records)) indexes
