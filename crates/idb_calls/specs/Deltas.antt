-- What a commit changes, as plain data.
--     DeltaTree             one change, with trees for its key and its value; each name is the list of its UTF-8 bytes
use Rattle.std.specs.Prelude.{ℕ, Bool, List, Option}
use Rattle.clone_values.specs.Tree.{Tree}
use Rattle.clone_values.specs.KeyTree.{KeyTree}
use Rattle.clone_values.specs.declared.path_types.PathSpec.{PathSpec}

-- the database stands first, then the store, then the index
pub data DeltaTree : Type 0 where
  Version : List ℕ → ℕ → DeltaTree
  DropDatabase : List ℕ → DeltaTree
  CreateStore : List ℕ → List ℕ → Option PathSpec → Bool → DeltaTree
  DropStore : List ℕ → List ℕ → DeltaTree
  CreateIndex : List ℕ → List ℕ → List ℕ → PathSpec → Bool → Bool → DeltaTree
  DropIndex : List ℕ → List ℕ → List ℕ → DeltaTree
  Put : List ℕ → List ℕ → KeyTree → Tree → DeltaTree
  Remove : List ℕ → List ℕ → KeyTree → DeltaTree
  Clear : List ℕ → List ℕ → DeltaTree
  Current : List ℕ → List ℕ → ℕ → DeltaTree
