-- Leaves in use, in blocks, and free ones.
--     Shelf, IsShelf        blocks of leaves, and free blocks;  what holds of them
--     Pile, IsPile          leaves in use, and free leaves;  what holds of them
--     IsShorter             blocks of which one has lost a leaf
use Rattle.std.specs.Prelude.{◌≡◌, ℕ, ◌+◌, ◌*◌, ◌/◌, ◌<◌, ◌≤◌, List, [], ◌∷◌, length, map, slice_set, ◌^◌}
use Rattle.leaf_blocks.specs.Leaves.{Row, joined, leaf_at, items_in, excesses, AreBlocks}

-- blocks of leaves, and how many are free
pub record Shelf (A : Type 0) : Type 0 where
  pub blocks : List (List (List A))
  pub kept : ℕ

-- the sizes are those of the blocks, and all blocks have room in use, and free, and for their sizes
pub record IsShelf {A : Type 0} (blocks : List (List (List A))) (sizes : Row) (kept in_use in_kept : ℕ) : Type 0 where
  pub sized : sizes.sizes ≡ map items_in blocks
  pub room : length blocks + kept ≤ in_use
  pub room_kept : length blocks + kept ≤ in_kept
  pub room_sizes : length blocks + kept ≤ sizes.room

-- leaves in use, in blocks, and how many are free
pub record Pile (A : Type 0) : Type 0 where
  pub blocks : List (List (List A))
  pub free : ℕ

-- the blocks are none too small, the count of the leaves and their excess are told, all leaves have room among the free
-- ones, and there are blocks enough for all
pub record IsPile {A : Type 0} (shelf : Shelf A) (free leaves excess in_free : ℕ) : Type 0 where
  pub filled : AreBlocks shelf.blocks
  pub counted : leaves ≡ length (joined shelf.blocks)
  pub exceeds : excess ≡ excesses (joined shelf.blocks)
  pub room : leaves + free ≤ in_free
  pub rooms : leaves + free ≤ 64 * ((length shelf.blocks + shelf.kept + 1) / 2)
  pub limit : leaves + free ≤ 2 ^ 40

-- with one leaf more in this block the blocks would be none too small
pub record IsShorter {A : Type 0} (bs : List (List (List A))) (b : ℕ) : Type 0 where
  pub within : b < length bs
  pub filled : AreBlocks (slice_set bs b ([] ∷ leaf_at bs b))
