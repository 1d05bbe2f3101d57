-- Runs of items, and when they are leaves.
--     joined                all items in order
--     before                how many items stand before a leaf
--     leaf_at               the leaf at a place
--     items_in              how many items a block has
--     rank                  how many leaves stand before one of a block
--     split_run, join_leaf  a run split, two joined
--     excesses              how many items the leaves have above half of what fits
--     AreRunsBehind         no run is empty or too full, and two neighbours have more than half together
--     AreLeaves, AreBlocks  the same of leaves, and of blocks of leaves
--     spare_of              how many items more certainly fit
--     IsSpot                a leaf of a block
--     Row, ends_from, AreEnds       sizes, and how much there is up to the end of each
--     IsBlock               what holds of the leaves of a block
use Rattle.std.specs.Prelude.{◌≡◌, ℕ, zero, suc, ◌+◌, ◌-◌, ◌*◌, ◌<◌, ◌≤◌, List, [], ◌∷◌, ◌++◌, length, take, drop, map, sum, slice_index_or, ◌^◌}
use Rattle.std.proofs.Props.{props}
use Rattle.std.specs.List.{flat_map}

-- the items of all leaves, one leaf after another
abbrev pub joined : {A : Type 0} → List (List A) → List A
joined ls = flat_map (λ l. l) ls

-- how many items stand before this leaf
abbrev pub before : {A : Type 0} → List (List A) → ℕ → ℕ
before ls i = length (joined (take i ls))

-- the leaf at this place
abbrev pub leaf_at : {A : Type 0} → List (List A) → ℕ → List A
leaf_at ls i = slice_index_or ls i []

-- how many items a block has
abbrev pub items_in : {A : Type 0} → List (List A) → ℕ
items_in b = length (joined b)

-- how many leaves stand before this one of a block
abbrev pub rank : {A : Type 0} → List (List A) → ℕ → ℕ → ℕ
rank bs b i = before bs b + i

-- a run split behind this many members
abbrev pub split_run : {A : Type 0} → ℕ → List (List A) → ℕ → List (List A)
split_run h [] i = []
split_run h (l ∷ ls) zero = take h l ∷ drop h l ∷ ls
split_run h (l ∷ ls) (suc i) = l ∷ split_run h ls i

-- a leaf joined with the one behind it
abbrev pub join_leaf : {A : Type 0} → List (List A) → ℕ → List (List A)
join_leaf [] i = []
join_leaf (l ∷ []) i = l ∷ []
join_leaf (l ∷ m ∷ ls) zero = (l ++ m) ∷ ls
join_leaf (l ∷ m ∷ ls) (suc i) = l ∷ join_leaf (m ∷ ls) i

-- how many items the leaves have above 32 each
abbrev pub excesses : {A : Type 0} → List (List A) → ℕ
excesses [] = 0
excesses (l ∷ ls) = (length l - 32) + excesses ls

-- behind a run of n members: each has 1 to 2 h, and more than h together with the one before it
abbrev pub AreRunsBehind : {A : Type 0} → ℕ → ℕ → List (List A) → Type 0
AreRunsBehind h n [] = Unit {0}
AreRunsBehind h n (l ∷ ls) = (0 < length l) × (length l ≤ 2 * h) × (h < n + length l) × AreRunsBehind h (length l) ls

-- each has 1 to 64 items, and two neighbours have more than 32 together
abbrev pub AreLeaves : {A : Type 0} → List (List A) → Type 0
AreLeaves ls = AreRunsBehind 32 64 ls

-- each has 1 to 128 leaves, and two neighbours have more than 64 together
abbrev pub AreBlocks : {A : Type 0} → List (List A) → Type 0
AreBlocks bs = AreRunsBehind 64 128 bs

pub behind_is_prop : {A : Type 0} (h n : ℕ) (ls : List (List A)) → IsProp (AreRunsBehind h n ls)
behind_is_prop h n [] = hlevel props
behind_is_prop h n (l ∷ ls) = let rest : IsProp (AreRunsBehind h (length l) ls) = behind_is_prop h (length l) ls in hlevel (props, rest)

pub are_leaves_is_prop : {A : Type 0} (ls : List (List A)) → IsProp (AreLeaves ls)
are_leaves_is_prop ls = behind_is_prop 32 64 ls

-- how many items more certainly fit, where this many leaves are free
abbrev pub spare_of : {A : Type 0} → List (List A) → ℕ → ℕ
spare_of [] zero = 0
spare_of [] (suc free) = 32 * free + 1
spare_of (l ∷ ls) free = 32 * free - excesses (l ∷ ls)

-- a leaf of a block
pub record IsSpot {A : Type 0} (bs : List (List A)) (b i : ℕ) : Type 0 where
  pub block : b < length bs
  pub leaf : i < length (leaf_at bs b)

-- sizes, and how many there may be
pub record Row : Type 0 where
  pub sizes : List ℕ
  pub room : ℕ

-- how much there is up to the end of each, where n stand before them
abbrev pub ends_from : ℕ → List ℕ → List ℕ
ends_from n [] = []
ends_from n (m ∷ ms) = (n + m) ∷ ends_from (n + m) ms

-- the ends are those of the sizes, all can be told, and there is room in both lists
pub record AreEnds (sizes ends : List ℕ) (room in_sizes in_ends : ℕ) : Type 0 where
  pub ends_are : ends ≡ ends_from 0 sizes
  pub fits : sum sizes < 2 ^ 64
  pub room_sizes : room ≤ in_sizes
  pub room_ends : room ≤ in_ends
  pub used : length sizes ≤ room
  pub limit : room ≤ 2 ^ 41

-- the sizes are those of the leaves, and there is room for 128
pub record IsBlock {A : Type 0} (leaves : List (List A)) (sizes : Row) (in_leaves : ℕ) : Type 0 where
  pub sized : sizes.sizes ≡ map length leaves
  pub most : length leaves ≤ 128
  pub room : 128 ≤ in_leaves
  pub room_sizes : 128 ≤ sizes.room
