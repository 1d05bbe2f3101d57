-- Places about a key, as abbreviations tell them.
--     IsToldInFront, IsToldBehind, IsNear     entries that abbreviations tell to be in front or behind
--     IsWithin              places that one leaf has
use Rattle.std.specs.Prelude.{◌≡◌, ℕ, ℤ, ◌+◌, ◌≤◌, ◌⊎◌, true, Option, Some, List, length, slice_get}
use Rattle.sorted_table.specs.Orders.{precedes}
use Rattle.leaf_blocks.specs.Leaves.{joined, before, leaf_at, rank, IsSpot}

-- there is an entry at the place whose abbreviation is less, or greater
abbrev pub IsToldInFront : {K V : Type 0} → (K → Option ℤ) → List (K × V) → ℕ → Option ℤ → Type 0
IsToldInFront {K} {V} abbreviated es place k = (e : K × V) × (slice_get es place ≡ Some e) × (precedes (abbreviated e.0) k ≡ true)

abbrev pub IsToldBehind : {K V : Type 0} → (K → Option ℤ) → List (K × V) → ℕ → Option ℤ → Type 0
IsToldBehind {K} {V} abbreviated es place k = (e : K × V) × (slice_get es place ≡ Some e) × (precedes k (abbreviated e.0) ≡ true)

-- the first entry of these places is told to be in front, and the one behind them to be behind
pub record IsNear {K V : Type 0} (abbreviated : K → Option ℤ) (es : List (K × V)) (k : Option ℤ) (low end : ℕ) : Type 0 where
  pub ordered : low ≤ end
  pub within : end ≤ length es
  pub front : (low ≡ 0) ⊎ IsToldInFront abbreviated es low k
  pub behind : (end ≡ length es) ⊎ IsToldBehind abbreviated es end k

-- the places are all in this leaf, which begins with the first of them, or end right behind it
pub record IsWithin {A : Type 0} (bs : List (List (List A))) (b i low end : ℕ) : Type 0 where
  pub spot : IsSpot bs b i
  pub first : low ≡ before (joined bs) (rank bs b i)
  pub last : end ≤ low + length (leaf_at (joined bs) (rank bs b i))
