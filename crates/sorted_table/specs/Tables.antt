-- Lists of entries in the order of their keys.
--     pair_seen             what a lent entry shows
--     IsSorted              the keys rise strictly
--     Lacks                 no entry has a key that ties
--     HasKeyAt              the entry of a key stands at a place
--     BelongsAt             the key has no entry, and this is where it would stand
--     without               the entries whose keys don't tie with one
--     value_there           the value of the entry at a place
--     with_value            the same entries, but for the value at one place
use denote.Ref.{Bor}
use Rattle.std.specs.Prelude.{◌≡◌, ℕ, zero, suc, ◌+◌, ◌≤◌, T, List, [], ◌∷◌, Option, Some, None, length, take, drop, slice_get, option_map, not}
use Rattle.std.specs.declared.cmp.Ordering.{Ordering}
use Rattle.std.specs.declared.cmp.Ordering.TheVariants.{Less}
use Rattle.std.specs.Ordering.{eq_by_cmp}
use Rattle.std.specs.FinMap.{find, is_sorted}
use Rattle.std.specs.FinMap.Entries.{where_key}
use Rattle.std.specs.List.{AllByRecursion}

-- the key and the value that a lent entry shows
abbrev pub pair_seen : {K V : Type 0} → Bor K × Bor V → K × V
pair_seen e = (e.0.now, e.1.now)

-- each key is less than all keys behind it
abbrev pub IsSorted : {K V : Type 0} → (K → K → Ordering) → List (K × V) → Type 0
IsSorted order es = T (is_sorted order es)

-- no key ties with this one
abbrev pub Lacks : {K V : Type 0} → (K → K → Ordering) → List (K × V) → K → Type 0
Lacks order es k = find order k es ≡ None

-- the keys of these are less than k
abbrev pub AreBelow : {K V : Type 0} → (K → K → Ordering) → List (K × V) → K → Type 0
AreBelow order es k = AllByRecursion (λ e. order e.0 k ≡ Less) es

-- the keys of these are greater than k
abbrev pub AreAbove : {K V : Type 0} → (K → K → Ordering) → List (K × V) → K → Type 0
AreAbove order es k = AllByRecursion (λ e. order k e.0 ≡ Less) es

-- the entry at this place has the key; those before have lesser keys, and those behind greater ones
pub record HasKeyAt {K V : Type 0} (order : K → K → Ordering) (es : List (K × V)) (place : ℕ) (k : K) : Type 0 where
  pub value : V
  pub stands : slice_get es place ≡ Some (k, value)
  pub before : AreBelow order (take place es) k
  pub behind : AreAbove order (drop (place + 1) es) k

-- no entry has the key; those before this place have lesser keys, and those from it on greater ones
pub record BelongsAt {K V : Type 0} (order : K → K → Ordering) (es : List (K × V)) (place : ℕ) (k : K) : Type 0 where
  pub within : place ≤ length es
  pub before : AreBelow order (take place es) k
  pub behind : AreAbove order (drop place es) k

-- the entries whose keys don't tie with this one
abbrev pub without : {K V : Type 0} → (K → K → Ordering) → K → List (K × V) → List (K × V)
without order k es = where_key order (λ x. not (eq_by_cmp order k x)) es

-- the value of the entry at this place
abbrev pub value_there : {K V : Type 0} → List (K × V) → ℕ → Option V
value_there es place = option_map (λ e. e.1) (slice_get es place)

-- the entry at this place has this value, and the rest is the same
abbrev pub with_value : {K V : Type 0} → List (K × V) → ℕ → V → List (K × V)
with_value [] place value = []
with_value (e ∷ es) zero value = (e.0, value) ∷ es
with_value (e ∷ es) (suc place) value = e ∷ with_value es place value
