-- Key ranges (Indexed Database API 3.0, "Key range").
--     Bound, Range          a range as plain data
--     range_of_one, range_from, range_to, range_between      the ranges that the four constructors give; every_key
--     IsInRange             the key is in the range, and includes, the test
--     BoundsExclude         no key can lie between the two bounds: such a range is refused
--     IsRange               what each range of a program meets
use Rattle.std.specs.Prelude.{◌≡◌, Bool, true, false, not, ◌&&◌, ◌⊎◌, Option, Some, None, ⊤, refl}
use Rattle.std.specs.Coded.{Coded, code_by, coded×, coded_bool, coded_option}
use Rattle.std.specs.declared.cmp.Ordering.{Ordering}
use Rattle.std.specs.declared.cmp.Ordering.TheVariants.{Less, Equal, Greater}
use Rattle.key_order.specs.KeyTree.{KeyTree, key_code}
use Rattle.key_order.specs.KeyOrder.{key_cmp, IsBelow}

-- a bound: a key, and whether the bound is open, so that its own key is left out
pub record Bound : Type 0 where
  pub key : KeyTree
  pub is_open : Bool

-- a range: a lower and an upper bound, either of which may be missing
pub record Range : Type 0 where
  pub lower : Option Bound
  pub upper : Option Bound

-- a bound is stored as the pair of its fields, and so is a range
abbrev pub bound_code : Coded Bound
bound_code = code_by (KeyTree × Bool) (coded× key_code coded_bool) (λ b. (b.key, b.is_open)) (λ p. record { key = p.0; is_open = p.1 }) (λ _. refl)

abbrev pub range_code : Coded Range
range_code = code_by (Option Bound × Option Bound) (coded× (coded_option bound_code) (coded_option bound_code)) (λ r. (r.lower, r.upper)) (λ p. record { lower = p.0; upper = p.1 }) (λ _. refl)

-- the bound of this key
abbrev pub bound_at : KeyTree → Bool → Bound
bound_at key is_open = record { key = key; is_open = is_open }

-- the range of one key
abbrev pub range_of_one : KeyTree → Range
range_of_one key = record { lower = Some (bound_at key false); upper = Some (bound_at key false) }

-- the range with a lower bound alone
abbrev pub range_from : Bound → Range
range_from lower = record { lower = Some lower; upper = None }

-- the range with an upper bound alone
abbrev pub range_to : Bound → Range
range_to upper = record { lower = None; upper = Some upper }

-- the range with both bounds
abbrev pub range_between : Bound → Bound → Range
range_between lower upper = record { lower = Some lower; upper = Some upper }

-- the range without bounds, which stands for a range that is left out
abbrev pub every_key : Range
every_key = record { lower = None; upper = None }

-- there is no lower bound, or its key is less than this one, or it is this key and the bound is closed
abbrev pub MeetsLower : Option Bound → KeyTree → Type 0
MeetsLower None key = ⊤
MeetsLower (Some bound) key = IsBelow bound.key key ⊎ ((bound.key ≡ key) × (bound.is_open ≡ false))

-- there is no upper bound, or its key is greater than this one, or it is this key and the bound is closed
abbrev pub MeetsUpper : Option Bound → KeyTree → Type 0
MeetsUpper None key = ⊤
MeetsUpper (Some bound) key = IsBelow key bound.key ⊎ ((bound.key ≡ key) × (bound.is_open ≡ false))

-- the key is in the range ("in")
abbrev pub IsInRange : KeyTree → Range → Type 0
IsInRange key range = MeetsLower range.lower key × MeetsUpper range.upper key

-- the lower bound is above the upper one, or both have one key and one of them is open (the latter is a rule of this
-- database's own)
abbrev pub BoundsExclude : Bound → Bound → Type 0
BoundsExclude lower upper = IsBelow upper.key lower.key ⊎ ((lower.key ≡ upper.key) × ((lower.is_open ≡ true) ⊎ (upper.is_open ≡ true)))

-- no key is in the range
abbrev pub IsEmptyRange : Range → Type 0
IsEmptyRange range = (key : KeyTree) → ¬ IsInRange key range

-- the two bounds, where there are two, do not exclude each other
abbrev pub IsRange : Range → Type 0
IsRange range = (lower upper : Bound) → range.lower ≡ Some lower → range.upper ≡ Some upper → ¬ BoundsExclude lower upper

-- ---- the same as tests
-- a bound takes the keys on its own side, and where the keys tie its key, unless it is open
abbrev pub admits : Bool → Ordering → Bool
admits is_open Less = true
admits is_open Equal = not is_open
admits is_open Greater = false

abbrev pub meets_lower : Option Bound → KeyTree → Bool
meets_lower None key = true
meets_lower (Some bound) key = admits bound.is_open (key_cmp bound.key key)

abbrev pub meets_upper : Option Bound → KeyTree → Bool
meets_upper None key = true
meets_upper (Some bound) key = admits bound.is_open (key_cmp key bound.key)

-- whether the range includes the key
abbrev pub includes : Range → KeyTree → Bool
includes range key = meets_lower range.lower key && meets_upper range.upper key
