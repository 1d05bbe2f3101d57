-- The kinds of fields, each with its form as a whole.
--     block_in              the place of the block of that name, where the client has one
--     natural_in, times_in      a whole number from 0; how often a block is repeated
--     names_in, path_in     a list of names; one string or a list of them
--     mode_in, durability_in, direction_in      words
--     range_in              a range with one bound or both
use Rattle.std.specs.Prelude.{ℕ, false, ◌||◌, nat_le, List, [], ◌∷◌, ◌++◌, if◌then◌else◌, Option, Some, None, is_some, option_map, option_and_then, codes}
use Rattle.std.specs.Str.{bytes_eq}
use Rattle.clone_values.specs.WellFormed.{is_within_limit}
use Rattle.clone_values.specs.declared.path_types.PathSpec.{PathSpec}
use Rattle.clone_values.specs.declared.path_types.PathSpec.TheVariants.{One, Many}
use Rattle.idb_keys.specs.declared.names.Mode.{Mode}
use Rattle.idb_keys.specs.declared.names.Mode.TheVariants as mode
use Rattle.idb_keys.specs.declared.names.Durability.{Durability}
use Rattle.idb_keys.specs.declared.names.Durability.TheVariants as durability
use Rattle.idb_keys.specs.declared.names.Direction.{Direction}
use Rattle.idb_keys.specs.declared.names.Direction.TheVariants as direction
use Rattle.serde_json.specs.Data.{Data, Items, Members}
use Rattle.serde_json.specs.Data as json
use Rattle.serde_json.specs.Find.{as_str, as_bool, as_number, as_u64}
use Rattle.script_exprs.specs.Forms.{where_so, name_in}
use Rattle.script_exprs.specs.Expressions.{expr_in}
use Rattle.script_reading.specs.declared.limits.TheConstants.{MOST_TIMES}
use Rattle.script_reading.specs.BlockPlaces.{BlockPlaces}
use Rattle.script_statements.specs.declared.statement.RangeExpr.{RangeExpr}

abbrev pub block_in : BlockPlaces → Data → Option ℕ
block_in places d = option_and_then places (name_in d)

abbrev pub natural_in : Data → Option ℕ
natural_in d = option_and_then as_u64 (as_number d)

abbrev pub times_in : Data → Option ℕ
times_in d = option_and_then (λ n. where_so (nat_le n MOST_TIMES) n) (natural_in d)

-- ---- names
abbrev pub names_behind : List (List ℕ) → Items → Option (List (List ℕ))
names_behind before json.no_items = Some before
names_behind before (json.item d ds) = option_and_then (λ n. names_behind (before ++ n ∷ []) ds) (name_in d)

abbrev pub within_limit : List (List ℕ) → Option (List (List ℕ))
within_limit names = where_so (is_within_limit names) names

abbrev pub names_in : Data → Option (List (List ℕ))
names_in (json.array ds) = option_and_then within_limit (names_behind [] ds)
names_in _ = None

abbrev pub path_in : Data → Option PathSpec
path_in (json.array ds) = option_map Many (option_and_then within_limit (names_behind [] ds))
path_in (json.string s) = option_map One (name_in (json.string s))
path_in _ = None

-- ---- words
abbrev pub mode_named : List ℕ → Option Mode
mode_named word = if bytes_eq word (codes "readonly") then Some mode.ReadOnly
    else if bytes_eq word (codes "readwrite") then Some mode.ReadWrite
    else if bytes_eq word (codes "versionchange") then Some mode.VersionChange
    else None

abbrev pub mode_in : Data → Option Mode
mode_in d = option_and_then mode_named (as_str d)

-- the default is relaxed
abbrev pub durability_named : List ℕ → Option Durability
durability_named word = if bytes_eq word (codes "strict") then Some durability.Strict
    else if bytes_eq word (codes "relaxed") then Some durability.Relaxed
    else if bytes_eq word (codes "default") then Some durability.Relaxed
    else None

abbrev pub durability_in : Data → Option Durability
durability_in d = option_and_then durability_named (as_str d)

abbrev pub direction_named : List ℕ → Option Direction
direction_named word = if bytes_eq word (codes "next") then Some direction.Next
    else if bytes_eq word (codes "nextunique") then Some direction.NextUnique
    else if bytes_eq word (codes "prev") then Some direction.Prev
    else if bytes_eq word (codes "prevunique") then Some direction.PrevUnique
    else None

abbrev pub direction_in : Data → Option Direction
direction_in d = option_and_then direction_named (as_str d)

-- ---- ranges
abbrev pub no_range : RangeExpr
no_range = record { lower = None; upper = None; lower_open = false; upper_open = false }

unfoldable pub range_with : List ℕ → Data → RangeExpr → Option RangeExpr
range_with name d r = if bytes_eq name (codes "lower") then option_map (λ e. record r { lower = Some e }) (expr_in d)
    else if bytes_eq name (codes "upper") then option_map (λ e. record r { upper = Some e }) (expr_in d)
    else if bytes_eq name (codes "lowerOpen") then option_map (λ b. record r { lower_open = b }) (as_bool d)
    else if bytes_eq name (codes "upperOpen") then option_map (λ b. record r { upper_open = b }) (as_bool d)
    else None

-- what the members say, each in its turn
abbrev pub range_members : RangeExpr → Members → Option RangeExpr
range_members r json.no_members = Some r
range_members r (json.member name d ms) = option_and_then (λ s. range_members s ms) (range_with name d r)

abbrev pub bounded : RangeExpr → Option RangeExpr
bounded r = if is_some r.lower || is_some r.upper then Some r else None

unfoldable pub range_in : Data → Option RangeExpr
range_in (json.object ms) = option_and_then bounded (range_members no_range ms)
range_in _ = None
