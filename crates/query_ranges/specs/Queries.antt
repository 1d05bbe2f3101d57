-- What a query asks for (Indexed Database API 3.0, "convert a value to a key range").
--     Wanted                nothing was said, or these keys are wanted, or what was given is no query
--     wanted                what a query asks for
--     is_query_refused      it is none, or says nothing where it must
--     range_of_query        the keys that it asks for; all where it says nothing
--     bounds_exclude        two bounds between which no key can be
use Rattle.std.specs.Prelude.{Bool, true, false, ◌&&◌, ◌||◌, Option, Some, None, if◌then◌else◌, option_map}
use Rattle.std.specs.declared.cmp.Ordering.{Ordering}
use Rattle.std.specs.Ordering.{is_eq, is_lt}
use Rattle.clone_values.specs.Tree.{Tree, undefined, null}
use Rattle.clone_values.specs.KeyTree.{KeyTree}
use Rattle.clone_values.specs.View.{tree_of}
use Rattle.clone_values.specs.declared.value_types.Value.{Value}
use Rattle.key_order.specs.KeyOrder.{key_cmp}
use Rattle.key_paths.specs.Conversion.{key_of}
use Rattle.idb_keys.specs.KeyRange.{Bound, Range, bound_at, range_of_one, range_from, range_to, range_between, every_key}
use Rattle.idb_calls.specs.declared.calls.Query.{Query}
use Rattle.idb_calls.specs.declared.calls.Query.TheVariants.{Absent, One, Range as Within}

pub data Wanted : Type 0 where
  anything : Wanted
  keys_in : Range → Wanted
  no_query : Wanted

-- ---- one value
abbrev pub wanted_key : Option KeyTree → Wanted
wanted_key None = no_query
wanted_key (Some key) = keys_in (range_of_one key)

-- Undefined and Null say nothing
abbrev pub wanted_one : Tree → Wanted
wanted_one undefined = anything
wanted_one null = anything
wanted_one t = wanted_key (key_of t)

-- ---- a range
-- the lower bound is above the upper one, or both have one key and one of them is open
abbrev pub bounds_exclude : Bound → Bound → Bool
bounds_exclude lower upper = is_lt (key_cmp upper.key lower.key) || (is_eq (key_cmp lower.key upper.key) && (lower.is_open || upper.is_open))

abbrev pub wanted_bounds : Bound → Bound → Wanted
wanted_bounds lower upper = if bounds_exclude lower upper then no_query else keys_in (range_between lower upper)

-- either of the two keys may be left out
abbrev pub wanted_between : Option KeyTree → Option KeyTree → Bool → Bool → Wanted
wanted_between (Some lower) (Some upper) lower_open upper_open = wanted_bounds (bound_at lower lower_open) (bound_at upper upper_open)
wanted_between (Some lower) None lower_open upper_open = keys_in (range_from (bound_at lower lower_open))
wanted_between None (Some upper) lower_open upper_open = keys_in (range_to (bound_at upper upper_open))
wanted_between None None lower_open upper_open = keys_in every_key

-- a key that may be left out; none at all where the value that is given is no key
abbrev pub key_given : Option Value → Option (Option KeyTree)
key_given None = Some None
key_given (Some value) = option_map Some (key_of (tree_of value))

abbrev pub wanted_within : Option (Option KeyTree) → Option (Option KeyTree) → Bool → Bool → Wanted
wanted_within (Some lower) (Some upper) lower_open upper_open = wanted_between lower upper lower_open upper_open
wanted_within (Some lower) None lower_open upper_open = no_query
wanted_within None upper lower_open upper_open = no_query

-- so does how the upper bound lies to the lower one, which says nothing where either is no key
abbrev pub leave_none : Option Ordering → Bool → Bool
leave_none None is_open = true
leave_none (Some order) is_open = is_lt order || (is_eq order && is_open)

-- ---- a query
abbrev pub wanted : Query → Wanted
wanted Absent = anything
wanted (One value) = wanted_one (tree_of value)
wanted (Within lower upper lower_open upper_open) = wanted_within (key_given lower) (key_given upper) lower_open upper_open

-- where keys must be said, a query that says nothing is refused too
abbrev pub is_query_refused : Bool → Wanted → Bool
is_query_refused must_say anything = must_say
is_query_refused must_say (keys_in range) = false
is_query_refused must_say no_query = true

abbrev pub range_wanted : Wanted → Range
range_wanted anything = every_key
range_wanted (keys_in range) = range
range_wanted no_query = every_key

abbrev pub range_of_query : Query → Range
range_of_query query = range_wanted (wanted query)
