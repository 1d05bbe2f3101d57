-- What requests answer that change nothing (Indexed Database API 3.0, "object store retrieval operations", "index retrieval
-- operations" and "iterate a cursor").
--     in_reach              the members of a store or an index that are in a range
--     value_answer, key_answer        of `get` and `getKey`: Undefined where none is there
--     values_answer, keys_answer      of `getAll` and `getAllKeys`: an Array
--     count_answer          of `count`
--     cursor_answer         of a cursor's turn: the Object of its member, or Null
use Rattle.std.specs.Prelude.{ℕ, ℤ, pos, Bool, List, [], ◌∷◌, map, codes, length, if◌then◌else◌, Option, Some, None, option_map, unwrap_or}
use Rattle.std.specs.Ordering.{int_cmp, is_lt}
use Rattle.idb_base.specs.declared.limits.TheConstants.{GREATEST_INT}
use Rattle.clone_values.specs.Tree.{Tree, undefined, null, int, array, object, no_members, trees_of, members_of}
use Rattle.clone_values.specs.KeyValues.{value_of_key}
use Rattle.idb_keys.specs.KeyRange.{Range}
use Rattle.idb_keys.specs.declared.names.Over.{Over}
use Rattle.index_tables.specs.Rows.{RowTree}
use Rattle.store_cursors.specs.Reading.{selected, limited, primary_keys, values_in, first_primary, first_value}
use Rattle.item_changes.specs.Store.{Store}
use Rattle.item_changes.specs.Showing.{shown_in}

abbrev pub in_reach : Store → Over → Range → List RowTree
in_reach store over range = selected range (shown_in store over)

abbrev pub or_undefined : Option Tree → Tree
or_undefined found = unwrap_or found undefined

abbrev pub array_of : List Tree → Tree
array_of items = array (trees_of items) no_members

abbrev pub value_answer : Store → Over → Range → Tree
value_answer store over range = or_undefined (first_value store.records (in_reach store over range))

abbrev pub key_answer : Store → Over → Range → Tree
key_answer store over range = or_undefined (option_map value_of_key (first_primary (in_reach store over range)))

-- the first so many, or all where the number is 0
abbrev pub values_answer : Store → Over → Range → ℕ → Tree
values_answer store over range limit = array_of (values_in store.records (limited limit (in_reach store over range)))

abbrev pub keys_answer : Store → Over → Range → ℕ → Tree
keys_answer store over range limit = array_of (map value_of_key (primary_keys (limited limit (in_reach store over range))))

-- no value is above 2^53
abbrev pub count_shown : ℕ → ℤ
count_shown n = if is_lt (int_cmp GREATEST_INT (pos n)) then GREATEST_INT else pos n

abbrev pub count_answer : Store → Over → Range → Tree
count_answer store over range = int (count_shown (length (in_reach store over range)))

-- ---- cursors
-- a cursor that shows keys alone has no value
abbrev pub shown_value : Bool → Tree → List (List ℕ × Tree)
shown_value keys_only value = if keys_only then [] else (codes "value", value) ∷ []

-- the names stand in the order of their bytes
abbrev pub member_answer : Bool → RowTree → Tree → Tree
member_answer keys_only member value = object (members_of (
    (codes "key", value_of_key member.0)
    ∷ (codes "primaryKey", value_of_key member.1)
    ∷ shown_value keys_only value))

-- of the member that a turn took with its value, if it took one
abbrev pub cursor_answer : Bool → Option (RowTree × Tree) → Tree
cursor_answer keys_only None = null
cursor_answer keys_only (Some taken) = member_answer keys_only taken.0 taken.1
