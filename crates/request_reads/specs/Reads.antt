-- What a request that reads answers, and a turn of a cursor, over the store for which it asks.
--     reading_answer        of each call that reads;  none of any other
--     HasValidPath          the index that is read has a path that the grammar has
--     no_members_shown, nothing_rises   of an index that isn't there
--     has_few_items         an Array that is a well formed value has no more items
--     turn_answered, with_turn_made     what a turn of the cursor of this number answers;  and the front after it
use Rattle.std.specs.Prelude.{◌≡◌, ℕ, nat_le, Bool, true, length, slice_get, List, [], Option, Some, None, ⊤}
use Rattle.idb_base.specs.declared.limits.TheConstants.{GREATEST_LENGTH}
use Rattle.clone_values.specs.Tree.{Tree, null, array, list_of_trees}
use Rattle.path_grammar.specs.KeyPath.{is_key_path}
use Rattle.idb_keys.specs.declared.names.Over.{Over}
use Rattle.idb_keys.specs.declared.names.Over.TheVariants.{Store, Index}
use Rattle.idb_schema.specs.declared.definitions.IndexInfo.{IndexInfo}
use Rattle.idb_calls.specs.declared.calls.Call.{Call}
use Rattle.idb_calls.specs.declared.calls.Call.TheVariants.{Get, GetKey, Count, GetAll, GetAllKeys}
use Rattle.idb_cursors.specs.Views.{AreRising}
use Rattle.index_tables.specs.Rows.{RowTree}
use Rattle.object_stores.specs.Store as stores
use Rattle.object_stores.specs.Showing.{shown_in}
use Rattle.store_requests.specs.Answers.{value_answer, key_answer, values_answer, keys_answer, count_answer}
use Rattle.query_ranges.specs.Queries.{range_of_query}
use Rattle.request_lists.specs.declared.entries.FrontCursor.{FrontCursor}
use Rattle.request_lists.specs.Fronts.{Front, cursor_of, cursor_changed}
use Rattle.request_lists.specs.Running.{cursor_turned}
use Rattle.list_machine.specs.Requests.{limit_said, place_taken, turn_answer}

abbrev pub reading_answer : stores.Store → Over → Call → Option Tree
reading_answer store over (Get target query) = Some (value_answer store over (range_of_query query))
reading_answer store over (GetKey target query) = Some (key_answer store over (range_of_query query))
reading_answer store over (Count target query) = Some (count_answer store over (range_of_query query))
reading_answer store over (GetAll target query count) = Some (values_answer store over (range_of_query query) (limit_said count))
reading_answer store over (GetAllKeys target query count) = Some (keys_answer store over (range_of_query query) (limit_said count))
reading_answer store over _ = None

abbrev pub HasValidPath : List IndexInfo → Over → Type 0
HasValidPath indexes Store = ⊤
HasValidPath indexes (Index place) = (index : IndexInfo) → slice_get indexes place ≡ Some index → is_key_path index.path ≡ true

-- ---- what an index shows that isn't there
abbrev pub no_members_shown : List RowTree
no_members_shown = []

pub nothing_rises : AreRising no_members_shown
nothing_rises i j p q below first second = cc

-- the Array, if it is one, has no more items than a value may have
abbrev pub has_few_items : Tree → Bool
has_few_items (array ts ms) = nat_le (length (list_of_trees ts)) GREATEST_LENGTH
has_few_items _ = true

-- ---- turns
abbrev pub turn_answer_at : {D : Type 0} → stores.Store → Over → Call → Option (FrontCursor D) → Tree
turn_answer_at store over call None = null
turn_answer_at store over call (Some c) = turn_answer store over c.cursor call

abbrev pub turn_answered : {D : Type 0} → Front D → ℕ → stores.Store → Over → Call → Tree
turn_answered front number store over call = turn_answer_at store over call (cursor_of front number)

abbrev pub cursors_at : {D : Type 0} → ℕ → stores.Store → Over → Call → Option (FrontCursor D) → List (FrontCursor D) → List (FrontCursor D)
cursors_at number store over call None cursors = cursors
cursors_at number store over call (Some c) cursors = cursor_changed number (cursor_turned (shown_in store over) (place_taken store over c.cursor call)) cursors

-- the cursor has moved, and has got the member that was taken, if one was
abbrev pub with_turn_made : {D : Type 0} → Front D → ℕ → stores.Store → Over → Call → Front D
with_turn_made front number store over call = record front { cursors = cursors_at number store over call (cursor_of front number) front.cursors }
