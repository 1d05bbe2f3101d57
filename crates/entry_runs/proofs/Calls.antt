-- What requests come to.
--     get_by, get_key_by, count_by, get_all_by, get_all_keys_by     each request that reads
--     seen_place, can_update    what an update stores can be stored at the place of its cursor
use Rattle.std.proofs.Common.{◌≡◌, ℕ, ℤ, Option, Some, None, option_map, refl, sym, ◌∙◌, ap, subst}
use Rattle.std.specs.Prelude.{◌≤◌}
use Rattle.idb_base.specs.declared.limits.TheConstants.{GREATEST_DEPTH}
use Rattle.clone_values.specs.Tree.{Tree}
use Rattle.clone_values.specs.KeyTree.{KeyTree}
use Rattle.clone_values.specs.KeyValues.{IsKey, key_depth}
use Rattle.clone_values.specs.Values.{IsCloneable}
use Rattle.clone_values.specs.View.{key_tree_of}
use Rattle.clone_values.specs.WellFormed.{IsValue}
use Rattle.clone_values.specs.declared.key_types.Key.{Key}
use Rattle.idb_schema.specs.declared.identities.StoreId.{StoreId}
use Rattle.idb_calls.specs.declared.calls.Call.{Call}
use Rattle.idb_calls.specs.declared.calls.Call.TheVariants.{Get, GetKey, Count, GetAll, GetAllKeys}
use Rattle.idb_calls.specs.declared.calls.Query.{Query}
use Rattle.idb_calls.specs.declared.calls.Target.{Target}
use Rattle.index_tables.specs.Rows.{RowTree}
use Rattle.store_requests.specs.Answers.{value_answer, key_answer, count_answer, values_answer, keys_answer}
use Rattle.query_ranges.specs.Queries.{range_of_query}
use Rattle.request_lists.specs.declared.entries.FrontCursor.{FrontCursor}
use Rattle.request_lists.specs.Fronts.{Front, cursor_of}
use Rattle.request_lists.specs.Placing.{over_of}
use Rattle.list_machine.specs.Requests.{StoreHere, limit_said}
use Rattle.list_machine.specs.Entries.{done_by_request}
use Rattle.live_stores.specs.Live.{CanStoreHere}
use Rattle.placed_calls.specs.Fitting.{IsAtKeyOf, IsAtKey, AreFit}
use Rattle.placed_calls.proofs.Laws.{cursor_fit}
use Rattle.tx_courses.specs.Courses.{CourseData, HasCome, state_with}
use Rattle.tx_courses.specs.Changes.{store_in}
use Rattle.entry_runs.specs.Asked.{place_here, answer_reading, CanStoreIn}
use Rattle.entry_runs.proofs.Unchanged.{come_read}

-- ---- reading
module _ {D : Type 0} (front : Front D) (old : CourseData) (call : Call) (target : Target) (answer : Option Tree) (e : answer ≡ answer_reading old target call) where
  read_as : (c : Call) → call ≡ c → HasCome (done_by_request (state_with front old) c) answer old old → HasCome (done_by_request (state_with front old) call) answer old old
  read_as c is h = subst (λ c. HasCome (done_by_request (state_with front old) c) answer old old) (sym is) h

  asks : (c : Call) → call ≡ c → answer ≡ answer_reading old target c
  asks c is = e ∙ ap (answer_reading old target) is

  pub get_by : (query : Query) → call ≡ Get target query → HasCome (done_by_request (state_with front old) call) answer old old
  get_by query is = read_as _ is (come_read old target (Get target query) (λ x. value_answer x (over_of old.schema target.index) (range_of_query query)) (λ x. refl) front answer (asks _ is))

  pub get_key_by : (query : Query) → call ≡ GetKey target query → HasCome (done_by_request (state_with front old) call) answer old old
  get_key_by query is = read_as _ is (come_read old target (GetKey target query) (λ x. key_answer x (over_of old.schema target.index) (range_of_query query)) (λ x. refl) front answer (asks _ is))

  pub count_by : (query : Query) → call ≡ Count target query → HasCome (done_by_request (state_with front old) call) answer old old
  count_by query is = read_as _ is (come_read old target (Count target query) (λ x. count_answer x (over_of old.schema target.index) (range_of_query query)) (λ x. refl) front answer (asks _ is))

  pub get_all_by : (query : Query) (count : Option ℤ) → call ≡ GetAll target query count → HasCome (done_by_request (state_with front old) call) answer old old
  get_all_by query count is = read_as _ is (come_read old target (GetAll target query count) (λ x. values_answer x (over_of old.schema target.index) (range_of_query query) (limit_said count)) (λ x. refl) front answer (asks _ is))

  pub get_all_keys_by : (query : Query) (count : Option ℤ) → call ≡ GetAllKeys target query count → HasCome (done_by_request (state_with front old) call) answer old old
  get_all_keys_by query count is = read_as _ is (come_read old target (GetAllKeys target query count) (λ x. keys_answer x (over_of old.schema target.index) (range_of_query query) (limit_said count)) (λ x. refl) front answer (asks _ is))

-- ---- what is stored can be stored
can_keyed : (o : Option StoreHere) (value : Tree) (key : KeyTree) → IsValue value × IsCloneable value → IsKey key × (key_depth key ≤ GREATEST_DEPTH) → CanStoreHere o value (Some key)
can_keyed None value key v k = tt
can_keyed (Some here) value key v k = record { value = v.0; cloneable = v.1; key = k }

abbrev pub seen_place : StoreId × Key → StoreId × KeyTree
seen_place place = (place.0, key_tree_of place.1)

module _ {D : Type 0} (front : Front D) (fit : AreFit front) (number : ℕ) where
  at_place : (id : StoreId) (o : Option RowTree) (place : StoreId × KeyTree) → IsAtKeyOf o → option_map (λ p. (id, p.1)) o ≡ Some place → IsKey place.1 × (key_depth place.1 ≤ GREATEST_DEPTH)
  at_place id None place at e = cc
  at_place id (Some p) place at e = subst (λ (q : StoreId × KeyTree). IsKey q.1 × (key_depth q.1 ≤ GREATEST_DEPTH)) (same e) at
    where
      same : Some (id, p.1) ≡ Some place → (id, p.1) ≡ place
      same e = cc

  at_cursor : (o : Option (FrontCursor D)) (place : StoreId × KeyTree) → ((c : FrontCursor D) → o ≡ Some c → IsAtKey c) → place_here o ≡ Some place → IsKey place.1 × (key_depth place.1 ≤ GREATEST_DEPTH)
  at_cursor None place fits e = cc
  at_cursor (Some c) place fits e = at_place c.target.store c.cursor.place place (fits c refl) e

  pub can_update : (old : CourseData) (value : Tree) (id : StoreId) (key : KeyTree) → IsValue value × IsCloneable value → place_here (cursor_of front number) ≡ Some (id, key) → CanStoreIn old id value (Some key)
  can_update old value id key v is = can_keyed (store_in old id) value key v (at_cursor (cursor_of front number) (id, key) (λ c e. cursor_fit number front.cursors c fit.cursors e) is)
