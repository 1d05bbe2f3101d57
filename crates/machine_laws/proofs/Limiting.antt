-- Each turn that goes on keeps the limits.
--     limits_fresh, turn_limits     at the start;  after a turn
use Rattle.std.proofs.Common.{◌≡◌, ℕ, zero, suc, ◌+◌, ◌≤◌, nat_le, Bool, true, false, ◌&&◌, if◌then◌else◌, List, [], ◌∷◌, ◌++◌, length, remove, Option, Some, None, is_some, refl, sym, ap, subst, arith}
use Rattle.std.specs.Prelude.{unwrap_or, option_map}
use Rattle.std.specs.Option.{option_and_then}
use Rattle.std.specs.Ordering.{nat_cmp, is_lt}
use Rattle.std.specs.Cmp.Lexicographic.{slice_cmp}
use Rattle.std.proofs.lemmas.Bool.{leb-true}
use Rattle.std.proofs.lemmas.List.{length-append}
use Rattle.std.proofs.lemmas.Grind.{common_steps}
use Rattle.idb_keys.specs.declared.names.ErrorName.{ErrorName}
use Rattle.idb_keys.specs.declared.names.ErrorName.TheVariants.{QuotaExceededError}
use Rattle.idb_keys.specs.declared.names.Mode.{Mode}
use Rattle.idb_keys.specs.declared.names.Mode.TheVariants as mode
use Rattle.item_changes.specs.Items.{Database}
use Rattle.idb_schema.specs.declared.calls.SchemaCall.{SchemaCall}
use Rattle.idb_schema.specs.declared.calls.SchemaCall.TheVariants as change
use Rattle.idb_schema.specs.declared.entries.StoreEntry.{StoreEntry}
use Rattle.idb_schema.specs.Definitions.{store_named, index_named}
use Rattle.idb_schema.specs.Schemas.{SchemaData, stores_of, indexes_at, place_of, put_in_order, change_at, new_entry, without_store, without_index, entry_with_index, entry_without_index}
use Rattle.version_upgrade.specs.Upgrades.{schema_after}
use Rattle.idb_calls.specs.declared.traces.TheConstants.{GREATEST_DELTA_COUNT}
use Rattle.idb_calls.specs.Deltas.{DeltaTree}
use Rattle.request_lists.specs.declared.entries.ListEntry.{ListEntry}
use Rattle.request_lists.specs.declared.entries.ListEntry.TheVariants.{Request, Turn as CursorTurn, Change}
use Rattle.request_lists.specs.Fronts.{Front, cursor_of}
use Rattle.list_machine.specs.declared.limits.TheConstants.{GREATEST_REQUEST_COUNT, GREATEST_VALUE_BYTES, GREATEST_STORE_COUNT}
use Rattle.list_machine.specs.declared.steps.Step.TheVariants.{Did}
use Rattle.list_machine.specs.States.{State, fresh_state, opening_changes}
use Rattle.list_machine.specs.Entries.{came, came_unless, resulted, Done, done_by_request, done_by_turn, with_done, with_turn_taken, ran_change, deltas_of_call, stop_of_change, is_past_limit, bytes_to_store}
use Rattle.list_machine.specs.Machine.{Reacts, Writes, Turn, with_entries}
use Rattle.machine_laws.specs.Limiting.{WithinLimits}
use Rattle.machine_laws.proofs.Checking.{and_both, not_not}
use Rattle.list_machine.proofs.Laws.{AllCame, limit_all, unless_all, turn_all}

-- ---- what is not past the limits
pub record Room {D : Type 0} (state : State D) (requests bytes : ℕ) (changes : List DeltaTree) : Type 0 where
  pub requests_fit : state.requests + requests ≤ GREATEST_REQUEST_COUNT
  pub bytes_fit : state.bytes + bytes ≤ GREATEST_VALUE_BYTES
  pub changes_fit : length state.changes + length changes ≤ GREATEST_DELTA_COUNT

room : {D : Type 0} (state : State D) (requests bytes : ℕ) (changes : List DeltaTree) → is_past_limit state requests bytes changes ≡ false → Room state requests bytes changes
room state requests bytes changes e =
    let all = and_both _ _ (not_not (nat_le (state.requests + requests) GREATEST_REQUEST_COUNT && (nat_le (state.bytes + bytes) GREATEST_VALUE_BYTES && nat_le (length state.changes + length changes) GREATEST_DELTA_COUNT)) e) in
    let more = and_both (nat_le (state.bytes + bytes) GREATEST_VALUE_BYTES) (nat_le (length state.changes + length changes) GREATEST_DELTA_COUNT) all.1 in
    record {
      requests_fit = leb-true (state.requests + requests) GREATEST_REQUEST_COUNT all.0;
      bytes_fit = leb-true (state.bytes + bytes) GREATEST_VALUE_BYTES more.0;
      changes_fit = leb-true (length state.changes + length changes) GREATEST_DELTA_COUNT more.1;
    }

some_bytes : (b : Bool) (bytes n limit : ℕ) → n + bytes ≤ limit → n + (if b then bytes else 0) ≤ limit
some_bytes true bytes n limit le = le
some_bytes false bytes n limit le = omega arith

both_lists : (xs ys : List DeltaTree) (limit : ℕ) → length xs + length ys ≤ limit → length (xs ++ ys) ≤ limit
both_lists xs ys limit le = subst (λ n. n ≤ limit) (sym (length-append xs ys)) le

done_fits : {D : Type 0} (state : State D) (done : Done) (bytes : ℕ) → length state.schema.entries ≤ GREATEST_STORE_COUNT → Room state 1 bytes done.changes → WithinLimits (with_done state done bytes)
done_fits state done bytes stores r = record {
  requests = r.requests_fit;
  bytes = some_bytes (is_some done.answer) bytes state.bytes GREATEST_VALUE_BYTES r.bytes_fit;
  changes = both_lists state.changes done.changes GREATEST_DELTA_COUNT r.changes_fit;
  stores = stores;
}

-- ---- stores
put_length : (es : List StoreEntry) (e : StoreEntry) → length (put_in_order es e) ≡ suc (length es)
put_length [] e = refl
put_length (d ∷ ds) e = elim (is_lt (slice_cmp nat_cmp e.info.name d.info.name)) as (λ b. length (if b then e ∷ d ∷ ds else d ∷ put_in_order ds e) ≡ suc (suc (length ds))) [ true ↦ refl | false ↦ ap suc (put_length ds e) ]

change_length : (es : List StoreEntry) (place : ℕ) (f : StoreEntry → StoreEntry) → length (change_at es place f) ≡ length es
change_length [] place f = refl
change_length (e ∷ es) zero f = refl
change_length (e ∷ es) (suc place) f = ap suc (change_length es place f)

remove_length : (es : List StoreEntry) (place : ℕ) → length (remove es place) ≤ length es
remove_length [] zero = omega arith
remove_length [] (suc place) = omega arith
remove_length (e ∷ es) zero = omega arith
remove_length (e ∷ es) (suc place) = let le = remove_length es place in omega (arith, le)

below : (n : ℕ) → nat_le GREATEST_STORE_COUNT n ≡ false → suc n ≤ GREATEST_STORE_COUNT
below n e = grind (arith, common_steps)

abbrev Fits : SchemaData → Type 0
Fits schema = length schema.entries ≤ GREATEST_STORE_COUNT

without_fits : (schema : SchemaData) (o : Option ℕ) → Fits schema → Fits (unwrap_or (option_map (without_store schema) o) schema)
without_fits schema None fits = fits
without_fits schema (Some place) fits = let le = remove_length schema.entries place in omega (arith, le, fits)

index_fits : (schema : SchemaData) (f : StoreEntry → StoreEntry) (o : Option ℕ) → Fits schema → Fits (unwrap_or (option_map (λ place. record schema { entries = change_at schema.entries place f }) o) schema)
index_fits schema f None fits = fits
index_fits schema f (Some place) fits = subst (λ n. n ≤ GREATEST_STORE_COUNT) (sym (change_length schema.entries place f)) fits

index_gone_at : (schema : SchemaData) (at : ℕ) (o : Option ℕ) → Fits schema → Fits (unwrap_or (option_map (without_index schema at) o) schema)
index_gone_at schema at None fits = fits
index_gone_at schema at (Some place) fits = subst (λ n. n ≤ GREATEST_STORE_COUNT) (sym (change_length schema.entries at (λ e. entry_without_index e place))) fits

index_gone : (schema : SchemaData) (name : List ℕ) (o : Option ℕ) → Fits schema → Fits (unwrap_or (option_and_then (λ at. option_map (without_index schema at) (index_named (indexes_at schema at) name)) o) schema)
index_gone schema name None fits = fits
index_gone schema name (Some at) fits = index_gone_at schema at (index_named (indexes_at schema at) name) fits

none_stopped : (b : Bool) (error : ErrorName) → (if b then Some error else None) ≡ None → b ≡ false
none_stopped true error e = cc
none_stopped false error e = refl

call_fits : {D : Type 0} (state : State D) (call : SchemaCall) → Fits state.schema → stop_of_change state call ≡ None → Fits (schema_after state.schema call)
call_fits state (change.CreateStore name path auto) fits go =
    subst (λ n. n ≤ GREATEST_STORE_COUNT) (sym (put_length state.schema.entries (new_entry (record { name = name; path = path; auto = auto; indexes = [] }) state.schema.next_id)))
    (below (length state.schema.entries) (none_stopped (nat_le GREATEST_STORE_COUNT (length state.schema.entries)) QuotaExceededError go))
call_fits state (change.DropStore name) fits go = without_fits state.schema (store_named (stores_of state.schema) name) fits
call_fits state (change.CreateIndex store name path unique multi) fits go = index_fits state.schema (λ e. entry_with_index e (record { name = name; path = path; unique = unique; multi = multi })) (place_of state.schema store) fits
call_fits state (change.DropIndex store name) fits go = index_gone state.schema name (place_of state.schema store) fits

-- ---- one entry
came_fits : {D : Type 0} (state : State D) (entry : ListEntry D) → WithinLimits state → AllCame WithinLimits (came state entry)
came_fits state (Request request call handler) w =
    let done = done_by_request state call in
    limit_all WithinLimits (is_past_limit state 1 (bytes_to_store call) done.changes) QuotaExceededError (resulted (with_done state done (bytes_to_store call)) request done.answer)
    (λ past. done_fits state done (bytes_to_store call) w.stores (room state 1 (bytes_to_store call) done.changes past))
came_fits state (CursorTurn number call) w =
    let turned = with_turn_taken state number call in
    let done = done_by_turn state call (cursor_of state.front number) in
    limit_all WithinLimits (is_past_limit turned 1 0 done.changes) QuotaExceededError (resulted (with_done turned done 0) number done.answer)
    (λ past. done_fits turned done 0 w.stores (room turned 1 0 done.changes past))
came_fits state (Change call) w =
    limit_all WithinLimits (is_past_limit state 0 0 (deltas_of_call state call)) QuotaExceededError (came_unless (stop_of_change state call) (ran_change state call))
    (λ past. unless_all WithinLimits (stop_of_change state call) (ran_change state call) (λ go. record {
      requests = w.requests;
      bytes = w.bytes;
      changes = both_lists state.changes (deltas_of_call state call) GREATEST_DELTA_COUNT (room state 0 0 (deltas_of_call state call) past).changes_fit;
      stores = call_fits state call w.stores go;
    }))

again : {D : Type 0} (old state : State D) → state.requests ≡ old.requests → state.bytes ≡ old.bytes → state.changes ≡ old.changes → state.schema ≡ old.schema → WithinLimits old → WithinLimits state
again old state r b c s w = record {
  requests = subst (λ n. n ≤ GREATEST_REQUEST_COUNT) (sym r) w.requests;
  bytes = subst (λ n. n ≤ GREATEST_VALUE_BYTES) (sym b) w.bytes;
  changes = subst (λ xs. length xs ≤ GREATEST_DELTA_COUNT) (sym c) w.changes;
  stores = subst (λ x. Fits x) (sym s) w.stores;
}

pub turn_limits : {D L : Type 0} (reacts : Reacts D) (writes : Writes D L) (old new : State D) (lines : List L) → Turn reacts writes old Did new lines → WithinLimits old → WithinLimits new
turn_limits reacts writes old new lines t w = turn_all WithinLimits reacts writes (λ state entry event last how ls s h. again state (record state { front = last }) refl refl refl refl s) old new lines
    (λ entry entries at. came_fits (with_entries old entries) entry (again old (with_entries old entries) refl refl refl refl w)) t

few_changes : (m : Mode) (schema : SchemaData) → length (opening_changes m schema) ≤ GREATEST_DELTA_COUNT
few_changes mode.ReadOnly schema = omega arith
few_changes mode.ReadWrite schema = omega arith
few_changes mode.VersionChange schema = omega arith

pub limits_fresh : {D : Type 0} (front : Front D) (schema : SchemaData) (before : Option Database) → length schema.entries ≤ GREATEST_STORE_COUNT → WithinLimits (fresh_state front schema before)
limits_fresh front schema before few = record { requests = omega arith; bytes = omega arith; changes = few_changes front.mode schema; stores = few }
