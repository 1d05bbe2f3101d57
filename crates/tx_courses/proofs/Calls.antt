-- A call of an upgrade that would pass a limit.
--     past                  the machine stops it, since it makes one change
use Rattle.std.proofs.Common.{◌≡◌, ◌+◌, nat_le, true, false, not, ◌&&◌, if◌then◌else◌, length, Some, option_map, refl, ap, ◌∙◌}
use Rattle.idb_keys.specs.declared.names.ErrorName.TheVariants.{QuotaExceededError}
use Rattle.idb_schema.specs.declared.calls.SchemaCall.{SchemaCall}
use Rattle.idb_schema.specs.declared.calls.SchemaCall.TheVariants as change
use Rattle.idb_calls.specs.Deltas.{CreateIndex, DropIndex}
use Rattle.idb_calls.specs.declared.traces.TheConstants.{GREATEST_DELTA_COUNT}
use Rattle.request_lists.specs.Fronts.{Front}
use Rattle.request_lists.specs.Refusals.{is_store_gone}
use Rattle.list_machine.specs.declared.limits.TheConstants.{GREATEST_REQUEST_COUNT, GREATEST_VALUE_BYTES}
use Rattle.list_machine.specs.States.{State}
use Rattle.list_machine.specs.Entries.{stopped, came_unless, ran_change, deltas_of_call, stop_of_change, named_change}
use Rattle.tx_courses.specs.Courses.{CourseData, state_with, is_past}
use Rattle.tx_courses.specs.Changes.{ChangesBy}
use Rattle.tx_courses.proofs.Placed.{store_there}

module _ {D : Type 0} (front : Front D) (course : CourseData) where
  abbrev state : State D
  state = state_with front course

  one_delta : (call : SchemaCall) → is_store_gone course.schema call ≡ false → length (deltas_of_call state call) ≡ 1
  one_delta (change.CreateStore name path auto) stands = refl
  one_delta (change.DropStore name) stands = refl
  one_delta (change.CreateIndex store name path unique multi) stands =
      ap (λ o. length (named_change (option_map (λ info. info.name) o) (λ s. CreateIndex course.schema.name s name path unique multi))) (store_there course.schema store stands).1
  one_delta (change.DropIndex store name) stands =
      ap (λ o. length (named_change (option_map (λ info. info.name) o) (λ s. DropIndex course.schema.name s name))) (store_there course.schema store stands).1

  pub past : (call : SchemaCall) → is_store_gone course.schema call ≡ false → is_past course 0 0 1 ≡ true → ChangesBy state call (Some QuotaExceededError) course
  past call stands full = (
    ap (λ b. if b then stopped QuotaExceededError else came_unless (stop_of_change state call) (ran_change state call))
        (ap (λ n. not (nat_le (course.requests + 0) GREATEST_REQUEST_COUNT && (nat_le (course.bytes + 0) GREATEST_VALUE_BYTES && nat_le (length course.changes + n) GREATEST_DELTA_COUNT))) (one_delta call stands) ∙ full),
    refl,
  )
