-- An upgrade whose body has run, and its run to its end (Indexed Database API 3.0, "upgrade a database" and "transaction lifetime").
--     begun_upgrade         the state of an upgrade of a database in version 1 without stores, as its body left it
--     started_upgrade       that upgrade before its first turn
--     TurnsOn, GoesFor      so many turns, each of which goes on;  and what they added to the notes
--     IsRunOf               a run of the list machine for planned handlers: to its end, or by as many turns as a u64 counts
use Rattle.std.specs.Prelude.{◌≡◌, ◌+◌, ◌-◌, ◌^◌, ℕ, Bool, List, [], ◌++◌, Some}
use Rattle.std.specs.FinMap as finite
use Rattle.idb_keys.specs.declared.names.Durability.TheVariants as durability
use Rattle.idb_schema.specs.Schemas.{SchemaData}
use Rattle.idb_calls.specs.declared.calls.Call.{Call}
use Rattle.idb_calls.specs.declared.events.Event.{Event}
use Rattle.request_lists.specs.Fronts.{Front}
use Rattle.list_machine.specs.declared.steps.Step.{Step}
use Rattle.list_machine.specs.declared.steps.Step.TheVariants as steps
use Rattle.list_machine.specs.States.{State, fresh_state}
use Rattle.list_machine.specs.Machine.{Turn}
use Rattle.live_stores.specs.Live.{database_at}
use Rattle.live_tx.specs.declared.standing.Standing.TheVariants as stands
use Rattle.live_tx.specs.Live.{LiveState, RunsToEnd}
use Rattle.live_client.specs.Plans.{Plan, asked_all, same_plan, PlanReacts, PlanWrites}
use Rattle.live_client.specs.Bodies.{BodyData, as_left}

-- ---- as it begins
abbrev pub upgrade_state : SchemaData → Front Plan → State Plan
upgrade_state schema front = fresh_state front schema (database_at (Some 1) finite.empty)

-- the body placed these requests at its end, and returned or threw
abbrev pub begun_upgrade : BodyData → List (Call × Plan) → Bool → State Plan
begun_upgrade body requests threw = upgrade_state body.schema (as_left threw (asked_all same_plan requests body.front))

abbrev pub started_upgrade : State Plan → LiveState Plan
started_upgrade state = record { number = 1; durability = durability.Relaxed; state = state; told = []; standing = stands.Running }

-- ---- its run
pub data TurnsOn (old : State Plan) : ℕ → State Plan → List Event → Type 0 where
  NoTurn : TurnsOn old 0 old []
  OneMore : (turns : ℕ) (mid last : State Plan) (first rest : List Event) → TurnsOn old turns mid first → Turn PlanReacts PlanWrites mid steps.Did last rest → TurnsOn old (turns + 1) last (first ++ rest)

pub record GoesFor (turns : ℕ) (old new : State Plan) (before after : List Event) : Type 0 where
  pub lines : List Event
  pub goes : TurnsOn old turns new lines
  pub added : after ≡ before ++ lines

-- it goes on only behind as many turns as a u64 counts; want of memory ends no run
abbrev pub IsRunOf : State Plan → Step → State Plan → List Event → List Event → Type 0
IsRunOf old steps.Did new before after = GoesFor (2 ^ 64 - 1) old new before after
IsRunOf old steps.Idle new before after = RunsToEnd PlanReacts PlanWrites old steps.Idle new before after
IsRunOf old (steps.Aborted error) new before after = RunsToEnd PlanReacts PlanWrites old (steps.Aborted error) new before after
IsRunOf old steps.NoMemory new before after = ⊥
