-- A client's acts against the steps of the desk.
--     told_by               what the desk tells with a step
--     own_told              a client's own steps of a run of the desk, each with what was told
--     made_in               the steps among its acts, in the same form
--     part_run              the run up to a place
--     FailsAt, AllFailed    behind so many of its own steps the desk doesn't take a step;  each act that failed did so, none before an
--                           earlier one
--     Agrees                a client's acts are those of its steps in the run
--     MadeAtOnce            one driver makes the steps of acts behind a run, one after the other
use Rattle.std.specs.Prelude.{◌≡◌, ℕ, ◌+◌, ◌≤◌, Bool, false, List, [], ◌∷◌, length, take, filter, Option, Some, None, option_map, ⊤}
use Rattle.idb_keys.specs.declared.names.ErrorName.{ErrorName}
use Rattle.idb_schema.specs.Schemas.{SchemaData}
use Rattle.name_queues.specs.declared.events.ClientEvent.{ClientEvent}
use Rattle.name_queues.specs.declared.events.ClientEvent.TheVariants as event
use Rattle.connection_queues.specs.Machine.{schema_of}
use Rattle.desk_steps.specs.declared.steps.DeskStep.{DeskStep}
use Rattle.desk_steps.specs.declared.steps.DeskStep.TheVariants as step
use Rattle.idb_desk.specs.Desks.{DeskState}
use Rattle.idb_desk.specs.Refusals.{is_allowed, refusal_of_step}
use Rattle.idb_desk.specs.Steps.{DeskRun, after, answer_of, event_for, new_desk, desk_run, with_step}
use Rattle.idb_desk.specs.Tokens.{client_of, is_step_of}
use Rattle.client_machine.specs.Acts.{Told, Act, Noted, Makes, Fails, Begins, TakesTurn}

-- ---- what the desk tells
-- an upgrade's front has the schema at its new version
abbrev pub at_new_version : ℕ → SchemaData → SchemaData
at_new_version version schema = record schema { version = version }

abbrev pub schema_of_event : DeskState → Option ClientEvent → Option SchemaData
schema_of_event d (Some (event.Upgrade who old new)) = option_map (at_new_version new) (schema_of d.queues who)
schema_of_event d _ = None

abbrev pub schema_told : DeskState → DeskStep → Option SchemaData
schema_told d (step.Takes client) = schema_of_event d (event_for d client)
schema_told d (step.Creates number who scope m durability) = schema_of d.queues who
schema_told d _ = None

unfoldable pub told_by : DeskState → DeskStep → Told
told_by d t = record { event = (answer_of d t).event; number = (answer_of d t).number; schema = schema_told d t }

-- ---- its own steps
abbrev pub told_steps : DeskState → List DeskStep → List (DeskStep × Told)
told_steps d [] = []
told_steps d (t ∷ ts) = (t, told_by d t) ∷ told_steps (after d t) ts

abbrev pub is_own : ℕ → DeskStep × Told → Bool
is_own client e = is_step_of client e.0

unfoldable pub own_told : ℕ → DeskRun → List (DeskStep × Told)
own_told client r = filter (is_own client) (told_steps (new_desk r.opening) r.order)

abbrev pub made_in : List Act → List (DeskStep × Told)
made_in [] = []
made_in (Makes t told ∷ acts) = (t, told) ∷ made_in acts
made_in (Noted n ∷ acts) = made_in acts
made_in (Fails t name ∷ acts) = made_in acts
made_in (Begins tx ∷ acts) = made_in acts
made_in (TakesTurn number notes ∷ acts) = made_in acts

-- ---- what the desk doesn't take
abbrev pub part_run : DeskRun → ℕ → DeskRun
part_run r place = record { opening = r.opening; order = take place r.order }

-- at some place behind just n of the client's own steps
pub record FailsAt (client : ℕ) (r : DeskRun) (n : ℕ) (t : DeskStep) (name : Option ErrorName) : Type 0 where
  pub place : ℕ
  pub within : place ≤ length r.order
  pub behind : length (own_told client (part_run r place)) ≡ n
  pub not_taken : is_allowed (desk_run (part_run r place)) t ≡ false
  pub named : name ≡ refusal_of_step (desk_run (part_run r place)) t

-- from this place on
abbrev pub AllFailed : ℕ → DeskRun → (least n : ℕ) → List Act → Type 0
AllFailed client r least n [] = ⊤
AllFailed client r least n (Makes t told ∷ acts) = AllFailed client r least (n + 1) acts
AllFailed client r least n (Fails t name ∷ acts) = (f : FailsAt client r n t name) × ((least ≤ f.place) × AllFailed client r f.place n acts)
AllFailed client r least n (Noted note ∷ acts) = AllFailed client r least n acts
AllFailed client r least n (Begins tx ∷ acts) = AllFailed client r least n acts
AllFailed client r least n (TakesTurn number notes ∷ acts) = AllFailed client r least n acts

-- ---- both
pub record Agrees (client : ℕ) (r : DeskRun) (acts : List Act) : Type 0 where
  pub steps : made_in acts ≡ own_told client r
  pub failed : AllFailed client r 0 0 acts

-- ---- with one driver
abbrev pub MadeAtOnce : ℕ → DeskRun → List Act → DeskRun → Type 0
MadeAtOnce client r [] last = last ≡ r
MadeAtOnce client r (Makes t told ∷ acts) last = (client_of t ≡ Some client) × ((told ≡ told_by (desk_run r) t) × MadeAtOnce client (with_step r t) acts last)
MadeAtOnce client r (Fails t name ∷ acts) last = (is_allowed (desk_run r) t ≡ false) × ((name ≡ refusal_of_step (desk_run r) t) × MadeAtOnce client r acts last)
MadeAtOnce client r (Noted note ∷ acts) last = MadeAtOnce client r acts last
MadeAtOnce client r (Begins tx ∷ acts) last = MadeAtOnce client r acts last
MadeAtOnce client r (TakesTurn number notes ∷ acts) last = MadeAtOnce client r acts last
