-- A handler as plain data: the calls that it places at each of its events.
--     Plan                  the calls that a handler places at each of its events, in turn, and how it ends
--     leaf                  a handler that places nothing
--     asked_one, asked_all    the front after a call, which may be refused;  and after calls in order
--     PlanReacts, PlanWrites        what such a handler does at an event, and what it writes
use Rattle.std.specs.Prelude.{◌≡◌, List, [], ◌∷◌, drop, slice_get, Option, Some, None}
use Rattle.std.specs.Coded.{Coded, codes}
use Rattle.clone_values.specs.Tree.{tree_code}
use Rattle.idb_keys.specs.declared.names.ErrorName.{ErrorName}
use Rattle.idb_calls.specs.declared.calls.Call.{Call}
use Rattle.idb_calls.specs.declared.events.Event.{Event}
use Rattle.request_lists.specs.declared.handlers.HandlerEnd.{HandlerEnd}
use Rattle.request_lists.specs.Fronts.{Front}
use Rattle.request_lists.specs.Refusals.{refusal_of}
use Rattle.request_lists.specs.Placing.{after_call}

-- with each call stands how its handler ends
pub record Plan : Type 0 where
  pub turns : List (List (Call × HandlerEnd))
  pub ends : HandlerEnd

-- by which a proof tells two plans apart
pub plan_code : Coded Plan
plan_code = hlevel (codes, tree_code)

abbrev pub leaf : HandlerEnd → Plan
leaf ends = record { turns = []; ends = ends }

-- ---- calls
abbrev pub if_taken : {D : Type 0} → Option ErrorName → Front D → Front D → Front D
if_taken None before after = after
if_taken (Some name) before after = before

-- a call that is refused changes nothing
abbrev pub asked_one : {D : Type 0} → Front D → Call → D → Front D
asked_one front call handler = if_taken (refusal_of call front) front (after_call call handler front)

-- each with the handler that is made of what stands beside it
abbrev pub asked_all : {A D : Type 0} → (A → D) → List (Call × A) → Front D → Front D
asked_all make [] front = front
asked_all make (r ∷ rs) front = asked_all make rs (asked_one front r.0 (make r.1))

abbrev pub same_plan : Plan → Plan
same_plan plan = plan

-- ---- handlers
abbrev pub asked_turn : Option (List (Call × HandlerEnd)) → Front Plan → Front Plan
asked_turn None front = front
asked_turn (Some calls) front = asked_all leaf calls front

-- at an event of either kind the next of its turns is placed
abbrev pub PlanReacts : Plan → Front Plan → Event → Plan → Front Plan → HandlerEnd → Type 0
PlanReacts plan front event after last how = (after ≡ record plan { turns = drop 1 plan.turns }) × (last ≡ asked_turn (slice_get plan.turns 0) front) × (how ≡ plan.ends)

-- it writes the event
abbrev pub PlanWrites : Plan → Front Plan → Event → List Event → Type 0
PlanWrites plan front event lines = lines ≡ event ∷ []
