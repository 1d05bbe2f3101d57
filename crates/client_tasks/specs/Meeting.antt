-- What the parts of meeting an event do.
--     open_numbered         the open of a number
--     HandlesInto           a versionchange event was handled, where one was left
use Rattle.std.specs.Prelude.{◌≡◌, ℕ, ◌-◌, ◌==◌, false, List, Option, None, if◌then◌else◌, slice_get}
use Rattle.desk_steps.specs.declared.steps.DeskStep.TheVariants as step
use Rattle.idb_desk.specs.Refusals.{is_allowed}
use Rattle.idb_desk.specs.Steps.{DeskRun, desk_run, with_step}
use Rattle.client_machine.specs.ClientStates.{OpenAsked}

abbrev pub open_numbered : List OpenAsked → ℕ → Option OpenAsked
open_numbered opens request = if request == 0 then None else slice_get opens (request - 1)

pub data HandlesInto (client : ℕ) (r last : DeskRun) : Type 0 where
  TookHandled : last ≡ with_step r (step.Handles client) → HandlesInto client r last
  LeftHandled : last ≡ r → is_allowed (desk_run r) (step.Handles client) ≡ false → HandlesInto client r last
