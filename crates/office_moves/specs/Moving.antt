-- A move of a client in its office.
--     has_work              the client has a task, or an event that it hasn't taken
--     IsMoveOf              it has, or where a number is named that transaction is due
use Rattle.std.specs.Prelude.{◌≡◌, ℕ, Bool, true, ◌||◌, Option, Some, None}
use Rattle.name_queues.specs.Mails.{events_of}
use Rattle.idb_desk.specs.Desks.{DeskState}
use Rattle.idb_desk.specs.Refusals.{has_some}
use Rattle.idb_desk.specs.Steps.{DeskRun, desk_run}
use Rattle.client_machine.specs.ClientStates.{ClientState}
use Rattle.office_scenes.specs.Running.{IsDue}

abbrev pub has_work : DeskState → ClientState → Bool
has_work d c = has_some c.tasks || has_some (events_of d.queues.mails c.number)

abbrev pub IsMoveOf : DeskRun → ClientState → Option ℕ → Type 0
IsMoveOf r c None = has_work (desk_run r) c ≡ true
IsMoveOf r c (Some number) = IsDue r c number
