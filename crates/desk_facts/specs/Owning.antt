-- Whose the connections and events of a desk are, and what was asked.
--     HasOwn                each connection that isn't closed and each event in an inbox is one of an open or a delete that its
--                           client asked; and of each of these one thing alone stands: it waits, it runs, or the event that ends
--                           it is in an inbox
--     IsAskedAs, AreAsked   what stands on the board for an open or a delete is what was asked
use Rattle.std.specs.Prelude.{◌≡◌, ◌≤◌, ◌+◌, true, List, Some, is_some, ⊤}
use Rattle.std.specs.List.{AllByRecursion}
use Rattle.name_queues.specs.Names.{name_of, holds}
use Rattle.name_queues.specs.Mails.{Mail, conn_of}
use Rattle.name_queues.specs.declared.ids.ConnId.{ConnId}
use Rattle.name_queues.specs.declared.names.Named.{Named}
use Rattle.desk_steps.specs.declared.steps.DeskStep.{DeskStep}
use Rattle.desk_steps.specs.declared.steps.DeskStep.TheVariants as step
use Rattle.idb_desk.specs.Desks.{DeskState}
use Rattle.queue_facts.specs.Queued.{waiting, running, ending}
use Rattle.desk_facts.specs.Orderly.{asked_at}

-- the connection is one of an open of this name
abbrev pub IsConnOf : DeskState → Named → Type 0
IsConnOf d n = (who : ConnId) → holds who n ≡ true → asked_at d who ≡ Some (name_of n)

-- the events are those of opens and deletes that the client of the inbox asked
abbrev pub AreEventsOf : DeskState → Mail → Type 0
AreEventsOf d m = AllByRecursion (λ e. ((conn_of e).client ≡ m.client) × (is_some (asked_at d (conn_of e)) ≡ true)) m.events

pub record HasOwn (d : DeskState) : Type 0 where
  pub connections : AllByRecursion (IsConnOf d) d.queues.names
  pub events : AllByRecursion (AreEventsOf d) d.queues.mails
  pub once : (who : ConnId) → waiting who d.queues.names + running who d.queues.names + ending who d.queues.mails ≤ 1

-- the board has the name that was asked
abbrev pub IsAskedAs : DeskState → DeskStep → Type 0
IsAskedAs d (step.Asks who name want) = asked_at d who ≡ Some name
IsAskedAs d (step.Takes client) = ⊤
IsAskedAs d (step.Handles client) = ⊤
IsAskedAs d (step.Closes who) = ⊤
IsAskedAs d (step.Creates number who scope m durability) = ⊤
IsAskedAs d (step.Starts client number) = ⊤
IsAskedAs d (step.Leaves client number ended kept) = ⊤
IsAskedAs d step.Faults = ⊤

abbrev pub AreAsked : DeskState → List DeskStep → Type 0
AreAsked d ts = AllByRecursion (IsAskedAs d) ts
