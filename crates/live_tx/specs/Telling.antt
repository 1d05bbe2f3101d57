-- What the requests of a transaction are told in a turn (Indexed Database API 3.0, "fire a success event", "fire an error event" and
-- "abort a transaction").
--     events_after          the requests that wait are told where the transaction aborts after an event
--     events_of_entry       what is told as the first entry is run
--     events_told           what is told in a turn, in order
--     TurnsInto             a turn, with what it added to the notes and to what was told
--     AbortsInto            an abort from outside, likewise
use Rattle.std.specs.Prelude.{◌≡◌, List, [], ◌∷◌, ◌++◌, Option, Some, None}
use Rattle.idb_keys.specs.declared.names.ErrorName.{ErrorName}
use Rattle.idb_calls.specs.declared.events.Event.{Event}
use Rattle.request_lists.specs.declared.entries.ListEntry.{ListEntry}
use Rattle.request_lists.specs.declared.entries.Phase.{Phase}
use Rattle.request_lists.specs.declared.entries.Phase.TheVariants as phase
use Rattle.request_lists.specs.Fronts.{Front}
use Rattle.list_machine.specs.declared.steps.Step.{Step}
use Rattle.list_machine.specs.States.{State}
use Rattle.list_machine.specs.Entries.{Came, stopped, took_effect, resulted, came}
use Rattle.list_machine.specs.Machine.{Reacts, Writes, Turn, TurnIn, TurnAt, Ensues, Aborts, verdict, with_entries}
use Rattle.handler_calls.specs.Telling.{abort_events}

-- all that wait then, also what the handler of the event placed
abbrev pub events_after : {D : Type 0} → Option (Option ErrorName) → Front D → List Event
events_after None last = []
events_after (Some error) last = abort_events last.waiting

module _ {D L : Type 0} (reacts : Reacts D) (writes : Writes D L) where
  -- an entry that isn't run waits still;  a call of an upgrade has no event
  abbrev pub events_of_entry : (old : State D) (entry : ListEntry D) (c : Came D) (step : Step) (new : State D) (lines : List L) → Ensues reacts writes old entry c step new lines → List Event
  events_of_entry old entry (stopped error) step new lines t = abort_events old.front.waiting
  events_of_entry old entry (took_effect state) step new lines t = []
  events_of_entry old entry (resulted state number result) step new lines t = t.event ∷ events_after (verdict t.last.phase t.event t.how) t.last

  abbrev pub events_at : (old : State D) (entries : List (ListEntry D)) (step : Step) (new : State D) (lines : List L) → TurnAt reacts writes old entries step new lines → List Event
  events_at old [] step new lines t = []
  events_at old (entry ∷ entries) step new lines t = events_of_entry old entry (came (with_entries old entries) entry) step new lines t

  abbrev pub events_in : (p : Phase) (old : State D) (step : Step) (new : State D) (lines : List L) → TurnIn reacts writes p old step new lines → List Event
  events_in phase.Active old step new lines t = events_at old old.front.waiting step new lines t
  events_in phase.Inactive old step new lines t = events_at old old.front.waiting step new lines t
  events_in phase.Committing old step new lines t = events_at old old.front.waiting step new lines t
  events_in phase.Committed old step new lines t = events_at old old.front.waiting step new lines t
  events_in (phase.Aborted error) old step new lines t = abort_events old.front.waiting

  abbrev pub events_told : (old : State D) (step : Step) (new : State D) (lines : List L) → Turn reacts writes old step new lines → List Event
  events_told old step new lines t = events_in old.front.phase old step new lines t

pub record TurnsInto {D L : Type 0} (reacts : Reacts D) (writes : Writes D L) (old : State D) (step : Step) (new : State D) (before after : List L) (told_before told_after : List Event) : Type 0 where
  pub lines : List L
  pub turn : Turn reacts writes old step new lines
  pub added : after ≡ before ++ lines
  pub told : told_after ≡ told_before ++ events_told reacts writes old step new lines turn

pub record AbortsInto {D L : Type 0} (reacts : Reacts D) (writes : Writes D L) (old : State D) (error : Option ErrorName) (new : State D) (before after : List L) (told_before told_after : List Event) : Type 0 where
  pub lines : List L
  pub aborts : Aborts reacts writes old error new lines
  pub added : after ≡ before ++ lines
  pub told : told_after ≡ told_before ++ abort_events old.front.waiting
