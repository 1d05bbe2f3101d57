-- What telling the entries that wait comes to, one after another (Indexed Database API 3.0, "abort a transaction").
--     abort_events          the events of the requests that wait
--     ToldFirst             the first entry was told, and what is told behind it is all that is left
--     ToldSoFar             some were told, and what is told behind them is all that is left
use Rattle.std.specs.Prelude.{◌≡◌, ℕ, true, List, [], ◌∷◌, ◌++◌, Option, Some, None}
use Rattle.idb_keys.specs.declared.names.ErrorName.TheVariants.{AbortError}
use Rattle.idb_calls.specs.declared.events.Event.{Event}
use Rattle.idb_calls.specs.declared.events.Event.TheVariants.{Error}
use Rattle.request_lists.specs.declared.entries.ListEntry.{ListEntry}
use Rattle.request_lists.specs.Fronts.{Front, is_finished}
use Rattle.list_machine.specs.Machine.{Reacts, Writes, Cancels, number_in, with_waiting}

-- each request that waits is told that its transaction aborted
abbrev pub abort_events_in : Option ℕ → List Event → List Event
abort_events_in None events = events
abort_events_in (Some number) events = Error number AbortError ∷ events

abbrev pub abort_events : {D : Type 0} → List (ListEntry D) → List Event
abort_events [] = []
abort_events (entry ∷ entries) = abort_events_in (number_in entry) (abort_events entries)

pub record ToldFirst {D L : Type 0} (reacts : Reacts D) (writes : Writes D L) (entry : ListEntry D) (front after : Front D) (before now_written : List L) : Type 0 where
  pub told : List L
  pub lines : now_written ≡ before ++ told
  pub waiting : after.waiting ≡ front.waiting
  pub finished : is_finished after ≡ true
  pub completes : (whole last : Front D) (rest : List L) → with_waiting whole front.waiting ≡ front → Cancels reacts writes front.waiting after last rest → Cancels reacts writes (entry ∷ front.waiting) whole last (told ++ rest)

pub record ToldSoFar {D L : Type 0} (reacts : Reacts D) (writes : Writes D L) (start here : Front D) (before now_written : List L) : Type 0 where
  pub told : List L
  pub lines : now_written ≡ before ++ told
  pub finished : is_finished here ≡ true
  pub completes : (last : Front D) (rest : List L) → Cancels reacts writes here.waiting here last rest → Cancels reacts writes start.waiting start last (told ++ rest)
