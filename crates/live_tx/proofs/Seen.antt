-- An abort from outside, seen of plain data.
--     abort_seen            it is one of what is seen of the handlers
use Rattle.std.proofs.Common.{◌≡◌, ◌≢◌, ℕ, List, [], ◌∷◌, ◌++◌, map, Option, Some, None, refl, sym, ◌∙◌, ap, subst}
use Rattle.idb_keys.specs.declared.names.ErrorName.{ErrorName}
use Rattle.idb_keys.specs.declared.names.ErrorName.TheVariants.{AbortError}
use Rattle.idb_calls.specs.declared.events.Event.{Event}
use Rattle.idb_calls.specs.declared.events.Event.TheVariants.{Error}
use Rattle.request_lists.specs.declared.entries.ListEntry.{ListEntry}
use Rattle.request_lists.specs.declared.entries.ListEntry.TheVariants.{Request, Turn as CursorTurn, Change}
use Rattle.request_lists.specs.Fronts.{entry_map}
use Rattle.list_machine.specs.States.{State}
use Rattle.list_machine.specs.Machine.{Reacts, Writes}
use Rattle.list_machine.specs.Seeing.{state_map, pulled_reacts, pulled_writes}
use Rattle.list_machine.proofs.Laws.{aborts_map}
use Rattle.handler_calls.specs.Telling.{abort_events}
use Rattle.live_tx.specs.declared.standing.Standing.{Standing}
use Rattle.live_tx.specs.declared.standing.Standing.TheVariants as standing
use Rattle.live_tx.specs.Telling.{AbortsInto}
use Rattle.live_tx.specs.Live.{abort_error, AbortsFrom}

module _ {H D : Type 0} (f : H → D) where
  events_seen : (entries : List (ListEntry H)) → abort_events (map (entry_map f) entries) ≡ abort_events entries
  events_seen [] = refl
  events_seen (Request request call handler ∷ entries) = ap (λ es. Error request AbortError ∷ es) (events_seen entries)
  events_seen (CursorTurn number call ∷ entries) = ap (λ es. Error number AbortError ∷ es) (events_seen entries)
  events_seen (Change call ∷ entries) = events_seen entries

  module _ {L : Type 0} (reacts : Reacts D) (writes : Writes D L) (old new : State H) (before after : List L) (told_before told_after : List Event) where
    aborts_seen : (error : Option ErrorName) → AbortsInto (pulled_reacts f reacts) (pulled_writes f writes) old error new before after told_before told_after
        → AbortsInto reacts writes (state_map f old) error (state_map f new) before after told_before told_after
    aborts_seen error a = record {
      lines = a.lines;
      aborts = aborts_map f reacts writes old error new a.lines a.aborts;
      added = a.added;
      told = a.told ∙ ap (λ es. told_before ++ es) (sym (events_seen old.front.waiting));
    }

    pub abort_seen : (s : Standing) (error : Option ErrorName) → AbortsFrom (pulled_reacts f reacts) (pulled_writes f writes) s old error new before after told_before told_after
        → AbortsFrom reacts writes s (state_map f old) error (state_map f new) before after told_before told_after
    abort_seen standing.Running error a = aborts_seen (abort_error old.front.phase error) a
    abort_seen standing.Idle error a = aborts_seen (abort_error old.front.phase error) a
    abort_seen (standing.Aborted own) error a = (ap (state_map f) a.0, a.1, a.2)
    abort_seen standing.Stuck error a = a
