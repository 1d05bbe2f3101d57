-- A front whose transaction never starts.
use Rattle.std.proofs.Common.{◌≡◌, List, ◌++◌, map, sym, subst}
use Rattle.request_lists.specs.declared.entries.Phase.{Phase}
use Rattle.request_lists.specs.Fronts.{Front, entry_map, front_map}
use Rattle.request_lists.specs.Running.{ended_as}
use Rattle.list_machine.specs.Machine.{Reacts, Writes, Cancels}
use Rattle.list_machine.specs.Seeing.{pulled_reacts, pulled_writes}
use Rattle.list_machine.proofs.Laws.{cancels_map}
use Rattle.handler_calls.specs.Attending.{IsAttended}
use Rattle.handler_calls.specs.Cancelling.{cancelled}

pub ended_attended : {D : Type 0} (front last : Front D) (phase : Phase) → last ≡ ended_as phase front → IsAttended front → IsAttended last
ended_attended front last phase e a = subst IsAttended (sym e) (record { cursors = a.cursors; waiting = a.waiting })

pub cancelled_told : {H D L : Type 0} (f : H → D) (reacts : Reacts D) (writes : Writes D L) (front start last : Front H) (before after : List L) → start ≡ cancelled front
    → ((ls : List L) × Cancels (pulled_reacts f reacts) (pulled_writes f writes) start.waiting start last ls × (after ≡ before ++ ls))
    → (plain : Front D) × (ls : List L) × Cancels reacts writes (map (entry_map f) front.waiting) (front_map f (cancelled front)) plain ls × (after ≡ before ++ ls)
cancelled_told f reacts writes front start last before after e told = (
  front_map f last,
  told.0,
  subst (λ w. Cancels reacts writes (map (entry_map f) w.waiting) (front_map f w) (front_map f last) told.0) e (cancels_map f reacts writes start.waiting start last told.0 told.1),
  told.2,
)
