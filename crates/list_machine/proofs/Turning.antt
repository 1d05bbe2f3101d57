-- What a turn that goes on keeps, given what running its entry keeps and what handling an event does.
--     AllCame               of what running an entry comes to, unless the transaction aborts
--     limit_all, unless_all running it unless a limit would be passed;  a call of an upgrade unless it fails
--     turn_all              so after the turn
use Rattle.std.proofs.Common.{◌≡◌, Bool, true, false, if◌then◌else◌, List, [], ◌∷◌, Option, Some, None, refl, sym, subst}
use Rattle.std.specs.Prelude.{⊤}
use Rattle.idb_keys.specs.declared.names.ErrorName.{ErrorName}
use Rattle.idb_calls.specs.declared.events.Event.{Event}
use Rattle.request_lists.specs.declared.entries.ListEntry.{ListEntry}
use Rattle.request_lists.specs.declared.entries.Phase.{Phase}
use Rattle.request_lists.specs.declared.entries.Phase.TheVariants as phase
use Rattle.request_lists.specs.declared.handlers.HandlerEnd.{HandlerEnd}
use Rattle.request_lists.specs.Fronts.{Front}
use Rattle.list_machine.specs.declared.steps.Step.TheVariants.{Did, Idle, Aborted}
use Rattle.list_machine.specs.States.{State}
use Rattle.list_machine.specs.Entries.{Came, stopped, took_effect, resulted, came, came_unless}
use Rattle.list_machine.specs.Machine.{Reacts, Writes, Handles, Turn, TurnIn, TurnAt, Ensues, EndsAs, with_entries}

module _ {D : Type 0} (P : State D → Type 0) where
  abbrev pub AllCame : Came D → Type 0
  AllCame (stopped error) = ⊤
  AllCame (took_effect state) = P state
  AllCame (resulted state number result) = P state

  pub limit_all : (past : Bool) (error : ErrorName) (otherwise : Came D) → (past ≡ false → AllCame otherwise) → AllCame (if past then stopped error else otherwise)
  limit_all true error otherwise p = tt
  limit_all false error otherwise p = p refl

  pub unless_all : (stop : Option ErrorName) (state : State D) → (stop ≡ None → P state) → AllCame (came_unless stop state)
  unless_all (Some error) state p = tt
  unless_all None state p = p refl

  module _ {L : Type 0} (reacts : Reacts D) (writes : Writes D L)
      (handled : (state : State D) (entry : ListEntry D) (event : Event) (last : Front D) (how : HandlerEnd) (lines : List L) → P state → Handles reacts writes state.front entry event last how lines → P (record state { front = last }))
      (old new : State D) (lines : List L) (run : (entry : ListEntry D) (entries : List (ListEntry D)) → old.front.waiting ≡ entry ∷ entries → AllCame (came (with_entries old entries) entry)) where
    goes_on : (v : Option (Option ErrorName)) (state : State D) (ls : List L) → P state → EndsAs reacts writes v state Did new ls → P new
    goes_on None state ls p t = subst P (sym t.1) p
    goes_on (Some error) state ls p t = let no : Did ≡ Aborted error = t.0 in cc

    ensued : (entry : ListEntry D) (c : Came D) → AllCame c → Ensues reacts writes old entry c Did new lines → P new
    ensued entry (stopped error) p t = let no : Did ≡ Aborted (Some error) = t.0 in cc
    ensued entry (took_effect state) p t = subst P (sym t.1) p
    ensued entry (resulted state number result) p t = goes_on _ (record state { front = t.last }) t.abort_lines (handled state entry t.event t.last t.how t.event_lines p t.handled) t.ended

    turned_at : (entries : List (ListEntry D)) → old.front.waiting ≡ entries → TurnAt reacts writes old entries Did new lines → P new
    turned_at [] at t = let no : Did ≡ Idle = t.0 in cc
    turned_at (entry ∷ entries) at t = ensued entry _ (run entry entries at) t

    turned_in : (p : Phase) → TurnIn reacts writes p old Did new lines → P new
    turned_in phase.Active t = turned_at old.front.waiting refl t
    turned_in phase.Inactive t = turned_at old.front.waiting refl t
    turned_in phase.Committing t = turned_at old.front.waiting refl t
    turned_in phase.Committed t = turned_at old.front.waiting refl t
    turned_in (phase.Aborted error) t = let no : Did ≡ Aborted error = t.0 in cc

    pub turn_all : Turn reacts writes old Did new lines → P new
    turn_all t = turned_in old.front.phase t
