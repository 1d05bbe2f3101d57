-- A transaction that never starts.
--     cancelled_by          it finishes without starting
--     ends_by               so it does, as its parts tell it
--     attended_left         each of its entries has its handler
--     front_placed          its front became by calls what it is
use Rattle.std.proofs.Common.{◌≡◌, ℕ, List, ◌++◌, map, refl, sym, ◌∙◌, ap, subst}
use Rattle.std.specs.Prelude.{Bool, true, false, not}
use Rattle.idb_calls.specs.declared.traces.Outcome.{Outcome}
use Rattle.idb_calls.specs.declared.traces.Outcome.TheVariants as outcome
use Rattle.request_lists.specs.declared.entries.Phase.{Phase}
use Rattle.request_lists.specs.declared.entries.Phase.TheVariants as phase
use Rattle.request_lists.specs.Fronts.{Front, new_front, entry_map, front_map}
use Rattle.request_lists.specs.Placing.{Becomes, aborted_by, after_rest, after_throw}
use Rattle.request_lists.proofs.Laws.{becomes_plain}
use Rattle.idb_keys.specs.declared.names.Durability.{Durability}
use Rattle.idb_calls.specs.declared.traces.TxTrace.{TxTrace}
use Rattle.session_txs.proofs.Openings.{left_of, left_seen}
use Rattle.list_machine.specs.Machine.{Cancels}
use Rattle.handler_calls.specs.Attending.{IsAttended}
use Rattle.handler_calls.specs.Cancelling.{cancel_error, cancelled, cancelled_trace}
use Rattle.client_parts.specs.Begun.{BegunState, scripted_body}
use Rattle.client_parts.specs.declared.begun.BegunParts.{BegunParts}
use Rattle.client_parts.specs.Holding.{parts_seen}
use Rattle.serial_order.specs.FinishEntries.{ScriptedBody, front_left}
use Rattle.serial_order.specs.SerialRuns.{is_aborted_phase, error_at_end}
use Rattle.script_runs.specs.declared.notes.Note.{Note}
use Rattle.script_handlers.specs.declared.handlers.ScriptHandler.{ScriptHandler}
use Rattle.script_handlers.specs.Handling.{Script, ScriptReacts, ScriptWrites}
use Rattle.script_handlers.specs.Seeing.{script_seen}
use Rattle.session_txs.specs.Running.{EndsUnstarted}

same_error : (p : Phase) → cancel_error p ≡ error_at_end p
same_error phase.Active = refl
same_error phase.Inactive = refl
same_error phase.Committing = refl
same_error phase.Committed = refl
same_error (phase.Aborted error) = refl

module _ (body : ScriptedBody Script) (placed : Becomes (new_front body.mode body.schema body.names) body.front) (front : Front ScriptHandler) (left : front_map script_seen front ≡ front_left body) (before after : List Note) where
  told_of : (last : Front Script) (lines : List Note) (seen : Front Script) → seen ≡ front_left body → Cancels ScriptReacts ScriptWrites seen.waiting (aborted_by (cancel_error seen.phase) seen) last lines
      → Cancels ScriptReacts ScriptWrites (front_left body).waiting (aborted_by (error_at_end (front_left body).phase) (front_left body)) last lines
  told_of last lines seen is t =
      subst (λ e. Cancels ScriptReacts ScriptWrites (front_left body).waiting (aborted_by e (front_left body)) last lines) (same_error (front_left body).phase)
      (subst (λ f. Cancels ScriptReacts ScriptWrites f.waiting (aborted_by (cancel_error f.phase) f) last lines) is t)

  pub cancelled_by : (o : Outcome) → o ≡ outcome.Aborted (cancel_error front.phase) false
      → (last : Front Script) × (lines : List Note) × Cancels ScriptReacts ScriptWrites (map (entry_map script_seen) front.waiting) (front_map script_seen (cancelled front)) last lines × (after ≡ before ++ lines)
      → EndsUnstarted body (not (is_aborted_phase (front_left body).phase)) o before after
  cancelled_by o ends t = record {
    lines = t.1;
    never = record {
      cancelled = record {
        placed = placed;
        last = t.0;
        lines = t.1;
        told = told_of t.0 t.1 (front_map script_seen front) left t.2;
        by_body = refl;
        one_turn = refl;
        ended = ends ∙ ap (λ (f : Front Script). outcome.Aborted (cancel_error f.phase) false) left ∙ ap (λ e. outcome.Aborted e false) (same_error (front_left body).phase);
      };
      nothing = refl;
      no_schema = refl;
    };
    added = t.3;
  }

-- ---- of its parts
pub attended_left : (threw : Bool) (front left : Front ScriptHandler) → left ≡ left_of threw front → IsAttended front → ((f : Front ScriptHandler) → IsAttended f → IsAttended (after_rest f)) → ((f : Front ScriptHandler) → IsAttended f → IsAttended (after_throw f)) → IsAttended left
attended_left threw front left is a rested thrown = subst IsAttended (sym is) (elim threw as (λ t. IsAttended (left_of t front)) [ true ↦ thrown front a | false ↦ rested front a ])

pub front_placed : (begun : BegunState) (p : BegunParts) → begun ≡ parts_seen p → Becomes (new_front p.mode p.schema p.names) p.front → Becomes (new_front begun.body.mode begun.body.schema begun.body.names) begun.body.front
front_placed begun p is b = subst (λ (x : BegunState). Becomes (new_front x.body.mode x.body.schema x.body.names) x.body.front) (sym is) (becomes_plain script_seen (new_front p.mode p.schema p.names) p.front b)

pub ends_by : (begun : BegunState) (p : BegunParts) → begun ≡ parts_seen p → Becomes (new_front p.mode p.schema p.names) p.front → (front : Front ScriptHandler) → front ≡ left_of p.threw p.front
    → (trace : TxTrace) (number : ℕ) (durability : Durability) → trace ≡ cancelled_trace number durability front → (before after : List Note)
    → (last : Front Script) × (lines : List Note) × Cancels ScriptReacts ScriptWrites (map (entry_map script_seen) front.waiting) (front_map script_seen (cancelled front)) last lines × (after ≡ before ++ lines)
    → EndsUnstarted begun.body (not (is_aborted_phase (front_left begun.body).phase)) trace.outcome before after
ends_by begun p is b front left trace number durability traced before after told =
    let body : ScriptedBody Script = scripted_body p.mode p.schema p.names p.front p.threw in
    let seen : front_map script_seen front ≡ front_left body = ap (front_map script_seen) left ∙ left_seen script_seen p.threw p.front in
    subst (λ (x : BegunState). EndsUnstarted x.body (not (is_aborted_phase (front_left x.body).phase)) trace.outcome before after) (sym is)
    (cancelled_by body (becomes_plain script_seen (new_front p.mode p.schema p.names) p.front b) front seen before after trace.outcome (ap (λ (t : TxTrace). t.outcome) traced) told)
