-- A transaction finishes without starting.
--     body_held, held_there its parts tell its body
--     never_taken           it can be taken out
--     deletion_ends         it is told so
--     dropped_goes          what its finish leads to
--     never_committed, drop_allowed it doesn't commit, and the desk lets it finish
--     noted_leads           as the book has it then
use Rattle.std.proofs.Common.{◌≡◌, ◌⊎◌, ℕ, Bool, true, false, not, List, [], ◌∷◌, ◌++◌, drop, length, if◌then◌else◌, Option, Some, None, is_some, IfSome, inl, inr, refl, sym, ◌∙◌, ap, subst}
use Rattle.idb_calls.specs.declared.traces.Outcome.{Outcome}
use Rattle.idb_calls.specs.declared.traces.TxTrace.{TxTrace}
use Rattle.idb_desk.specs.Refusals.{is_committed}
use Rattle.idb_desk.specs.Steps.{desk_run, IsDeskRun}
use Rattle.item_changes.specs.Items.{Name, Items}
use Rattle.tx_book.specs.Entries.{has_committed}
use Rattle.request_lists.specs.Fronts.{new_front}
use Rattle.request_lists.specs.Placing.{Becomes}
use Rattle.serial_order.specs.FinishEntries.{ScriptedBody, TxBody, Scripted, Deletion, front_left}
use Rattle.serial_order.specs.SerialRuns.{joined_lines, NeverStarts, is_aborted_phase}
use Rattle.script_runs.specs.declared.notes.Note.{Note}
use Rattle.script_handlers.specs.Handling.{Script, ScriptReacts, ScriptWrites}
use Rattle.client_machine.specs.ClientStates.{ClientTx, tx_at}
use Rattle.client_machine.specs.ClientSteps.{may_begin}
use Rattle.office_scenes.specs.Steps.{FinishesUnstartedInto}
use Rattle.office_scenes.specs.Offices.{OfficeState}
use Rattle.session_txs.specs.Running.{EndsUnstarted, IsDroppedDeletion}
use Rattle.office_scenes.specs.Scenes.{DoneNow, scene_of, LeadsTo, with_number}
use Rattle.office_scenes.specs.Running.{IsDropped, EndsBody, DropLeads}
use Rattle.office_scenes.proofs.Laws.{CancelLaw, HostLaw}
use Rattle.office_moves.proofs.Leading.{DurableLaw, drop_leads}
use Rattle.office_moves.proofs.Turning.{lines_behind}

-- ---- its body
pub body_held : (started : Bool) (body : TxBody Script) (begun : Option (TxBody Script)) → started ≡ false → begun ≡ (if started then None else Some body) → begun ≡ Some body
body_held true body begun waits e = absurd cc
body_held false body begun waits e = e

pub some_body : (body : TxBody Script) (begun : Option (TxBody Script)) → begun ≡ Some body → is_some begun ≡ true
some_body body begun e = ap is_some e

-- ---- told so
no_more : (xs : List Note) → xs ++ [] ≡ xs
no_more [] = refl
no_more (x ∷ xs) = ap (λ ys. x ∷ ys) (no_more xs)

pub deletion_ends : (number : ℕ) (name : Name) (trace : TxTrace) (notes : List Note) → IsDroppedDeletion number trace → EndsBody (Deletion name) trace.outcome notes notes
deletion_ends number name trace notes is = record {
  turns = [];
  by_host = true;
  never = record { cancelled = (refl, refl, is.outcome); nothing = refl; no_schema = refl };
  added = sym (no_more notes);
}

-- of the body that it held
pub ends_held : (body : TxBody Script) (begun : Option (TxBody Script)) (outcome : Outcome) (before after : List Note) → begun ≡ Some body → IfSome begun (λ b. EndsBody b outcome before after) → EndsBody body outcome before after
ends_held body begun outcome before after held e = subst (λ o. IfSome o (λ b. EndsBody b outcome before after)) held e

-- ---- it doesn't commit
pub never_committed : (body : TxBody Script) (outcome : Outcome) (before after : List Note) → EndsBody body outcome before after → is_committed outcome ≡ false
never_committed (Scripted body) outcome before after e = ap is_committed e.never.cancelled.ended
never_committed (Deletion name) outcome before after e = ap is_committed e.never.cancelled.2

-- ---- what its finish leads to
abbrev pub NotBegunLaw : Type 0
NotBegunLaw = (body : ScriptedBody Script) → Becomes (new_front body.mode body.schema body.names) body.front → may_begin (Scripted body) ≡ false → is_aborted_phase (front_left body).phase ≡ true

some_tx : (x y : ClientTx) → Some x ≡ Some y → x ≡ y
some_tx x y e = cc

-- the host ends it only where it is faulted
by_fault : NotBegunLaw → (faulted : Bool) (body : TxBody Script) (turns : List (List Note)) (by_host : Bool) (outcome : Outcome) → (faulted ≡ true) ⊎ (may_begin body ≡ false)
    → NeverStarts ScriptReacts ScriptWrites body turns [] None by_host outcome → by_host ≡ true → faulted ≡ true
by_fault law faulted body turns by_host outcome (inl is) never host = is
by_fault law faulted (Scripted body) turns by_host outcome (inr out) never host =
    let aborted = law body never.cancelled.placed out in
    let own : by_host ≡ false = never.cancelled.by_body ∙ ap not aborted in
    cc
by_fault law faulted (Deletion name) turns by_host outcome (inr out) never host = cc

pub dropped_goes : CancelLaw → HostLaw → DurableLaw → NotBegunLaw → (number : ℕ) (outcome : Outcome) (tx : ClientTx) (old new : OfficeState) (before told after : List Note)
    → (d : IsDropped old number) → tx_at old.client number ≡ Some tx → (e : EndsBody tx.body outcome before told) → FinishesUnstartedInto number e.turns outcome old before new after → IsDeskRun new.run → DropLeads number old before new after
dropped_goes cancel host durable law number outcome tx old new before told after d found e f run =
    let same : d.due.tx ≡ tx = some_tx d.due.tx tx (sym d.due.found ∙ found) in
    let why : ((desk_run old.run).board.is_faulted ≡ true) ⊎ (may_begin tx.body ≡ false) = subst (λ (x : ClientTx). ((desk_run old.run).board.is_faulted ≡ true) ⊎ (may_begin x.body ≡ false)) same d.why in
    record {
      goes = λ done items. drop_leads cancel host durable number e.turns e.by_host outcome tx old new before after done items f run d.due.least found
          (by_fault law (desk_run old.run).board.is_faulted tx.body e.turns e.by_host outcome why e.never) e.never;
    }

-- the lines of its turns are the last of the notes
pub turns_behind : (from : ℕ) (before after : List Note) (turns : List (List Note)) → from ≡ length before → after ≡ before ++ joined_lines turns → joined_lines turns ≡ drop from after
turns_behind from before after turns at added = sym (lines_behind from before after (joined_lines turns) at added)

-- as the book has it
pub noted_leads : (number told : ℕ) (old new : OfficeState) (before after : List Note) (done last : DoneNow) (items : Items) → DropLeads number old before new after → told ≡ number → last ≡ with_number told done
    → LeadsTo None None (scene_of old before done items) (scene_of new after last items)
noted_leads number told old new before after done last items d is last_is =
    subst (λ (l : DoneNow). LeadsTo None None (scene_of old before done items) (scene_of new after l items)) (sym (last_is ∙ ap (λ n. with_number n done) is)) (d.goes done items)
