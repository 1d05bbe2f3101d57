-- What a step makes of a running transaction.
--     lines_behind          the lines that were added
--     goes_further, runs_out, aborts_so     its run so far
--     did_keep, idle_keep, aborted_keep     and what it keeps
--     can_did, can_idle     what can be logged
use Rattle.std.proofs.Common.{◌≡◌, ℕ, List, [], ◌∷◌, ◌++◌, length, drop, Option, Some, None, refl, sym, ◌∙◌, ap, subst}
use Rattle.std.specs.Prelude.{Bool, true, false}
use Rattle.idb_keys.specs.declared.names.ErrorName.{ErrorName}
use Rattle.idb_calls.specs.declared.traces.Outcome.{Outcome}
use Rattle.idb_calls.specs.declared.traces.Outcome.TheVariants.{Committed, Aborted}
use Rattle.item_changes.specs.Items.{Name, Database, stores_in}
use Rattle.idb_databases.specs.Stores.{AreStores}
use Rattle.request_lists.specs.declared.entries.ListEntry.{ListEntry}
use Rattle.request_lists.specs.declared.entries.Phase.{Phase}
use Rattle.request_lists.specs.declared.entries.Phase.TheVariants as phase
use Rattle.list_machine.specs.declared.steps.Step.{Step}
use Rattle.list_machine.specs.declared.steps.Step.TheVariants as step
use Rattle.list_machine.specs.States.{State}
use Rattle.list_machine.specs.Entries.{Came, stopped, took_effect, resulted, came}
use Rattle.list_machine.specs.Machine.{Reacts, Writes, Turn, TurnIn, TurnAt, Ensues, EndsAs, with_entries, verdict}
use Rattle.list_machine.proofs.Laws.{turn_ends}
use Rattle.request_lists.specs.Fronts.{new_front}
use Rattle.request_lists.specs.Placing.{Becomes}
use Rattle.machine_laws.specs.Keeping.{IsState}
use Rattle.machine_laws.specs.Limiting.{WithinLimits}
use Rattle.loggable_changes.specs.Logging.{AreLoggable, AreSoundStores}
use Rattle.serial_order.specs.FinishEntries.{ScriptedBody}
use Rattle.serial_order.specs.SerialRuns.{GoesBy, Further, AbortsItself}
use Rattle.serial_order.specs.NumberOrder.{FitsWhole}
use Rattle.script_runs.specs.declared.notes.Note.{Note}
use Rattle.script_handlers.specs.declared.handlers.ScriptHandler.{ScriptHandler}
use Rattle.script_handlers.specs.Handling.{Script, ScriptReacts, ScriptWrites}
use Rattle.session_txs.specs.Keeping.{begun_state, state_now, GoesSo, HasRunOut, StandsAfter, CanLog, LogsSo, IsRunning}

-- ---- lines
behind : {A : Type 0} (xs ys : List A) → drop (length xs) (xs ++ ys) ≡ ys
behind [] ys = refl
behind (x ∷ xs) ys = behind xs ys

pub lines_behind : {A : Type 0} (before lines after : List A) → after ≡ before ++ lines → drop (length before) after ≡ lines
lines_behind before lines after added = ap (drop (length before)) added ∙ behind before lines

-- ---- where no entry is left nothing is written
module _ {D L : Type 0} (reacts : Reacts D) (writes : Writes D L) where
  ends_idle : {A : Type 0} (v : Option (Option ErrorName)) (state new : State D) (lines : List L) → EndsAs reacts writes v state step.Idle new lines → A
  ends_idle None state new lines t = let no : step.Idle ≡ step.Did = t.0 in cc
  ends_idle (Some error) state new lines t = let no : step.Idle ≡ step.Aborted error = t.0 in cc

  ensues_idle : {A : Type 0} (old : State D) (entry : ListEntry D) (c : Came D) (new : State D) (lines : List L) → Ensues reacts writes old entry c step.Idle new lines → A
  ensues_idle old entry (stopped error) new lines t = let no : step.Idle ≡ step.Aborted (Some error) = t.0 in cc
  ensues_idle old entry (took_effect state) new lines t = let no : step.Idle ≡ step.Did = t.0 in cc
  ensues_idle old entry (resulted state number result) new lines t = ends_idle (verdict t.last.phase t.event t.how) (record state { front = t.last }) new t.abort_lines t.ended

  at_idle : (old : State D) (entries : List (ListEntry D)) (new : State D) (lines : List L) → TurnAt reacts writes old entries step.Idle new lines → (new ≡ old) × (lines ≡ [])
  at_idle old [] new lines t = (t.1, t.2)
  at_idle old (entry ∷ entries) new lines t = ensues_idle old entry (came (with_entries old entries) entry) new lines t

  in_idle : (p : Phase) (old new : State D) (lines : List L) → TurnIn reacts writes p old step.Idle new lines → (new ≡ old) × (lines ≡ [])
  in_idle phase.Active old new lines t = at_idle old old.front.waiting new lines t
  in_idle phase.Inactive old new lines t = at_idle old old.front.waiting new lines t
  in_idle phase.Committing old new lines t = at_idle old old.front.waiting new lines t
  in_idle phase.Committed old new lines t = at_idle old old.front.waiting new lines t
  in_idle (phase.Aborted error) old new lines t = let no : step.Idle ≡ step.Aborted error = t.0 in cc

  pub idle_same : (old new : State D) (lines : List L) → Turn reacts writes old step.Idle new lines → (new ≡ old) × (lines ≡ [])
  idle_same old new lines t = in_idle old.front.phase old new lines t

-- ---- the run so far
module _ (body : ScriptedBody Script) (old new : State ScriptHandler) (same : new.before ≡ old.before) (turns : List (List Note)) (goes : GoesSo body old turns) where
  pub goes_further : (lines : List Note) (after : List (List Note)) → Turn ScriptReacts ScriptWrites (state_now old) step.Did (state_now new) lines → after ≡ turns ++ lines ∷ [] → GoesSo body new after
  goes_further lines after t more = subst (GoesSo body new) (sym more)
      (subst (λ p. GoesBy ScriptReacts ScriptWrites (begun_state body p) (state_now new) (turns ++ lines ∷ [])) (sym same) (Further (state_now old) (state_now new) turns lines goes t))

  pub runs_out : (lines : List Note) → Turn ScriptReacts ScriptWrites (state_now old) step.Idle (state_now new) lines → HasRunOut body new turns
  runs_out lines t =
      let is = idle_same ScriptReacts ScriptWrites (state_now old) (state_now new) lines t in
      record {
        goes = subst (λ p. GoesBy ScriptReacts ScriptWrites (begun_state body p) (state_now new) turns) (sym same) (subst (λ s. GoesBy ScriptReacts ScriptWrites (begun_state body old.before) s turns) (sym is.0) goes);
        idle = subst (λ ls. Turn ScriptReacts ScriptWrites (state_now new) step.Idle (state_now new) ls) is.1 (subst (λ s. Turn ScriptReacts ScriptWrites s step.Idle (state_now new) lines) (sym is.0) t);
      }

  pub aborts_so : (error : Option ErrorName) (lines : List Note) (after : List (List Note)) → Turn ScriptReacts ScriptWrites (state_now old) (step.Aborted error) (state_now new) lines → after ≡ turns ++ lines ∷ []
      → AbortsItself ScriptReacts ScriptWrites (begun_state body new.before) error after [] × (new.database ≡ new.before)
  aborts_so error lines after t more = (
    record {
      mid = state_now old;
      new = state_now new;
      earlier = turns;
      lines = lines;
      goes = subst (λ p. GoesBy ScriptReacts ScriptWrites (begun_state body p) (state_now old) turns) (sym same) goes;
      ends = t;
      all_turns = more;
      nothing = refl;
    },
    (turn_ends ScriptReacts ScriptWrites (state_now old) (step.Aborted error) (state_now new) lines t).1.database ∙ sym same,
  )

-- ---- what can be logged
abbrev LogTurn : Type 0
LogTurn = (old new : State Script) (s : Step) (lines : List Note) → Turn ScriptReacts ScriptWrites old s new lines → IsState old → AreSoundStores old.database → AreSoundStores new.database → AreLoggable old.changes → AreLoggable new.changes

abbrev LimitTurn : Type 0
LimitTurn = (old new : State Script) (lines : List Note) → Turn ScriptReacts ScriptWrites old step.Did new lines → WithinLimits old → WithinLimits new

abbrev RunStates : Type 0
RunStates = (body : ScriptedBody Script) (part : Option Database) (new : State Script) (turns : List (List Note)) → Becomes (new_front body.mode body.schema body.names) body.front → FitsWhole part body → GoesBy ScriptReacts ScriptWrites (begun_state body part) new turns → IsState new

within_seen : (state : State ScriptHandler) → WithinLimits state → WithinLimits (state_now state)
within_seen state w = record { requests = w.requests; bytes = w.bytes; changes = w.changes; stores = w.stores }

within_here : (state : State ScriptHandler) → WithinLimits (state_now state) → WithinLimits state
within_here state w = record { requests = w.requests; bytes = w.bytes; changes = w.changes; stores = w.stores }

sound_of : (there : Option Database) → AreStores (stores_in there) → AreSoundStores there
sound_of there sound name x at = (sound name x at).1

logs_now : (state : State ScriptHandler) (stuck : Bool) (end : Option Outcome) → LogsSo state stuck end → end ≡ None → stuck ≡ false → CanLog state
logs_now state stuck end logs none free = subst (λ o. LogsSo state stuck o) none logs free

-- ---- what it keeps
goes_now : (body : ScriptedBody Script) (state : State ScriptHandler) (turns : List (List Note)) (stuck : Bool) (end : Option Outcome) → StandsAfter body state turns stuck end → end ≡ None → stuck ≡ false → GoesSo body state turns
goes_now body state turns stuck end came none free = subst (λ o. StandsAfter body state turns stuck o) none came free

-- a turn of this step, with the notes before and after it
abbrev Told : Step → State ScriptHandler → State ScriptHandler → List Note → List Note → Type 0
Told s old new before after = (lines : List Note) × Turn ScriptReacts ScriptWrites (state_now old) s (state_now new) lines × (after ≡ before ++ lines)

module _ (body : ScriptedBody Script) (name : Name) (old new : State ScriptHandler) (turns : List (List Note)) (stuck : Bool) (end : Option Outcome)
    (is : IsRunning body name old turns stuck end) (none : end ≡ None) (free : stuck ≡ false) (same : new.before ≡ old.before) where
  keeps : (last : List (List Note)) (is_stuck : Bool) (o : Option Outcome) → StandsAfter body new last is_stuck o → LogsSo new is_stuck o → IsRunning body name new last is_stuck o
  keeps last is_stuck o came logs = record {
    placed = is.placed;
    fits = subst (λ p. FitsWhole p body) (sym same) is.fits;
    name_is = is.name_is;
    came = came;
    logs = logs;
  }

  its_goes : GoesSo body old turns
  its_goes = goes_now body old turns stuck end is.came none free

  one_turn : (step_done : Step) (notes notes_after noted : List Note) (last : List (List Note)) → (t : Told step_done old new notes notes_after) → noted ≡ notes → last ≡ turns ++ drop (length noted) notes_after ∷ [] → last ≡ turns ++ t.0 ∷ []
  one_turn step_done notes notes_after noted last t begun seen =
      seen ∙ ap (λ ls. turns ++ ls ∷ []) (ap (λ ns. drop (length ns) notes_after) begun ∙ lines_behind notes t.0 notes_after t.2)

  pub did_keep : (notes notes_after noted : List Note) (last : List (List Note)) → Told step.Did old new notes notes_after → noted ≡ notes → last ≡ turns ++ drop (length noted) notes_after ∷ [] → CanLog new
      → IsRunning body name new last false end
  did_keep notes notes_after noted last t begun seen can = subst (λ o. IsRunning body name new last false o) (sym none)
      (keeps last false None (λ _. goes_further body old new same turns its_goes t.0 last t.1 (one_turn step.Did notes notes_after noted last t begun seen)) (λ _. can))

  pub idle_keep : (notes notes_after : List Note) → Told step.Idle old new notes notes_after → CanLog new → IsRunning body name new turns true (Some Committed)
  idle_keep notes notes_after t can = keeps turns true (Some Committed) (runs_out body old new same turns its_goes t.0 t.1) can

  pub aborted_keep : (error : Option ErrorName) (notes notes_after noted : List Note) (last : List (List Note)) → Told (step.Aborted error) old new notes notes_after → noted ≡ notes → last ≡ turns ++ drop (length noted) notes_after ∷ []
      → IsRunning body name new last true (Some (Aborted error false))
  aborted_keep error notes notes_after noted last t begun seen = keeps last true (Some (Aborted error false))
      (aborts_so body old new same turns its_goes error t.0 last t.1 (one_turn (step.Aborted error) notes notes_after noted last t begun seen)) tt

  -- ---- and what can be logged
  module _ (logs : LogTurn) (states : RunStates) (sound_old : AreStores (stores_in old.database)) (sound_new : AreStores (stores_in new.database)) where
    can_now : CanLog old
    can_now = logs_now old stuck end is.logs none free

    logged : (s : Step) (notes notes_after : List Note) → Told s old new notes notes_after → AreLoggable new.changes
    logged s notes notes_after t = logs (state_now old) (state_now new) s t.0 t.1 (states body old.before (state_now old) turns is.placed is.fits its_goes) (sound_of old.database sound_old) (sound_of new.database sound_new) can_now.loggable

    pub can_did : LimitTurn → (notes notes_after : List Note) → Told step.Did old new notes notes_after → CanLog new
    can_did limits notes notes_after t = record {
      loggable = logged step.Did notes notes_after t;
      within = within_here new (limits (state_now old) (state_now new) t.0 t.1 (within_seen old can_now.within));
    }

    pub can_idle : (notes notes_after : List Note) → Told step.Idle old new notes notes_after → CanLog new
    can_idle notes notes_after t = record {
      loggable = logged step.Idle notes notes_after t;
      within = within_here new (subst (λ (x : State Script). WithinLimits x) (sym (idle_same ScriptReacts ScriptWrites (state_now old) (state_now new) t.0 t.1).0) (within_seen old can_now.within));
    }
