-- A transaction starts, runs turn by turn, and comes to its end.
--     keeps_still, keeps_again      steps of a client that leave what runs as it is
--     runs_still, runs_again, runs_idle, runs_kept, turn_did, turns_more    turns, with the client's tasks between them
--     whether_so, whether_not       the one that is so
--     start_goes, turn_goes what each step of the office leads to
--     start_holds, start_dropped    what its client holds then, and where it didn't start
--     closes_so             it came to its end
--     commit_is, loggable_so        whether it is a commit, and can be logged
--     tx_moved, served_moved        less is left to do
use Rattle.std.proofs.Common.{◌≡◌, ◌<◌, ◌≤◌, ℕ, ◌+◌, ◌-◌, Bool, true, false, not, ◌&&◌, List, [], ◌∷◌, ◌++◌, drop, length, if◌then◌else◌, Option, Some, None, IfSome, IfNone, inr, refl, sym, ◌∙◌, ap, subst, arith}
use Rattle.idb_base.specs.Lists.{IsWithinLimit}
use Rattle.idb_keys.specs.declared.names.Durability.{Durability}
use Rattle.idb_keys.specs.declared.names.Mode.{Mode}
use Rattle.idb_keys.specs.declared.names.Mode.TheVariants as mode
use Rattle.idb_schema.specs.Schemas.{SchemaData}
use Rattle.idb_calls.specs.Deltas.{DeltaTree}
use Rattle.idb_calls.specs.declared.traces.Outcome.{Outcome}
use Rattle.idb_calls.specs.declared.traces.Outcome.TheVariants.{Committed, Aborted}
use Rattle.idb_calls.specs.declared.traces.TxTrace.{TxTrace}
use Rattle.idb_desk.specs.Durabilities.{durability_drawn}
use Rattle.idb_desk.specs.Steps.{desk_run, IsDeskRun}
use Rattle.item_changes.specs.Items.{Database, Items}
use Rattle.item_changes.specs.Scopes.{part_of}
use Rattle.loggable_changes.specs.Logging.{AreLoggable}
use Rattle.tx_book.specs.Entries.{has_committed, only_reads, CanBeLogged}
use Rattle.session_books.specs.Entering.{is_commit}
use Rattle.request_lists.specs.Fronts.{is_read_only_mode}
use Rattle.serial_order.specs.FinishEntries.{ScriptedBody, TxBody, Scripted, did_commit}
use Rattle.serial_order.specs.SerialRuns.{RunsOn}
use Rattle.serial_order.specs.NumberOrder.{FitsWhole}
use Rattle.script_runs.specs.declared.notes.Note.{Note}
use Rattle.script_handlers.specs.Handling.{Script, ScriptReacts, ScriptWrites}
use Rattle.client_ties.specs.Unfinished.{least_of}
use Rattle.client_parts.specs.declared.begun.BegunBody.{BegunBody}
use Rattle.client_parts.specs.Holding.{body_seen}
use Rattle.office_scenes.specs.Steps.{Whether, can_start, StartsInto, TurnInto}
use Rattle.legal_sessions.specs.Legal.{is_in_doubt, may_write}
use Rattle.session_databases.specs.Parts.{without_part}
use Rattle.session_states.specs.Telling.{RunningTx}
use Rattle.office_scenes.specs.Offices.{OfficeState}
use Rattle.session_txs.specs.Running.{SessionTxState, PartState, begun_tx, scope_of_scripted, part_left, with_one_turn, ended_tx, RanSo, DoubtedRun}
use Rattle.office_scenes.specs.Measures.{beyond_memory, room_left}
use Rattle.office_scenes.specs.Scenes.{DoneNow, scene_of, LeadsTo, KeepsOn}
use Rattle.office_scenes.specs.Running.{begun_run, one_turn_more, run_seen, outcome_in_doubt, TurnLeads, IsClosed, ClosesAtEnd, RunsOnInto, HasSureEnd, FinishedWith, HoldsBegun, IsDue, IsDropped}
use Rattle.office_scenes.proofs.Laws.{StartLaw, TurnLaw, HeldStartedLaw, not_begun, holds_started}
use Rattle.office_moves.proofs.Leading.{leads_still, leads_again, start_leads, turn_leads}

-- ---- the client's steps
pub keeps_still : (old new : OfficeState) (before after : List Note) → new ≡ old → after ≡ before → KeepsOn old before new after
keeps_still old new before after same notes =
    subst (λ (o : OfficeState). KeepsOn old before o after) (sym same) (subst (λ (ns : List Note). KeepsOn old before old ns) (sym notes) (record { goes = λ running done items. leads_still (scene_of old before done items) running }))

pub keeps_again : (old mid new : OfficeState) (before between after : List Note) → KeepsOn old before mid between → KeepsOn mid between new after → KeepsOn old before new after
keeps_again old mid new before between after k l = record {
  goes = λ running done items. leads_again running running running (scene_of old before done items) (scene_of mid between done items) (scene_of new after done items) (k.goes running done items) (l.goes running done items);
}

-- ---- turns
pub runs_still : (old : OfficeState) (before : List Note) (tx : SessionTxState) → RunsOnInto old before tx old before tx
runs_still old before tx = record { number = refl; body = refl; part = refl; goes = λ done items. leads_still (scene_of old before done items) (Some (run_seen tx)) }

pub runs_again : (old mid new : OfficeState) (before between after : List Note) (tx next last : SessionTxState) → RunsOnInto old before tx mid between next → RunsOnInto mid between next new after last → RunsOnInto old before tx new after last
runs_again old mid new before between after tx next last a b = record {
  number = b.number ∙ a.number;
  body = b.body ∙ a.body;
  part = b.part ∙ a.part;
  goes = λ done items. leads_again (Some (run_seen tx)) (Some (run_seen next)) (Some (run_seen last)) (scene_of old before done items) (scene_of mid between done items) (scene_of new after done items) (a.goes done items) (b.goes done items);
}

-- the client runs its tasks
pub runs_kept : (old new : OfficeState) (before after : List Note) (tx : SessionTxState) → KeepsOn old before new after → RunsOnInto old before tx new after tx
runs_kept old new before after tx k = record { number = refl; body = refl; part = refl; goes = λ done items. k.goes (Some (run_seen tx)) done items }

-- no entry was left
pub runs_idle : (old new : OfficeState) (before after last_notes : List Note) (tx last : SessionTxState) (outcome : Outcome) → KeepsOn old before new after → last ≡ ended_tx outcome tx → last_notes ≡ after → RunsOnInto old before tx new last_notes last
runs_idle old new before after last_notes tx last outcome k is notes =
    subst (λ (t : SessionTxState). RunsOnInto old before tx new last_notes t) (sym is)
    (subst (λ (ns : List Note). RunsOnInto old before tx new ns (ended_tx outcome tx)) (sym notes) (record { number = refl; body = refl; part = refl; goes = λ done items. k.goes (Some (run_seen tx)) done items }))

drop_behind : {X : Type 0} (xs ys : List X) → drop (length xs) (xs ++ ys) ≡ ys
drop_behind [] ys = refl
drop_behind (x ∷ xs) ys = drop_behind xs ys

-- what stands behind these notes
pub lines_behind : (from : ℕ) (before after lines : List Note) → from ≡ length before → after ≡ before ++ lines → drop from after ≡ lines
lines_behind from before after lines at added = ap (λ n. drop n after) at ∙ ap (drop (length before)) added ∙ drop_behind before lines

-- a turn was run, after which it has this end
pub turn_did : (number from : ℕ) (old mid new : OfficeState) (before between after lines : List Note) (tx last : SessionTxState) (end : Option Outcome) → tx.number ≡ number → from ≡ length between → KeepsOn old before mid between
    → last ≡ record (with_one_turn lines tx) { end = end } → after ≡ between ++ lines → TurnLeads number mid (drop from after) new → RunsOnInto old before tx new after last
turn_did number from old mid new before between after lines tx last end number_is from_is k is notes turn =
    let goes : TurnLeads number mid lines new = subst (λ (ls : List Note). TurnLeads number mid ls new) (lines_behind from between after lines from_is notes) turn in
    subst (λ (t : SessionTxState). RunsOnInto old before tx new after t) (sym is)
    (subst (λ (ns : List Note). RunsOnInto old before tx new ns (record (with_one_turn lines tx) { end = end })) (sym notes)
    (record {
      number = refl;
      body = refl;
      part = refl;
      goes = λ done items. leads_again (Some (run_seen tx)) (Some (run_seen tx)) (Some (one_turn_more (run_seen tx) lines)) (scene_of old before done items) (scene_of mid between done items) (scene_of new (between ++ lines) done items)
          (k.goes (Some (run_seen tx)) done items) (goes.goes (run_seen tx) between done items number_is);
    }))

pub turns_more : (old new : SessionTxState) (lines : List Note) → new ≡ with_one_turn lines old → length new.turns ≡ length old.turns + 1
turns_more old new lines is = ap (λ (t : SessionTxState). length t.turns) is ∙ one_more old.turns lines
  where
    one_more : (ts : List (List Note)) (t : List Note) → length (ts ++ t ∷ []) ≡ length ts + 1
    one_more [] t = refl
    one_more (u ∷ ts) t = let k = one_more ts t in omega (arith, k)

-- ---- what each step of the office leads to
pub whether_so : (b : Bool) (A B : Type 0) → b ≡ true → Whether b A B → A
whether_so true A B e h = h
whether_so false A B e h = absurd cc

pub whether_not : (b : Bool) (A B : Type 0) → b ≡ false → Whether b A B → B
whether_not true A B e h = absurd cc
whether_not false A B e h = h

pub turn_goes : TurnLaw → (number : ℕ) (old new : OfficeState) (lines : List Note) → TurnInto number old lines new → IsDeskRun new.run → TurnLeads number old lines new
turn_goes law number old new lines h run = record {
  goes = λ t before done items is. turn_leads law t old new before lines done items (subst (λ n. TurnInto n old lines new) (sym is) h) run;
}

pub start_goes : StartLaw → (number : ℕ) (old new : OfficeState) (body : Option BegunBody) → IfSome body (λ b. StartsInto number old (body_seen b) new) → IsDeskRun new.run → least_of (desk_run old.run) ≡ Some number
    → (notes : List Note) (done : DoneNow) (items : Items) → IfSome body (λ b. LeadsTo None (Some (begun_run number (body_seen b))) (scene_of old notes done items) (scene_of new notes done items))
start_goes law number old new None h run least notes done items = tt
start_goes law number old new (Some b) h run least notes done items = start_leads law number old new notes (body_seen b) done items h run least

pub start_holds : HeldStartedLaw → (number : ℕ) (old new : OfficeState) (body : Option BegunBody) → IfSome body (λ b. StartsInto number old (body_seen b) new) → IfSome body (λ b. HoldsBegun new number (body_seen b))
start_holds law number old new None h = tt
start_holds law number old new (Some b) h = holds_started law number old new (body_seen b) h

pub start_dropped : (number : ℕ) (old : OfficeState) (body : Option BegunBody) → IsDue old.run old.client number → (desk_run old.run).board.is_faulted ≡ false → IfNone body (can_start old number ≡ false) → IfNone body (IsDropped old number)
start_dropped number old None due calm h = record { due = due; why = inr (not_begun old number due calm h) }
start_dropped number old (Some b) due calm h = tt

-- ---- its end
pub commit_is : (trace : TxTrace) (outcome : Outcome) (body : TxBody Script) (m : Mode) → trace.outcome ≡ outcome → trace.mode ≡ m → may_write body ≡ not (is_read_only_mode m) → is_commit trace ≡ (did_commit outcome && may_write body)
commit_is trace outcome body m outcome_is mode_is writes =
    ap (λ o. has_committed o && not (only_reads trace.mode)) outcome_is ∙ ap (λ n. has_committed outcome && not (only_reads n)) mode_is ∙ same outcome m ∙ ap (λ w. did_commit outcome && w) (sym writes)
  where
    same : (o : Outcome) (n : Mode) → (has_committed o && not (only_reads n)) ≡ (did_commit o && not (is_read_only_mode n))
    same Committed mode.ReadOnly = refl
    same Committed mode.ReadWrite = refl
    same Committed mode.VersionChange = refl
    same (Aborted error doubt) n = refl

did_so : (o : Outcome) → did_commit o ≡ true → o ≡ Committed
did_so Committed e = refl
did_so (Aborted error doubt) e = cc

some_outcome : (a b : Outcome) → Some a ≡ Some b → a ≡ b
some_outcome a b e = cc

-- an aborted one tells no changes
changes_told : (part : Option Database) (body : ScriptedBody Script) (turns : List (List Note)) (changes : List DeltaTree) (kept : Option SchemaData) (o : Outcome) → is_in_doubt o ≡ false
    → RunsOn ScriptReacts ScriptWrites part (Scripted body) turns changes kept false o → changes ≡ (if did_commit o then changes else [])
changes_told part body turns changes kept Committed sure ran = refl
changes_told part body turns changes kept (Aborted error true) sure ran = cc
changes_told part body turns changes kept (Aborted error false) sure ran = ran.runs.1.nothing

pub closes_so : (number : ℕ) (body : ScriptedBody Script) (old mid : OfficeState) (before between : List Note) (tx last : SessionTxState) (items rest : Items) (trace told : TxTrace) (kept : Option SchemaData) (left : PartState)
    → tx ≡ begun_tx number body items → rest ≡ without_part (scope_of_scripted body) items → RunsOnInto old before tx mid between last → HasSureEnd last → last.end ≡ Some trace.outcome
    → RanSo last trace.deltas kept trace.outcome → (trace.outcome ≡ Committed → DoubtedRun last trace.deltas) → left ≡ part_left last trace.deltas → trace.number ≡ last.number → trace.mode ≡ last.body.mode
    → FitsWhole (part_of (scope_of_scripted body) items) body → told ≡ record trace { durability = durability_drawn mid.run.order trace.number }
    → ClosesAtEnd number body old before items mid between rest told kept left
closes_so number body old mid before between tx last items rest trace told kept left begins lacks runs sure ended ran doubts left_is numbered moded fits told_is =
    let number_is : last.number ≡ number = runs.number ∙ ap (λ (t : SessionTxState). t.number) begins in
    let body_is : last.body ≡ body = runs.body ∙ ap (λ (t : SessionTxState). t.body) begins in
    let part_is : last.part ≡ part_of (scope_of_scripted last.body) items = runs.part ∙ ap (λ (t : SessionTxState). t.part) begins ∙ ap (λ (b : ScriptedBody Script). part_of (scope_of_scripted b) items) (sym body_is) in
    let first : run_seen tx ≡ begun_run number (Scripted body) = ap run_seen begins in
    let sure_is : is_in_doubt trace.outcome ≡ false = ap is_in_doubt (some_outcome trace.outcome sure.outcome (sym ended ∙ sure.end)) ∙ sure.sure in
    let scope : left.scope ≡ scope_of_scripted last.body = ap (λ (l : PartState). l.scope) left_is in
    let ran_here : RunsOn ScriptReacts ScriptWrites (part_of (scope_of_scripted last.body) items) (Scripted last.body) last.turns trace.deltas kept false trace.outcome =
    subst (λ (p : Option Database). RunsOn ScriptReacts ScriptWrites p (Scripted last.body) last.turns trace.deltas kept false trace.outcome) part_is ran in
    let closed : IsClosed (run_seen last) items mid rest (record trace { durability = durability_drawn mid.run.order trace.number }) kept left = record {
      runs = record {
        number_is = numbered;
        commit = commit_is trace trace.outcome (Scripted last.body) last.body.mode refl moded refl;
        durability = ap (durability_drawn mid.run.order) numbered;
        ran = ran_here;
        in_doubt = λ did. subst (λ (p : Option Database). RunsOn ScriptReacts ScriptWrites p (Scripted last.body) last.turns trace.deltas None false outcome_in_doubt) part_is (doubts (did_so trace.outcome did));
        sure = sure_is;
        fits = subst (λ (b : ScriptedBody Script). FitsWhole (part_of (scope_of_scripted b) items) b) (sym body_is) fits;
      };
      part = ap (λ (l : PartState). l.part) left_is ∙ part_is ∙ ap (λ s. part_of s items) (sym scope);
      changes = ap (λ (l : PartState). l.changes) left_is ∙ changes_told (part_of (scope_of_scripted last.body) items) last.body last.turns trace.deltas kept trace.outcome sure_is ran_here;
      rest_is = lacks ∙ ap (λ (b : ScriptedBody Script). without_part (scope_of_scripted b) items) (sym body_is) ∙ ap (λ s. without_part s items) (sym scope);
    } in
    subst (λ (x : TxTrace). ClosesAtEnd number body old before items mid between rest x kept left) (sym told_is) (record {
      t = run_seen last;
      number_is = number_is;
      goes = λ done. subst (λ (t : RunningTx). LeadsTo (Some t) (Some (run_seen last)) (scene_of old before done items) (scene_of mid between done items)) first (runs.goes done items);
      closed = closed;
    })

-- and can be logged
pub loggable_so : (trace told : TxTrace) (durability : Durability) → told ≡ record trace { durability = durability } → is_commit told ≡ true → (trace.outcome ≡ Committed → AreLoggable trace.deltas × IsWithinLimit trace.deltas) → CanBeLogged told
loggable_so trace told durability is commit can =
    let committed : trace.outcome ≡ Committed = by_outcome trace.outcome refl (ap is_commit (sym is) ∙ commit) in
    let both = can committed in
    subst CanBeLogged (sym is) (record { count = both.1; parts = both.0 })
  where
    by_outcome : (o : Outcome) → trace.outcome ≡ o → is_commit (record trace { durability = durability }) ≡ true → trace.outcome ≡ Committed
    by_outcome Committed e k = e
    by_outcome (Aborted error doubt) e k = let no : is_commit (record trace { durability = durability }) ≡ false = ap (λ x. has_committed x && not (only_reads trace.mode)) e in cc

pub is_finished : (old new : DoneNow) (number : ℕ) → new.finish ≡ old.finish ++ number ∷ [] → length new.finish < beyond_memory → FinishedWith old number new
is_finished old new number is few = record { finish = is; few = few }

-- ---- a move
pub tx_moved : (next left : ℕ) (old new : DoneNow) (number : ℕ) → next ≤ left → FinishedWith old number new → next + room_left new.finish < left + room_left old.finish
tx_moved next left old new number less h = over next left (length old.finish) (length new.finish) less (ap length h.finish ∙ one_more old.finish number) h.few
  where
    one_more : (ns : List ℕ) (n : ℕ) → length (ns ++ n ∷ []) ≡ length ns + 1
    one_more [] n = refl
    one_more (m ∷ ns) n = let k = one_more ns n in omega (arith, k)

    over : (a b m n : ℕ) → a ≤ b → n ≡ m + 1 → n < beyond_memory → a + (beyond_memory - n) < b + (beyond_memory - m)
    over a b m n l e few = omega (arith, l, e, few)

pub served_moved : (next left room : ℕ) → next < left → next + room < left + room
served_moved next left room less = omega (arith, less)
