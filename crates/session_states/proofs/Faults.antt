-- Faults of the host.
--     desk_faults           the desk is faulted exactly where a step of the order is a fault
--     start_calm, running_calm      where a transaction starts, or runs, there is none
--     faults_still          what is told of faults, while acts are made
--     faults_left, faults_doubted   where a transaction finished;  in doubt
--     durable_faulted, in_step_faulted      the host is faulted
--     doubted_faulted       it is so exactly where a transaction is in doubt
use Rattle.std.proofs.Common.{◌≡◌, ℕ, ◌+◌, ◌≤◌, Bool, true, false, not, ◌&&◌, ◌||◌, List, [], ◌∷◌, ◌++◌, map, length, filter, if◌then◌else◌, Option, Some, None, inl, inr, refl, sym, ◌∙◌, ap, subst}
use Rattle.std.specs.Bool.{MatchBool}
use Rattle.std.specs.List.{list_any, AllByRecursion}
use Rattle.std.proofs.lemmas.Bool.{cases_Bool}
use Rattle.std.proofs.lemmas.List.{append-nil}
use Rattle.std.proofs.lemmas.List.Elements.{filter-append}
use Rattle.idb_keys.specs.declared.names.Durability.TheVariants.{Strict, Relaxed}
use Rattle.idb_keys.specs.declared.names.Mode.{Mode}
use Rattle.idb_schema.specs.Schemas.{SchemaData}
use Rattle.name_queues.specs.declared.events.ClientEvent.{ClientEvent}
use Rattle.name_queues.specs.declared.events.ClientEvent.TheVariants as event
use Rattle.name_queues.specs.declared.ids.ConnId.{ConnId}
use Rattle.connection_queues.specs.Machine.{schema_of}
use Rattle.scope_desk.specs.Starts.{may_start}
use Rattle.desk_steps.specs.declared.stands.DrawnTx.{DrawnTx}
use Rattle.desk_steps.specs.declared.stands.TxKind.{TxKind}
use Rattle.desk_steps.specs.declared.stands.TxKind.TheVariants as kind
use Rattle.desk_steps.specs.declared.steps.DeskStep.{DeskStep}
use Rattle.desk_steps.specs.declared.steps.DeskStep.TheVariants as step
use Rattle.idb_desk.specs.Desks.{DeskState, DeskBoard, name_asked_by, drawn_at}
use Rattle.idb_desk.specs.Durabilities.{creates_relaxed, durability_drawn}
use Rattle.idb_desk.specs.Refusals.{is_to_start, is_committed, is_go, has_some}
use Rattle.idb_desk.specs.Steps.{after, after_all, after_take, after_created, after_left, drawn_whole, event_for, new_desk, DeskRun, desk_run, with_step, IsDeskRun}
use Rattle.item_changes.specs.Items.{Items}
use Rattle.record_bytes.specs.declared.records.LogRecord.{LogRecord}
use Rattle.log_history.specs.Batching.{is_strict}
use Rattle.client_ties.specs.FinishEntries.{FinishEntry, did_commit}
use Rattle.script_statements.specs.declared.script.ScriptSession.{ScriptSession}
use Rattle.script_runs.specs.declared.notes.Note.{Note}
use Rattle.script_handlers.specs.Handling.{Script}
use Rattle.client_ties.specs.Acts.{Told, Act, Makes}
use Rattle.client_ties.specs.Answering.{told_by, told_steps, is_own, own_told, Agrees, MadeAtOnce}
use Rattle.client_ties.proofs.Laws.{all_still, run_before, run_after}
use Rattle.client_ties.specs.Unfinished.{unfinished_of, AreDrawn}
use Rattle.legal_sessions.specs.Legal.{is_fault, is_in_doubt, may_write, DoubtsFit, record_of_entry, commits_at, records_logged, records_in_doubt}
use Rattle.session_states.specs.Sessions.{SessionNow, with_fault}
use Rattle.session_states.specs.Telling.{told_of, acts_at, BegunAt, shown_begun, RunningTx}
use Rattle.session_states.specs.UnderWay.{IsWaiting, HasBegun, AreFinishedAs, IsInStep, is_doubted, HasFaults, IsUnderWay}
use Rattle.session_states.proofs.Told.{any_both, theirs_with, told_off}
use Rattle.session_states.proofs.Placed.{all_stay}
use Rattle.session_states.proofs.FinishOrder.{order_still, fits_longer}

abbrev Entry : Type 0
Entry = FinishEntry Script Note

no : true ≡ false → ⊥
no k = cc

-- ---- the desk
whole_calm : (b : DeskBoard) (who : ConnId) (k : TxKind) (name : Option (List ℕ)) → (drawn_whole b who k name).is_faulted ≡ b.is_faulted
whole_calm b who k None = refl
whole_calm b who k (Some name) = refl

take_calm : (d : DeskState) (client : ℕ) (o : Option ClientEvent) → (after_take d client o).board.is_faulted ≡ d.board.is_faulted
take_calm d client None = refl
take_calm d client (Some (event.Upgrade who old new)) = whole_calm d.board who (kind.Upgrade new) (name_asked_by d.board.clients who)
take_calm d client (Some (event.Blocked who old new)) = refl
take_calm d client (Some (event.Success who version)) = refl
take_calm d client (Some (event.Error who name)) = refl
take_calm d client (Some (event.VersionChange who old new)) = refl
take_calm d client (Some (event.Closed who)) = refl
take_calm d client (Some (event.DeleteReady who old)) = whole_calm d.board who kind.Deletion (name_asked_by d.board.clients who)

create_calm : (d : DeskState) (who : ConnId) (scope : List (List ℕ)) (m : Mode) (name : Option (List ℕ)) (schema : Option SchemaData) → (after_created d who scope m name schema).board.is_faulted ≡ d.board.is_faulted
create_calm d who scope m None schema = refl
create_calm d who scope m (Some name) None = refl
create_calm d who scope m (Some name) (Some schema) = refl

left_calm : (d : DeskState) (number : ℕ) (committed : Bool) (kept : Option SchemaData) (o : Option DrawnTx) → (after_left d number committed kept o).board.is_faulted ≡ d.board.is_faulted
left_calm d number committed kept None = refl
left_calm d number committed kept (Some t) = refl

step_faults : (d : DeskState) (t : DeskStep) → (after d t).board.is_faulted ≡ (is_fault t || d.board.is_faulted)
unfolding after
step_faults d (step.Asks who name want) = refl
step_faults d (step.Takes client) = take_calm d client (event_for d client)
step_faults d (step.Handles client) = refl
step_faults d (step.Closes who) = refl
step_faults d (step.Creates number who scope m durability) = create_calm d who scope m (name_asked_by d.board.clients who) (schema_of d.queues who)
step_faults d (step.Starts client number) = refl
step_faults d (step.Leaves client number ended kept) = left_calm d number (is_committed ended) kept (drawn_at d.board.drawn number)
step_faults d step.Faults = refl

or_moved : (a b c : Bool) → (b || (a || c)) ≡ ((a || b) || c)
or_moved true true c = refl
or_moved true false c = refl
or_moved false b c = refl

or_false : (a : Bool) → (a || false) ≡ a
or_false true = refl
or_false false = refl

all_faults : (d : DeskState) (ts : List DeskStep) → (after_all d ts).board.is_faulted ≡ (list_any is_fault ts || d.board.is_faulted)
all_faults d [] = refl
all_faults d (t ∷ ts) = all_faults (after d t) ts ∙ ap (λ b. list_any is_fault ts || b) (step_faults d t) ∙ or_moved (is_fault t) (list_any is_fault ts) d.board.is_faulted

pub desk_faults : (r : DeskRun) → (desk_run r).board.is_faulted ≡ list_any is_fault r.order
unfolding desk_run
desk_faults r = all_faults (new_desk r.opening) r.order ∙ or_false (list_any is_fault r.order)

not_both : (a b : Bool) → (not a && b) ≡ true → a ≡ false
not_both true b e = cc
not_both false b e = refl

pub start_calm : (place client number : ℕ) (r end : DeskRun) (told : Told) → MadeAtOnce place r (Makes (step.Starts client number) told ∷ []) end → IsDeskRun end → list_any is_fault r.order ≡ false
start_calm place client number r end told made run =
    let d = desk_run r in
    sym (desk_faults r) ∙ not_both d.board.is_faulted (is_to_start client (drawn_at d.board.drawn number) && is_go (may_start d.board.scopes number))
    (run_before r (step.Starts client number) (subst IsDeskRun made.1.1 run)).1

-- ---- entries
abbrev IsDropped : Entry → Type 0
IsDropped e = (did_commit e.outcome ≡ false) × (is_in_doubt e.outcome ≡ false)

abbrev fit_where : Bool → Entry → List Entry → Type 0
fit_where b e es = MatchBool b ((may_write e.body ≡ true) × AllByRecursion IsDropped es) ((e.by_host ≡ false) × DoubtsFit es)

pub all_end : {X : Type 0} (P : X → Type 0) (xs : List X) (x : X) → AllByRecursion P xs → P x → AllByRecursion P (xs ++ x ∷ [])
all_end P [] x all p = (p, tt)
all_end P (y ∷ ys) x all p = (all.0, all_end P ys x all.1 p)

-- behind one in doubt it is dropped, and before there is one the host doesn't end it; in doubt it may write
doubts_end : (es : List Entry) (e : Entry) → DoubtsFit es → (is_in_doubt e.outcome ≡ true → may_write e.body ≡ true) → (list_any is_doubted es ≡ true → IsDropped e) → (list_any is_doubted es ≡ false → is_in_doubt e.outcome ≡ false → e.by_host ≡ false) → DoubtsFit (es ++ e ∷ [])
doubts_end [] e fit writes dropped own = elim (cases_Bool (is_in_doubt e.outcome)) [
  | inl is ↦ subst (λ b. fit_where b e []) (sym is) (writes is, tt)
  | inr out ↦ subst (λ b. fit_where b e []) (sym out) (own refl out, tt)
]
doubts_end (f ∷ es) e fit writes dropped own = elim (cases_Bool (is_in_doubt f.outcome)) [
  | inl is ↦
      let h : (may_write f.body ≡ true) × AllByRecursion IsDropped es = subst (λ b. fit_where b f es) is fit in
      subst (λ b. fit_where b f (es ++ e ∷ [])) (sym is) (h.0, all_end IsDropped es e h.1 (dropped (ap (λ b. b || list_any is_doubted es) is)))
  | inr out ↦
      let h : (f.by_host ≡ false) × DoubtsFit es = subst (λ b. fit_where b f es) out fit in
      let same : list_any is_doubted (f ∷ es) ≡ list_any is_doubted es = ap (λ b. b || list_any is_doubted es) out in
      subst (λ b. fit_where b f (es ++ e ∷ [])) (sym out) (h.0, doubts_end es e h.1 writes (λ k. dropped (same ∙ k)) (λ k. own (same ∙ k)))
]

pub any_last : {X : Type 0} (p : X → Bool) (xs : List X) (x : X) → p x ≡ true → list_any p (xs ++ x ∷ []) ≡ true
any_last p [] x is = ap (λ b. b || false) is
any_last p (y ∷ ys) x is = ap (λ b. p y || b) (any_last p ys x is) ∙ or_true (p y)
  where
    or_true : (a : Bool) → (a || true) ≡ true
    or_true true = refl
    or_true false = refl

-- ---- what is told of faults
module _ (order later : List DeskStep) (running : Option RunningTx) (es : List Entry) (f : HasFaults order running es) where
  pub faults_still : (next : Option RunningTx) → list_any is_fault later ≡ list_any is_fault order → (list_any is_fault order ≡ true → next ≡ None) → HasFaults later next es
  faults_still next same none = record { doubts = f.doubts; marked = same ∙ f.marked; stopped = λ k. none (sym same ∙ k) }

  pub faults_left : (e : Entry) → list_any is_fault later ≡ list_any is_fault order → is_in_doubt e.outcome ≡ false → (list_any is_fault order ≡ true → did_commit e.outcome ≡ false)
      → (list_any is_fault order ≡ false → e.by_host ≡ false) → HasFaults later None (es ++ e ∷ [])
  faults_left e same sure dropped own = record {
    doubts = doubts_end es e f.doubts (λ k. absurd (no (sym k ∙ sure))) (λ k. (dropped (f.marked ∙ k), sure)) (λ k also. own (f.marked ∙ k));
    marked = same ∙ f.marked ∙ sym (any_both is_doubted es (e ∷ []) (ap (λ b. b || false) sure));
    stopped = λ k. refl;
  }

  pub faults_doubted : (e : Entry) → list_any is_fault order ≡ false → list_any is_fault later ≡ true → is_in_doubt e.outcome ≡ true → may_write e.body ≡ true → HasFaults later None (es ++ e ∷ [])
  faults_doubted e calm faulted doubt writes = record {
    doubts = doubts_end es e f.doubts (λ k. writes) (λ k. absurd (no (sym k ∙ sym f.marked ∙ calm))) (λ k also. absurd (no (sym doubt ∙ also)));
    marked = faulted ∙ sym (any_last is_doubted es e doubt);
    stopped = λ k. refl;
  }

pub running_calm : (order : List DeskStep) (t : RunningTx) (es : List Entry) → HasFaults order (Some t) es → list_any is_fault order ≡ false
running_calm order t es f = elim (cases_Bool (list_any is_fault order)) [
  | inl is ↦ absurd (none (f.stopped is))
  | inr out ↦ out
]
  where
    none : Some t ≡ None → ⊥
    none k = cc

-- ---- the host is faulted
-- the step is nobody's
told_more : (d : DeskState) (order : List DeskStep) (t : DeskStep) → told_steps d (order ++ t ∷ []) ≡ told_steps d order ++ (t, told_by (after_all d order) t) ∷ []
told_more d [] t = refl
told_more d (u ∷ order) t = ap (λ es. (u, told_by d u) ∷ es) (told_more (after d u) order t)

own_faulted : (client : ℕ) (r : DeskRun) → own_told client (with_step r step.Faults) ≡ own_told client r
unfolding desk_run own_told
own_faulted client r = ap (filter (is_own client)) (told_more (new_desk r.opening) r.order step.Faults)
    ∙ filter-append (is_own client) (told_steps (new_desk r.opening) r.order) ((step.Faults, told_by (desk_run r) step.Faults) ∷ [])
    ∙ append-nil (filter (is_own client) (told_steps (new_desk r.opening) r.order))

agrees_faulted : (client : ℕ) (r : DeskRun) (acts : List Act) → Agrees client r acts → Agrees client (with_step r step.Faults) acts
agrees_faulted client r acts a = record { steps = a.steps ∙ sym (own_faulted client r); failed = all_still client r step.Faults 0 0 acts a.failed }

next_faulted : (r : DeskRun) → (desk_run (with_step r step.Faults)).board.scopes.next ≡ (desk_run r).board.scopes.next
unfolding after
next_faulted r = ap (λ (d : DeskState). d.board.scopes.next) (run_after r step.Faults)

unfinished_faulted : (r : DeskRun) → unfinished_of (desk_run (with_step r step.Faults)) ≡ unfinished_of (desk_run r)
unfolding after unfinished_of
unfinished_faulted r = ap unfinished_of (run_after r step.Faults)

abbrev faulted : List DeskStep → List DeskStep
faulted order = order ++ step.Faults ∷ []

-- it tells nothing of a transaction
told_faulted : (order : List DeskStep) (acts : List Act) (number : ℕ) → told_of (faulted order) acts number ≡ told_of order acts number
told_faulted order acts number = told_off order acts (Makes step.Faults (record { event = None; number = None; schema = None }) ∷ []) number (refl, tt)

finished_faulted : (order : List DeskStep) (acts : List (List Act)) (bs : List BegunAt) (es : List Entry) → AreFinishedAs order acts bs es → AreFinishedAs (faulted order) acts bs es
finished_faulted order acts [] [] are = tt
finished_faulted order acts [] (e ∷ es) are = absurd are
finished_faulted order acts (b ∷ bs) [] are = absurd are
finished_faulted order acts (b ∷ bs) (e ∷ es) are =
    (record { number = are.0.number; body = are.0.body; told = told_faulted order (acts_at acts b.place) b.tx.number ∙ are.0.told }, finished_faulted order acts bs es are.1)

waiting_faulted : (order : List DeskStep) (acts : List (List Act)) (running : Option RunningTx) (bs : List BegunAt) → AllByRecursion (IsWaiting order acts running) bs → AllByRecursion (IsWaiting (faulted order) acts running) bs
waiting_faulted order acts running [] are = tt
waiting_faulted order acts running (b ∷ bs) are =
    (record { told = told_faulted order (acts_at acts b.place) b.tx.number ∙ are.0.told; started = are.0.started; body = are.0.body }, waiting_faulted order acts running bs are.1)

begun_faulted : (r : DeskRun) (acts : List (List Act)) (running : Option RunningTx) (done waiting : List BegunAt) → HasBegun r acts running done waiting → HasBegun (with_step r step.Faults) acts running done waiting
begun_faulted r acts running done waiting h = record {
  all = h.all;
  numbers = subst (λ n. AreDrawn 1 (map shown_begun (done ++ waiting)) n) (sym (next_faulted r)) h.numbers;
  unfinished = unfinished_faulted r ∙ h.unfinished;
  each = waiting_faulted r.order acts running waiting h.each;
  ahead = λ place number le. told_faulted r.order (acts_at acts place) number ∙ h.ahead place number (subst (λ n. n ≤ number) (next_faulted r) le);
  first = h.first;
}

pub durable_faulted : (order : List DeskStep) (number : ℕ) → durability_drawn (faulted order) number ≡ durability_drawn order number
durable_faulted order number = ap (λ b. if b then Relaxed else Strict) (any_both (creates_relaxed number) order (step.Faults ∷ []) refl)

commits_faulted : (order : List DeskStep) (rs : List LogRecord) → commits_at (faulted order) rs ≡ commits_at order rs
commits_faulted order [] = refl
commits_faulted order (x ∷ rs) = λ i. record { strict = is_strict (durable_faulted order x.number i); logged = x } ∷ commits_faulted order rs i

pub in_step_faulted : (session : ScriptSession) (opening : Items) (now : SessionNow) (running : Option RunningTx) (u : IsInStep session opening now running) → IsDeskRun (with_step now.run step.Faults)
    → (v : IsInStep session opening (with_fault now) running) × (v.entries ≡ u.entries)
in_step_faulted session opening now running u run = (
  record {
    acts = u.acts;
    done = u.done;
    waiting = u.waiting;
    entries = u.entries;
    shows = u.shows;
    desk = run;
    theirs = theirs_with (length session.clients) now.run.order step.Faults u.theirs tt;
    seats = all_stay 0 now.run (with_step now.run step.Faults) u.waiting u.waiting session.clients now.seats u.acts
        (λ script at seat own le is. record { runs = is.runs; agrees = agrees_faulted (at + 1) now.run own is.agrees; number = is.number; lines = is.lines; txs = is.txs }) u.seats;
    begun = begun_faulted now.run u.acts running u.done u.waiting u.begun;
    finished = record {
      each = finished_faulted now.run.order u.acts u.done u.entries u.finished.each;
      serial = u.finished.serial;
      items = u.finished.items;
      finish = u.finished.finish;
      commits = u.finished.commits ∙ sym (commits_faulted now.run.order (records_logged u.entries));
      doubts = u.finished.doubts ∙ sym (commits_faulted now.run.order (records_in_doubt u.entries));
    };
    finish_order = order_still now.run.order now.finish u.finish_order (step.Faults ∷ []) (λ number. refl) (λ number. refl);
    behind = fits_longer now.run.order (step.Faults ∷ []) u.entries u.behind;
  },
  refl,
)

-- ---- those in doubt
some_chosen : (p : Entry → Bool) (order : List DeskStep) (es : List Entry) → has_some (commits_at order (map record_of_entry (filter p es))) ≡ list_any p es
some_chosen p order [] = refl
some_chosen p order (e ∷ es) = elim (p e) as (λ b. has_some (commits_at order (map record_of_entry (if b then e ∷ filter p es else filter p es))) ≡ (b || list_any p es)) [ true ↦ refl | false ↦ some_chosen p order es ]

pub doubted_faulted : (session : ScriptSession) (opening : Items) (now : SessionNow) (running : Option RunningTx) → IsUnderWay session opening now running → has_some now.doubts ≡ (desk_run now.run).board.is_faulted
doubted_faulted session opening now running u =
    ap has_some u.in_step.finished.doubts ∙ some_chosen is_doubted now.run.order u.in_step.entries ∙ sym u.faults.marked ∙ sym (desk_faults now.run)
