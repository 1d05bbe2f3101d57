-- A session under way is so much of a legal one, with the transaction that runs or without.
--     interrupted_between   without it
--     interrupted_at_end    with it, once it has run whole
--     interrupted_whole     so is one that came to its end
use Rattle.std.proofs.Common.{◌≡◌, ℕ, ◌+◌, ◌<◌, nat_lt, true, false, ◌&&◌, Bool, List, [], ◌∷◌, ◌++◌, map, filter, length, slice_get, if◌then◌else◌, Option, Some, None, inl, inr, le-ltb, refl, sym, ◌∙◌, ap, subst, arith}
use Rattle.std.specs.Prelude.{⊤, ◌==◌, ◌||◌}
use Rattle.std.specs.Bool.{MatchBool}
use Rattle.std.specs.List.{list_any, AllByRecursion}
use Rattle.std.specs.List.Sorted.{IsPermutation}
use Rattle.std.proofs.lemmas.Bool.{cases_Bool}
use Rattle.std.proofs.lemmas.Bool.Decides.{eqb_tells}
use Rattle.std.proofs.lemmas.List.{append-nil, append_assoc, map-append}
use Rattle.std.proofs.lemmas.List.Elements.{filter-append}
use Rattle.std.proofs.lemmas.List.Sorted.{IsPermutation-map}
use Rattle.idb_schema.specs.Schemas.{SchemaData}
use Rattle.idb_calls.specs.Deltas.{DeltaTree}
use Rattle.idb_calls.specs.declared.traces.Outcome.{Outcome}
use Rattle.desk_steps.specs.declared.steps.DeskStep.{DeskStep}
use Rattle.idb_desk.specs.Steps.{DeskRun, desk_run}
use Rattle.item_changes.specs.Items.{Items}
use Rattle.item_changes.specs.Effects.{applied_all}
use Rattle.item_changes.specs.Scopes.{part_of}
use Rattle.log_history.specs.Batching.{Commit}
use Rattle.log_history.specs.Kept.{End, with_doubt}
use Rattle.report_lines.specs.declared.reports.Report.{Report}
use Rattle.client_machine.specs.FinishEntries.{FinishEntry, scope_of_body, did_commit, changes_kept}
use Rattle.client_machine.specs.SerialRuns.{RunsOn, RunsAlone, IsSerial, items_after}
use Rattle.client_machine.specs.NumberOrder.{both_run, IsInOrder, placed_by_number, by_number}
use Rattle.client_machine.specs.Acts.{Act, txs_begun}
use Rattle.client_machine.specs.ClientStates.{ClientTx}
use Rattle.client_ties.specs.Unfinished.{AreDrawn}
use Rattle.script_statements.specs.declared.script.Client.{Client}
use Rattle.script_statements.specs.declared.script.ScriptSession.{ScriptSession}
use Rattle.script_runs.specs.declared.notes.Note.{Note}
use Rattle.script_handlers.specs.Handling.{Script, ScriptReacts, ScriptWrites}
use Rattle.legal_sessions.specs.Histories.{AreClientRuns}
use Rattle.legal_sessions.specs.SerialResults.{BegunTx, begun_in, begun_by, number_of_entry, AreEntriesOf}
use Rattle.legal_sessions.specs.Legal.{FinishFits, is_fault, is_in_doubt, DoubtsFit, in_doubt_of, EndsSo, IsLegalReport, may_write, record_of_entry, records_logged, records_in_doubt, commit_at, commits_at}
use Rattle.session_states.specs.Sessions.{SeatNow, SessionNow}
use Rattle.session_states.specs.Telling.{ToldTx, BegunAt, begun_at, begun_from, acts_where, acts_at, shown_begun, as_begun, RunningTx}
use Rattle.session_states.specs.UnderWay.{AreSeats, IsWaiting, IsFirstWaiting, AreFinishedAs, is_doubted, HasFaults, IsUnderWay}
use Rattle.session_states.specs.Moves.{entry_ran}
use Rattle.session_states.proofs.Laws.{fits_last}
use Rattle.interrupted_sessions.specs.Interrupted.{AreClientsSoFar, RanWhole, AreLast, HasCommits}

abbrev Entry : Type 0
Entry = FinishEntry Script Note

-- ---- the clients
clients_so_far : (place : ℕ) (r : DeskRun) (waiting : List BegunAt) (scripts : List Client) (seats : List SeatNow) (acts : List (List Act)) → AreSeats place r waiting scripts seats acts → AreClientsSoFar (place + 1) r scripts acts
clients_so_far place r waiting [] [] [] are = tt
clients_so_far place r waiting [] [] (a ∷ more) are = absurd are
clients_so_far place r waiting [] (s ∷ ss) acts are = absurd are
clients_so_far place r waiting (c ∷ cs) [] acts are = absurd are
clients_so_far place r waiting (c ∷ cs) (s ∷ ss) [] are = absurd are
clients_so_far place r waiting (c ∷ cs) (s ∷ ss) (a ∷ more) are = (
  record { last = s.client; runs = are.0.runs; agrees = are.0.agrees },
  clients_so_far (place + 1) r waiting cs ss more are.1,
)

-- ---- the transactions
abbrev begun_as : List (List Act) → BegunAt → BegunTx
begun_as acts b = begun_in (acts_at acts b.place) b.tx

place_found : (before : List (List Act)) (acts : List Act) (more : List (List Act)) → slice_get (before ++ acts ∷ more) (length before) ≡ Some acts
place_found [] acts more = refl
place_found (b ∷ before) acts more = place_found before acts more

begun_with : (all : List (List Act)) (place : ℕ) (acts : List Act) (txs : List ClientTx) → acts_at all place ≡ acts → map (begun_as all) (map (begun_at place) txs) ≡ map (begun_in acts) txs
begun_with all place acts [] e = refl
begun_with all place acts (tx ∷ txs) e = λ i. begun_in (e i) tx ∷ begun_with all place acts txs e i

begun_told : (before acts : List (List Act)) → map (begun_as (before ++ acts)) (begun_from (length before) acts) ≡ begun_by acts
begun_told before [] = refl
begun_told before (a ∷ more) =
    let all = before ++ a ∷ more in
    let place = length before in
    let same : (before ++ a ∷ []) ++ more ≡ all = append_assoc before (a ∷ []) more in
    let next : length (before ++ a ∷ []) ≡ place + 1 = length_end before a in
    map-append (begun_as all) (map (begun_at place) (txs_begun a)) (begun_from (place + 1) more)
    ∙ ap (λ l. l ++ map (begun_as all) (begun_from (place + 1) more)) (begun_with all place a (txs_begun a) (ap acts_where (place_found before a more)))
    ∙ ap (λ l. map (begun_in a) (txs_begun a) ++ l) (sym (λ i. map (begun_as (same i)) (begun_from (next i) more)) ∙ begun_told (before ++ a ∷ []) more)
  where
    length_end : {X : Type 0} (xs : List X) (x : X) → length (xs ++ x ∷ []) ≡ length xs + 1
    length_end [] x = refl
    length_end (y ∷ ys) x = let h = length_end ys x in omega (arith, h)

entries_told : (order : List DeskStep) (acts : List (List Act)) (bs : List BegunAt) (es : List Entry) → AreFinishedAs order acts bs es → AreEntriesOf order (map (begun_as acts) (map as_begun bs)) es
entries_told order acts [] [] are = tt
entries_told order acts [] (e ∷ es) are = absurd are
entries_told order acts (b ∷ bs) [] are = absurd are
entries_told order acts (b ∷ bs) (e ∷ es) are = (
  record {
    number = are.0.number;
    body = are.0.body;
    turns = ap (λ (t : ToldTx). t.turns) (sym are.0.told);
    started = ap (λ (t : ToldTx). t.started) (sym are.0.told);
    left = ap (λ (t : ToldTx). t.left) are.0.told;
  },
  entries_told order acts bs es are.1,
)

-- ---- the numbers
abbrev RiseFrom : ℕ → List Entry → Type 0
RiseFrom first [] = ⊤
RiseFrom first (e ∷ es) = (e.number ≡ first) × RiseFrom (first + 1) es

-- those that finished are the first, and the next one comes behind them
rise_from : (order : List DeskStep) (acts : List (List Act)) (first next : ℕ) (bs waiting : List BegunAt) (es : List Entry) → AreFinishedAs order acts bs es → AreDrawn first (map shown_begun (bs ++ waiting)) next → RiseFrom first es
rise_from order acts first next [] waiting [] are d = tt
rise_from order acts first next [] waiting (e ∷ es) are d = absurd are
rise_from order acts first next (b ∷ bs) waiting [] are d = absurd are
rise_from order acts first next (b ∷ bs) waiting (e ∷ es) are d = (are.0.number ∙ d.0, rise_from order acts (first + 1) next bs waiting es are.1 d.1)

rise_with : (order : List DeskStep) (acts : List (List Act)) (first next : ℕ) (bs : List BegunAt) (b : BegunAt) (rest : List BegunAt) (es : List Entry) (e : Entry) → AreFinishedAs order acts bs es
    → AreDrawn first (map shown_begun (bs ++ b ∷ rest)) next → e.number ≡ b.tx.number → RiseFrom first (es ++ e ∷ [])
rise_with order acts first next [] b rest [] e are d is = (is ∙ d.0, tt)
rise_with order acts first next [] b rest (f ∷ es) e are d is = absurd are
rise_with order acts first next (c ∷ bs) b rest [] e are d is = absurd are
rise_with order acts first next (c ∷ bs) b rest (f ∷ es) e are d is = (are.0.number ∙ d.0, rise_with order acts (first + 1) next bs b rest es e are.1 d.1 is)

not_less : (m n first : ℕ) → n ≡ first → m ≡ first + 1 → nat_lt m n ≡ false
not_less m n first e f = le-ltb m n (omega (arith, e, f))

placed_first : (e : Entry) (first : ℕ) (es : List Entry) → e.number ≡ first → RiseFrom (first + 1) es → placed_by_number e es ≡ e ∷ es
placed_first e first [] is rise = refl
placed_first e first (f ∷ fs) is rise = ap (λ b. if b then f ∷ placed_by_number e fs else e ∷ f ∷ fs) (not_less f.number e.number first is rise.0)

numbers_placed : (first : ℕ) (es : List Entry) → RiseFrom first es → by_number es ≡ es
numbers_placed first [] rise = refl
numbers_placed first (e ∷ es) rise = ap (placed_by_number e) (numbers_placed (first + 1) es rise.1) ∙ placed_first e first es rise.0 rise.1

later : (e : Entry) (first next : ℕ) (es : List Entry) → e.number ≡ first → first < next → RiseFrom next es → AllByRecursion (λ f. both_run e f ≡ true → e.number < f.number) es
later e first next [] is less rise = tt
later e first next (f ∷ fs) is less rise = ((λ both. let k : f.number ≡ next = rise.0 in omega (arith, is, less, k)), later e first (next + 1) fs is (omega (arith, less)) rise.1)

in_order : (first : ℕ) (es : List Entry) → RiseFrom first es → IsInOrder es
in_order first [] rise = tt
in_order first (e ∷ es) rise = (later e first (first + 1) es rise.0 (omega arith) rise.1, in_order (first + 1) es rise.1)

-- ---- one entry more
serial_with : (items : Items) (es : List Entry) (e : Entry) → IsSerial ScriptReacts ScriptWrites items es → RunsAlone ScriptReacts ScriptWrites (items_after items es) e → IsSerial ScriptReacts ScriptWrites items (es ++ e ∷ [])
serial_with items [] e s runs = (runs, tt)
serial_with items (f ∷ es) e s runs = (s.0, serial_with (applied_all items (changes_kept f)) es e s.1 runs)

abbrev fit_where : Bool → Entry → List Entry → Type 0
fit_where b e es = MatchBool b ((may_write e.body ≡ true) × AllByRecursion (λ f. (did_commit f.outcome ≡ false) × (is_in_doubt f.outcome ≡ false)) es) ((e.by_host ≡ false) × DoubtsFit es)

first_sure : (f : Entry) (es : List Entry) → list_any is_doubted (f ∷ es) ≡ false → (is_in_doubt f.outcome ≡ false) × (list_any is_doubted es ≡ false)
first_sure f es none = neither (is_in_doubt f.outcome) (list_any is_doubted es) none
  where
    neither : (a b : Bool) → (a || b) ≡ false → (a ≡ false) × (b ≡ false)
    neither true b e = cc
    neither false b e = (refl, e)

-- where none is in doubt the host ended none
doubts_with : (es : List Entry) (e : Entry) → list_any is_doubted es ≡ false → e.by_host ≡ false → (is_in_doubt e.outcome ≡ true → may_write e.body ≡ true) → DoubtsFit es → DoubtsFit (es ++ e ∷ [])
doubts_with [] e none own writes fit = elim (cases_Bool (is_in_doubt e.outcome)) [
  | inl is ↦ subst (λ b. fit_where b e []) (sym is) (writes is, tt)
  | inr out ↦ subst (λ b. fit_where b e []) (sym out) (own, tt)
]
doubts_with (f ∷ es) e none own writes fit =
    let n = first_sure f es none in
    let h : (f.by_host ≡ false) × DoubtsFit es = subst (λ b. fit_where b f es) n.0 fit in
    subst (λ b. fit_where b f (es ++ e ∷ [])) (sym n.0) (h.0, doubts_with es e n.1 own writes h.1)

running_sure : (order : List DeskStep) (t : RunningTx) (es : List Entry) → HasFaults order (Some t) es → list_any is_doubted es ≡ false
running_sure order t es f = elim (cases_Bool (list_any is_fault order)) [
  | inl is ↦ absurd (none (f.stopped is))
  | inr out ↦ sym f.marked ∙ out
]
  where
    none : Some t ≡ None → ⊥
    none k = cc

-- ---- what a log is told
told_with : (order : List DeskStep) (p : Entry → Bool) (es : List Entry) (e : Entry)
    → commits_at order (map record_of_entry (filter p (es ++ e ∷ []))) ≡ commits_at order (map record_of_entry (filter p es)) ++ commits_at order (map record_of_entry (filter p (e ∷ [])))
told_with order p es e =
    ap (λ fs. commits_at order (map record_of_entry fs)) (filter-append p es (e ∷ []))
    ∙ ap (commits_at order) (map-append record_of_entry (filter p es) (filter p (e ∷ [])))
    ∙ map-append (commit_at order) (map record_of_entry (filter p es)) (map record_of_entry (filter p (e ∷ [])))

-- ---- a session under way
module _ (session : ScriptSession) (opening : Items) (now : SessionNow) (running : Option RunningTx) (way : IsUnderWay session opening now running) where
  abbrev begun : List BegunAt → List BegunTx
  begun bs = map (begun_as way.in_step.acts) (map as_begun bs)

  begun_both : begun (way.in_step.done ++ way.in_step.waiting) ≡ begun way.in_step.done ++ begun way.in_step.waiting
  begun_both =
      let u = way.in_step in
      ap (map (begun_as u.acts)) (map-append as_begun u.done u.waiting) ∙ map-append (begun_as u.acts) (map as_begun u.done) (map as_begun u.waiting)

  all_begun : IsPermutation (begun_by way.in_step.acts) (begun way.in_step.done ++ begun way.in_step.waiting)
  all_begun =
      let u = way.in_step in
      subst (IsPermutation (begun_by u.acts)) begun_both
      (subst (λ bs. IsPermutation bs (begun (u.done ++ u.waiting))) (begun_told [] u.acts) (IsPermutation-map (begun_as u.acts) (begun_from 0 u.acts) (map as_begun (u.done ++ u.waiting)) u.begun.all))

  -- with the entries behind those of transactions that finished
  with_last : (last : List Entry) → RiseFrom 1 (way.in_step.entries ++ last) → FinishFits now.run.order (map number_of_entry (way.in_step.entries ++ last)) → AreLast now.run.order (begun way.in_step.waiting) last → DoubtsFit (way.in_step.entries ++ last)
      → IsSerial ScriptReacts ScriptWrites opening (way.in_step.entries ++ last)
      → HasCommits session opening (commits_at now.run.order (records_logged (way.in_step.entries ++ last))) (commits_at now.run.order (records_in_doubt (way.in_step.entries ++ last)))
  with_last last rise fits ran doubts serial =
      let u = way.in_step in
      record {
        history = record { schemas = now.run.opening; order = now.run.order; acts = u.acts; finish = u.entries };
        last = last;
        so_far = record {
          shows = u.shows;
          clients = clients_so_far 0 now.run u.waiting session.clients now.seats u.acts u.seats;
          desk = u.desk;
          theirs = u.theirs;
          serial = record {
            finished = begun u.done;
            unfinished = begun u.waiting;
            all = all_begun;
            entries = entries_told now.run.order u.acts u.done u.entries u.finished.each;
            last_ran = ran;
            serial = subst (IsSerial ScriptReacts ScriptWrites opening) (sym (numbers_placed 1 (u.entries ++ last) rise)) serial;
          };
          in_order = in_order 1 (u.entries ++ last) rise;
          finish_fits = fits;
          doubts = doubts;
          faults = record { doubts = way.faults.doubts; behind = u.behind; marked = way.faults.marked };
        };
        logged = refl;
        in_doubt = refl;
      }

  pub interrupted_between : HasCommits session opening now.commits now.doubts
  interrupted_between =
      let u = way.in_step in
      let none : u.entries ++ [] ≡ u.entries = append-nil u.entries in
      let rise = rise_from now.run.order u.acts 1 (desk_run now.run).board.scopes.next u.done u.waiting u.entries u.finished.each u.begun.numbers in
      let fits = subst (λ es. FinishFits now.run.order (map number_of_entry es)) (sym none) (subst (FinishFits now.run.order) u.finished.finish u.finish_order.fits) in
      let h = with_last [] (subst (RiseFrom 1) (sym none) rise) fits tt (subst DoubtsFit (sym none) way.faults.doubts) (subst (IsSerial ScriptReacts ScriptWrites opening) (sym none) u.finished.serial) in
      subst (λ cs. HasCommits session opening cs now.doubts) (ap (λ es. commits_at now.run.order (records_logged es)) none ∙ sym u.finished.commits)
      (subst (λ cs. HasCommits session opening (commits_at now.run.order (records_logged (u.entries ++ []))) cs) (ap (λ es. commits_at now.run.order (records_in_doubt es)) none ∙ sym u.finished.doubts) h)

-- ---- with the one that runs
equal_self : (n : ℕ) → (n == n) ≡ true
equal_self n = elim (eqb_tells n n) [ inl p ↦ p.0 | inr p ↦ absurd (p.1 refl) ]

module _ (session : ScriptSession) (opening : Items) (now : SessionNow) (t : RunningTx) (changes : List DeltaTree) (kept : Option SchemaData) (outcome : Outcome) (way : IsUnderWay session opening now (Some t)) where
  abbrev entry : Entry
  entry = entry_ran t changes kept outcome

  -- the first that waits is the one that runs
  ran_whole : (b : BegunAt) → IsWaiting now.run.order way.in_step.acts (Some t) b → b.tx.number ≡ t.number → RanWhole now.run.order (begun_as way.in_step.acts (as_begun b)) entry
  ran_whole b waits same =
      let is_it : (t.number == b.tx.number) ≡ true = ap (λ n. t.number == n) same ∙ equal_self t.number in
      record {
        number = sym same;
        body = sym (ap (λ x. if x then t.body else b.tx.body) is_it) ∙ waits.body;
        turns = sym (ap (λ (x : ToldTx). x.turns) waits.told ∙ ap (λ x. if x then t.turns else []) is_it);
        ran = refl;
        started = ap (λ (x : ToldTx). x.started) waits.told ∙ is_it;
        stays = ap (λ (x : ToldTx). x.left) waits.told;
      }

  pub interrupted_at_end : RunsOn ScriptReacts ScriptWrites (part_of (scope_of_body t.body) now.items) t.body t.turns changes kept false outcome → (is_in_doubt outcome ≡ true → may_write t.body ≡ true)
      → HasCommits session opening (now.commits ++ commits_at now.run.order (records_logged (entry ∷ []))) (now.doubts ++ commits_at now.run.order (records_in_doubt (entry ∷ [])))
  interrupted_at_end runs writes = by_waiting way.in_step.waiting refl
    where
      by_waiting : (ws : List BegunAt) → way.in_step.waiting ≡ ws → HasCommits session opening (now.commits ++ commits_at now.run.order (records_logged (entry ∷ []))) (now.doubts ++ commits_at now.run.order (records_in_doubt (entry ∷ [])))
      by_waiting [] are = absurd (subst (λ ws. IsFirstWaiting (Some t) ws) are way.in_step.begun.first)
      by_waiting (b ∷ rest) are =
          let u = way.in_step in
          let first : b.tx.number ≡ t.number = subst (λ ws. IsFirstWaiting (Some t) ws) are u.begun.first in
          let waits : IsWaiting now.run.order u.acts (Some t) b = (subst (λ ws. AllByRecursion (IsWaiting now.run.order u.acts (Some t)) ws) are u.begun.each).0 in
          let numbers = subst (λ ws. AreDrawn 1 (map shown_begun (u.done ++ ws)) (desk_run now.run).board.scopes.next) are u.begun.numbers in
          let rise = rise_with now.run.order u.acts 1 (desk_run now.run).board.scopes.next u.done b rest u.entries entry u.finished.each numbers (sym first) in
          let last : AreLast now.run.order (map (begun_as u.acts) (map as_begun u.waiting)) (entry ∷ []) =
          subst (λ ws. AreLast now.run.order (map (begun_as u.acts) (map as_begun ws)) (entry ∷ [])) (sym are) (ran_whole b waits first) in
          let doubts = doubts_with u.entries entry (running_sure now.run.order t u.entries way.faults) refl writes way.faults.doubts in
          let serial = serial_with opening u.entries entry u.finished.serial (subst (λ (i : Items). RunsOn ScriptReacts ScriptWrites (part_of (scope_of_body t.body) i) t.body t.turns changes kept false outcome) u.finished.items runs) in
          let fits = subst (FinishFits now.run.order) (ap (λ ns. ns ++ t.number ∷ []) u.finished.finish ∙ sym (map-append number_of_entry u.entries (entry ∷ []))) (fits_last now.run.order now.finish u.finish_order t.number) in
          let h = with_last session opening now (Some t) way (entry ∷ []) rise fits last doubts serial in
          subst (λ cs. HasCommits session opening cs (now.doubts ++ commits_at now.run.order (records_in_doubt (entry ∷ []))))
          (told_with now.run.order (λ e. did_commit e.outcome && may_write e.body) u.entries entry ∙ ap (λ cs. cs ++ commits_at now.run.order (records_logged (entry ∷ []))) (sym u.finished.commits))
          (subst (λ cs. HasCommits session opening (commits_at now.run.order (records_logged (u.entries ++ entry ∷ []))) cs)
          (told_with now.run.order (λ e. is_in_doubt e.outcome) u.entries entry ∙ ap (λ cs. cs ++ commits_at now.run.order (records_in_doubt (entry ∷ []))) (sym u.finished.doubts)) h)

-- ---- a session that came to its end
runs_so_far : (number : ℕ) (r : DeskRun) (clients : List Client) (acts : List (List Act)) → AreClientRuns number r clients acts → AreClientsSoFar number r clients acts
runs_so_far number r [] [] are = tt
runs_so_far number r [] (a ∷ more) are = absurd are
runs_so_far number r (c ∷ cs) [] are = absurd are
runs_so_far number r (c ∷ cs) (a ∷ more) are = (record { last = are.0.last; runs = are.0.runs; agrees = are.0.agrees }, runs_so_far (number + 1) r cs more are.1)

none_doubted : (es : List Entry) → AllByRecursion (λ f. (did_commit f.outcome ≡ false) × (is_in_doubt f.outcome ≡ false)) es → in_doubt_of es ≡ []
none_doubted [] all = refl
none_doubted (e ∷ es) all = ap (λ b. if b then e ∷ in_doubt_of es else in_doubt_of es) all.0.1 ∙ none_doubted es all.1

abbrev IsAtMostOne : {X : Type 0} → List X → Type 0
IsAtMostOne [] = ⊤
IsAtMostOne (x ∷ xs) = xs ≡ []

one_doubted : (es : List Entry) → DoubtsFit es → IsAtMostOne (in_doubt_of es)
one_doubted [] fit = tt
one_doubted (e ∷ es) fit = elim (cases_Bool (is_in_doubt e.outcome)) [
  | inl is ↦ subst (λ b. IsAtMostOne (if b then e ∷ in_doubt_of es else in_doubt_of es)) (sym is) (none_doubted es (subst (λ b. fit_where b e es) is fit).1)
  | inr out ↦ subst (λ b. IsAtMostOne (if b then e ∷ in_doubt_of es else in_doubt_of es)) (sym out) (one_doubted es (subst (λ b. fit_where b e es) out fit).1)
]

one_made : {X Y : Type 0} (f : X → Y) (xs : List X) → IsAtMostOne xs → IsAtMostOne (map f xs)
one_made f [] one = tt
one_made f (x ∷ xs) one = ap (map f) one

ends_doubt : (drop_end : Bool) (ds : List Commit) (log_end : End) → IsAtMostOne ds → EndsSo drop_end ds log_end → with_doubt [] log_end ≡ ds
ends_doubt true [] log_end one is = ap (with_doubt []) is
ends_doubt false [] log_end one (inl is) = ap (with_doubt []) is
ends_doubt false [] log_end one (inr is) = ap (with_doubt []) is
ends_doubt drop_end (d ∷ ds) log_end one is = ap (with_doubt []) is ∙ ap (λ xs. d ∷ xs) (sym one)

pub interrupted_whole : (session : ScriptSession) (number : ℕ) (opening : Items) (report : Report) (commits : List Commit) (log_end : End) (closing : Items) → IsLegalReport session number opening report commits log_end closing
    → HasCommits session opening commits (with_doubt [] log_end)
interrupted_whole session number opening report commits log_end closing l =
    let h = l.history in
    let legal = l.legal in
    let none : h.finish ++ [] ≡ h.finish = append-nil h.finish in
    let doubts : with_doubt [] log_end ≡ commits_at h.order (records_in_doubt h.finish) =
    ends_doubt session.drop_end (commits_at h.order (records_in_doubt h.finish)) log_end (one_made (commit_at h.order) (records_in_doubt h.finish) (one_made record_of_entry (in_doubt_of h.finish) (one_doubted h.finish legal.faults.doubts))) l.ended in
    record {
      history = h;
      last = [];
      so_far = record {
        shows = legal.shows;
        clients = runs_so_far 1 _ session.clients h.acts legal.clients;
        desk = legal.desk;
        theirs = legal.theirs;
        serial = record {
          finished = legal.serial.finished;
          unfinished = [];
          all = subst (IsPermutation (begun_by h.acts)) (sym (append-nil legal.serial.finished)) legal.serial.all;
          entries = legal.serial.entries;
          last_ran = tt;
          serial = subst (λ es. IsSerial ScriptReacts ScriptWrites opening (by_number es)) (sym none) legal.serial.serial;
        };
        in_order = subst IsInOrder (sym none) legal.in_order;
        finish_fits = subst (λ es. FinishFits h.order (map number_of_entry es)) (sym none) legal.finish_fits;
        doubts = subst DoubtsFit (sym none) legal.faults.doubts;
        faults = legal.faults;
      };
      logged = l.logged ∙ ap (λ es. commits_at h.order (records_logged es)) (sym none);
      in_doubt = doubts ∙ ap (λ es. commits_at h.order (records_in_doubt es)) (sym none);
    }
