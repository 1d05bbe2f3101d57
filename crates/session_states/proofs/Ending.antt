-- At its end a session is legal, and its report is a legal one.
use Rattle.std.proofs.Common.{◌≡◌, ℕ, ◌+◌, ◌<◌, nat_lt, true, false, List, [], ◌∷◌, ◌++◌, map, length, slice_get, if◌then◌else◌, Option, Some, le-ltb, refl, sym, ◌∙◌, ap, subst, arith}
use Rattle.std.specs.Prelude.{⊤}
use Rattle.std.specs.List.{AllByRecursion}
use Rattle.std.specs.List.Sorted.{IsPermutation}
use Rattle.std.proofs.lemmas.List.{append-nil, append_assoc, map-append}
use Rattle.std.proofs.lemmas.List.Sorted.{IsPermutation-map}
use Rattle.std.proofs.lemmas.Simd.{map-map}
use Rattle.name_queues.specs.Mails.{events_of}
use Rattle.desk_steps.specs.declared.steps.DeskStep.{DeskStep}
use Rattle.idb_desk.specs.Steps.{DeskRun, desk_run, IsDeskRun}
use Rattle.item_changes.specs.Items.{Items}
use Rattle.record_bytes.specs.declared.records.LogRecord.{LogRecord}
use Rattle.log_history.specs.Batching.{Commit}
use Rattle.log_history.specs.Kept.{End}
use Rattle.client_ties.specs.FinishEntries.{FinishEntry}
use Rattle.client_ties.specs.SerialRuns.{IsSerial, items_after}
use Rattle.client_ties.specs.NumberOrder.{both_run, IsInOrder, placed_by_number, by_number}
use Rattle.script_statements.specs.declared.script.Client.{Client}
use Rattle.script_statements.specs.declared.script.ScriptSession.{ScriptSession}
use Rattle.script_runs.specs.declared.notes.Note.{Note}
use Rattle.script_handlers.specs.Handling.{Script, ScriptReacts, ScriptWrites}
use Rattle.client_ties.specs.Acts.{Act, txs_begun, written_from, lines_of_acts}
use Rattle.client_ties.specs.ClientStates.{ClientTx}
use Rattle.client_ties.specs.Unfinished.{AreDrawn}
use Rattle.client_ties.proofs.Laws.{IsSound, none_unfinished}
use Rattle.legal_sessions.specs.Histories.{AreClientRuns}
use Rattle.legal_sessions.specs.SerialResults.{BegunTx, begun_in, begun_by, AreEntriesOf}
use Rattle.legal_sessions.specs.Legal.{FinishFits, commits_of, record_of_entry, records_logged, commit_at, EndsSo, IsLegalReport}
use Rattle.session_states.specs.Sessions.{SeatNow, SessionNow, commit_numbers, IsAtEnd, report_now}
use Rattle.session_states.specs.Telling.{ToldTx, BegunAt, begun_at, begun_from, acts_where, acts_at, shown_begun, as_begun, RunningTx}
use Rattle.session_states.specs.UnderWay.{AreSeats, AreFinishedAs, IsUnderWay}

-- ---- the clients
client_runs : (place : ℕ) (r : DeskRun) (scripts : List Client) (seats : List SeatNow) (acts : List (List Act)) → AreSeats place r [] scripts seats acts
    → AllByRecursion (λ (s : SeatNow). s.client.tasks ≡ []) seats → AllByRecursion (λ (s : SeatNow). events_of (desk_run r).queues.mails s.client.number ≡ []) seats → AreClientRuns (place + 1) r scripts acts
client_runs place r [] [] [] are tasks events = tt
client_runs place r [] [] (a ∷ more) are tasks events = absurd are
client_runs place r [] (s ∷ ss) acts are tasks events = absurd are
client_runs place r (c ∷ cs) [] acts are tasks events = absurd are
client_runs place r (c ∷ cs) (s ∷ ss) [] are tasks events = absurd are
client_runs place r (c ∷ cs) (s ∷ ss) (a ∷ more) are tasks events = (
  record {
    last = s.client;
    runs = are.0.runs;
    agrees = are.0.agrees;
    no_task = tasks.0;
    no_event = ap (events_of (desk_run r).queues.mails) (sym are.0.number) ∙ events.0;
    no_transaction = are.0.txs;
  },
  client_runs (place + 1) r cs ss more are.1 tasks.1 events.1,
)

lines_told : (place : ℕ) (r : DeskRun) (waiting : List BegunAt) (scripts : List Client) (seats : List SeatNow) (acts : List (List Act)) → AreSeats place r waiting scripts seats acts
    → map (λ (s : SeatNow). written_from 0 s.notes) seats ≡ map lines_of_acts acts
lines_told place r waiting [] [] [] are = refl
lines_told place r waiting [] [] (a ∷ more) are = absurd are
lines_told place r waiting [] (s ∷ ss) acts are = absurd are
lines_told place r waiting (c ∷ cs) [] acts are = absurd are
lines_told place r waiting (c ∷ cs) (s ∷ ss) [] are = absurd are
lines_told place r waiting (c ∷ cs) (s ∷ ss) (a ∷ more) are = λ i. written_from 0 (are.0.lines i) ∷ lines_told (place + 1) r waiting cs ss more are.1 i

-- ---- the transactions
abbrev begun_as : List (List Act) → BegunAt → BegunTx
begun_as acts b = begun_in (acts_at acts b.place) b.tx

place_found : (before : List (List Act)) (acts : List Act) (more : List (List Act)) → slice_get (before ++ acts ∷ more) (length before) ≡ Some acts
place_found [] acts more = refl
place_found (b ∷ before) acts more = place_found before acts more

begun_with : (all : List (List Act)) (place : ℕ) (acts : List Act) (txs : List ClientTx) → acts_at all place ≡ acts → map (begun_as all) (map (begun_at place) txs) ≡ map (begun_in acts) txs
begun_with all place acts [] e = refl
begun_with all place acts (tx ∷ txs) e = λ i. begun_in (e i) tx ∷ begun_with all place acts txs e i

begun_told : (before acts : List (List Act)) → map (begun_as (before ++ acts)) (begun_from (length before) acts) ≡ begun_by acts
begun_told before [] = refl
begun_told before (a ∷ more) =
    let all = before ++ a ∷ more in
    let place = length before in
    let same : (before ++ a ∷ []) ++ more ≡ all = append_assoc before (a ∷ []) more in
    let next : length (before ++ a ∷ []) ≡ place + 1 = length_end before a in
    map-append (begun_as all) (map (begun_at place) (txs_begun a)) (begun_from (place + 1) more)
    ∙ ap (λ l. l ++ map (begun_as all) (begun_from (place + 1) more)) (begun_with all place a (txs_begun a) (ap acts_where (place_found before a more)))
    ∙ ap (λ l. map (begun_in a) (txs_begun a) ++ l) (sym (λ i. map (begun_as (same i)) (begun_from (next i) more)) ∙ begun_told (before ++ a ∷ []) more)
  where
    length_end : {X : Type 0} (xs : List X) (x : X) → length (xs ++ x ∷ []) ≡ length xs + 1
    length_end [] x = refl
    length_end (y ∷ ys) x = let h = length_end ys x in omega (arith, h)

entries_told : (order : List DeskStep) (acts : List (List Act)) (bs : List BegunAt) (es : List (FinishEntry Script Note)) → AreFinishedAs order acts bs es → AreEntriesOf order (map (begun_as acts) (map as_begun bs)) es
entries_told order acts [] [] are = tt
entries_told order acts [] (e ∷ es) are = absurd are
entries_told order acts (b ∷ bs) [] are = absurd are
entries_told order acts (b ∷ bs) (e ∷ es) are = (
  record {
    number = are.0.number;
    body = are.0.body;
    turns = ap (λ (t : ToldTx). t.turns) (sym are.0.told);
    started = ap (λ (t : ToldTx). t.started) (sym are.0.told);
    left = ap (λ (t : ToldTx). t.left) are.0.told;
  },
  entries_told order acts bs es are.1,
)

-- ---- the numbers
abbrev Entry : Type 0
Entry = FinishEntry Script Note

abbrev RiseFrom : ℕ → List Entry → Type 0
RiseFrom first [] = ⊤
RiseFrom first (e ∷ es) = (e.number ≡ first) × RiseFrom (first + 1) es

rise_from : (order : List DeskStep) (acts : List (List Act)) (first next : ℕ) (bs : List BegunAt) (es : List Entry) → AreFinishedAs order acts bs es → AreDrawn first (map shown_begun bs) next → RiseFrom first es
rise_from order acts first next [] [] are d = tt
rise_from order acts first next [] (e ∷ es) are d = absurd are
rise_from order acts first next (b ∷ bs) [] are d = absurd are
rise_from order acts first next (b ∷ bs) (e ∷ es) are d = (are.0.number ∙ d.0, rise_from order acts (first + 1) next bs es are.1 d.1)

not_less : (m n first : ℕ) → n ≡ first → m ≡ first + 1 → nat_lt m n ≡ false
not_less m n first e f = le-ltb m n (omega (arith, e, f))

placed_first : (e : Entry) (first : ℕ) (es : List Entry) → e.number ≡ first → RiseFrom (first + 1) es → placed_by_number e es ≡ e ∷ es
placed_first e first [] is rise = refl
placed_first e first (f ∷ fs) is rise = ap (λ b. if b then f ∷ placed_by_number e fs else e ∷ f ∷ fs) (not_less f.number e.number first is rise.0)

numbers_placed : (first : ℕ) (es : List Entry) → RiseFrom first es → by_number es ≡ es
numbers_placed first [] rise = refl
numbers_placed first (e ∷ es) rise = ap (placed_by_number e) (numbers_placed (first + 1) es rise.1) ∙ placed_first e first es rise.0 rise.1

later : (e : Entry) (first next : ℕ) (es : List Entry) → e.number ≡ first → first < next → RiseFrom next es → AllByRecursion (λ f. both_run e f ≡ true → e.number < f.number) es
later e first next [] is less rise = tt
later e first next (f ∷ fs) is less rise = ((λ both. let k : f.number ≡ next = rise.0 in omega (arith, is, less, k)), later e first (next + 1) fs is (omega (arith, less)) rise.1)

in_order : (first : ℕ) (es : List Entry) → RiseFrom first es → IsInOrder es
in_order first [] rise = tt
in_order first (e ∷ es) rise = (later e first (first + 1) es rise.0 (omega arith) rise.1, in_order (first + 1) es rise.1)

-- ---- the end
none_waits : (bs : List BegunAt) → map shown_begun bs ≡ [] → bs ≡ []
none_waits [] e = refl
none_waits (b ∷ bs) e = cc

module _ (sound : (r : DeskRun) → IsDeskRun r → IsSound (desk_run r)) where
  pub legal_at_end : (session : ScriptSession) (number : ℕ) (opening : Items) (now : SessionNow) (running : Option RunningTx) (log_end : End) → IsUnderWay session opening now running → IsAtEnd now
      → EndsSo session.drop_end now.doubts log_end → IsLegalReport session number opening (report_now number opening now log_end) now.commits log_end now.items
  legal_at_end session number opening now running log_end way at_end ends =
      let u = way.in_step in
      let none : u.waiting ≡ [] = none_waits u.waiting (sym u.begun.unfinished ∙ none_unfinished sound now.run u.desk at_end.no_transaction) in
      let all_done : u.done ++ u.waiting ≡ u.done = ap (λ ws. u.done ++ ws) none ∙ append-nil u.done in
      let numbers = subst (λ bs. AreDrawn 1 (map shown_begun bs) (desk_run now.run).board.scopes.next) all_done u.begun.numbers in
      let rise = rise_from now.run.order u.acts 1 _ u.done u.entries u.finished.each numbers in
      let placed = numbers_placed 1 u.entries rise in
      let all = subst (λ bs. IsPermutation (begun_from 0 u.acts) (map as_begun bs)) all_done u.begun.all in
      record {
        history = record { schemas = now.run.opening; order = now.run.order; acts = u.acts; finish = u.entries };
        legal = record {
          shows = u.shows;
          clients = client_runs 0 now.run session.clients now.seats u.acts (subst (λ ws. AreSeats 0 now.run ws session.clients now.seats u.acts) none u.seats) at_end.no_task at_end.no_event;
          desk = u.desk;
          theirs = u.theirs;
          serial = record {
            finished = map (begun_as u.acts) (map as_begun u.done);
            all = subst (λ bs. IsPermutation bs (map (begun_as u.acts) (map as_begun u.done))) (begun_told [] u.acts) (IsPermutation-map (begun_as u.acts) (begun_from 0 u.acts) (map as_begun u.done) all);
            entries = entries_told now.run.order u.acts u.done u.entries u.finished.each;
            serial = subst (IsSerial ScriptReacts ScriptWrites opening) (sym placed) u.finished.serial;
          };
          in_order = in_order 1 u.entries rise;
          finish_fits = subst (FinishFits now.run.order) u.finished.finish u.finish_order.fits;
          faults = record { doubts = way.faults.doubts; behind = u.behind; marked = way.faults.marked };
        };
        told = record {
          session = refl;
          opening = refl;
          lines = lines_told 0 now.run u.waiting session.clients now.seats u.acts u.seats;
          order = refl;
          finish = u.finished.finish;
          commits = ap commit_numbers u.finished.commits ∙ map-map (λ (c : Commit). c.logged.number) (commit_at now.run.order) (records_logged u.entries) ∙ map-map (λ (r : LogRecord). r.number) record_of_entry (commits_of u.entries);
          pending = refl;
          end = refl;
        };
        logged = u.finished.commits;
        ended = subst (λ cs. EndsSo session.drop_end cs log_end) u.finished.doubts ends;
        left = u.finished.items ∙ ap (items_after opening) (sym placed);
      }
