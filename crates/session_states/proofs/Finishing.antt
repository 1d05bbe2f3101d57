-- A transaction that finishes keeps a session under way.
--     ended_under_way       it leaves, after some turns more or none, and its client is told
--     finish_under_way      one that ran
--     doubt_under_way       one that ran, and its commit met a fault
--     cancel_under_way, host_under_way      one that never started: its body aborted it, or the host ended it
--     aborted_undone        one that didn't commit leaves nothing
use Rattle.std.proofs.Common.{◌≡◌, ℕ, zero, suc, ◌+◌, Bool, true, false, not, ◌&&◌, ◌||◌, List, [], ◌∷◌, ◌++◌, map, filter, slice_get, slice_set, if◌then◌else◌, Option, Some, None, inl, inr, refl, sym, ◌∙◌, ap, subst}
use Rattle.std.specs.Prelude.{◌==◌}
use Rattle.std.specs.List.{list_any, find, AllByRecursion}
use Rattle.std.proofs.lemmas.Bool.{cases_Bool}
use Rattle.std.proofs.lemmas.List.{append-nil, append_assoc, map-append}
use Rattle.std.proofs.lemmas.List.Elements.{filter-append}
use Rattle.idb_schema.specs.Schemas.{SchemaData}
use Rattle.idb_calls.specs.Deltas.{DeltaTree}
use Rattle.idb_calls.specs.declared.traces.Outcome.{Outcome}
use Rattle.desk_steps.specs.declared.steps.DeskStep.{DeskStep}
use Rattle.desk_steps.specs.declared.steps.DeskStep.TheVariants as step
use Rattle.idb_desk.specs.Steps.{DeskRun, desk_run, with_step, IsDeskRun}
use Rattle.item_changes.specs.Items.{Items}
use Rattle.item_changes.specs.Effects.{applied_all}
use Rattle.item_changes.specs.Scopes.{part_of}
use Rattle.client_ties.specs.FinishEntries.{TxBody, Scripted, Deletion, FinishEntry, scope_of_body, did_commit, changes_kept}
use Rattle.client_ties.specs.SerialRuns.{joined_lines, RunsOn, NeverStarts, RunsAlone, IsSerial, items_after}
use Rattle.script_statements.specs.declared.script.Client.{Client}
use Rattle.script_statements.specs.declared.script.ScriptSession.{ScriptSession}
use Rattle.script_runs.specs.declared.notes.Note.{Note}
use Rattle.script_handlers.specs.Handling.{Script, ScriptReacts, ScriptWrites}
use Rattle.client_ties.specs.Acts.{Told, Act, Makes, TakesTurn, txs_begun}
use Rattle.client_ties.specs.Answering.{MadeAtOnce}
use Rattle.client_ties.specs.ClientStates.{ClientTx, ClientState, is_tx, tx_at, without_tx, with_notes}
use Rattle.client_ties.specs.ClientSteps.{ClientStep, FinishesTx, FinishesUnstarted, EndsTx}
use Rattle.client_ties.specs.Unfinished.{least_of, Draws}
use Rattle.client_ties.specs.Ties.{shown_tx}
use Rattle.client_ties.proofs.Laws.{IsSound, Grows, grows_end, notes_txs, made_split, made_before}
use Rattle.legal_sessions.specs.SerialResults.{number_of_entry, has_left}
use Rattle.legal_sessions.specs.Legal.{is_fault, is_in_doubt, leaves_behind_fault, FitsFault, may_write, commits_of, record_of_entry, records_logged, in_doubt_of, records_in_doubt, commit_at, commits_at}
use Rattle.session_states.specs.Sessions.{SeatNow, SessionNow, with_seat, with_finished, with_fault}
use Rattle.session_states.specs.Telling.{ToldTx, told_by_entry, BegunAt, begun_at, txs_at, RunningTx, turns_so_far}
use Rattle.session_states.specs.UnderWay.{HasBegun, IsFinishedAs, AreFinishedAs, HasFinishOrder, IsInStep, HasFaults, IsUnderWay}
use Rattle.session_states.specs.Moves.{Moves, entry_ran, entry_dropped, entry_by_host}
use Rattle.session_states.proofs.Lasting.{logged_still, doubted_still}
use Rattle.session_states.proofs.Told.{steps_of, made_order, made_faults, tame_silent, silent_starts, set_same}
use Rattle.session_states.proofs.Placed.{SeatAt}
use Rattle.session_states.proofs.FinishOrder.{or_none, quiet_lefts, order_left, fits_doubted}
use Rattle.session_states.proofs.Faults.{all_end, desk_faults, running_calm, faults_left, faults_doubted, any_last, in_step_faulted}
use Rattle.session_states.proofs.Beginnings.{equal_self, txs_more, txs_still, first_apart}
use Rattle.session_states.proofs.Passing.{found_first, left_apart, finished_still, begun_grows}
use Rattle.session_states.proofs.Turning.{begun_leaves, told_left, leave_others}
use Rattle.session_states.proofs.Moving.{there, is_there, made_there, seats_moved, still_shown, still_theirs, still_behind, none_silent, apart_silent, own_here, others_left, waits_first, runs_first}

abbrev Entry : Type 0
Entry = FinishEntry Script Note

-- ---- one entry more
finished_end : (order : _) (acts : List (List Act)) (bs : List BegunAt) (es : List Entry) (b : BegunAt) (e : Entry) → AreFinishedAs order acts bs es → IsFinishedAs order acts b e → AreFinishedAs order acts (bs ++ b ∷ []) (es ++ e ∷ [])
finished_end order acts [] [] b e are is = (is, tt)
finished_end order acts [] (f ∷ es) b e are is = absurd are
finished_end order acts (c ∷ bs) [] b e are is = absurd are
finished_end order acts (c ∷ bs) (f ∷ es) b e are is = (are.0, finished_end order acts bs es b e are.1 is)

items_end : (items : Items) (es : List Entry) (e : Entry) → items_after items (es ++ e ∷ []) ≡ applied_all (items_after items es) (changes_kept e)
items_end items [] e = refl
items_end items (f ∷ es) e = items_end (applied_all items (changes_kept f)) es e

serial_end : (items : Items) (es : List Entry) (e : Entry) → IsSerial ScriptReacts ScriptWrites items es → RunsAlone ScriptReacts ScriptWrites (items_after items es) e → IsSerial ScriptReacts ScriptWrites items (es ++ e ∷ [])
serial_end items [] e serial runs = (runs, tt)
serial_end items (f ∷ es) e serial runs = (serial.0, serial_end (applied_all items (changes_kept f)) es e serial.1 runs)

commits_end : (es : List Entry) (e : Entry) → records_logged (es ++ e ∷ []) ≡ records_logged es ++ records_logged (e ∷ [])
commits_end es e = ap (map record_of_entry) (filter-append (λ (f : Entry). did_commit f.outcome && may_write f.body) es (e ∷ [])) ∙ map-append record_of_entry (commits_of es) (commits_of (e ∷ []))

doubts_end : (es : List Entry) (e : Entry) → records_in_doubt (es ++ e ∷ []) ≡ records_in_doubt es ++ records_in_doubt (e ∷ [])
doubts_end es e = ap (map record_of_entry) (filter-append (λ (f : Entry). is_in_doubt f.outcome) es (e ∷ [])) ∙ map-append record_of_entry (in_doubt_of es) (in_doubt_of (e ∷ []))

set_twice : {X : Type 0} (xs : List X) (i : ℕ) (x y : X) → slice_set (slice_set xs i x) i y ≡ slice_set xs i y
set_twice [] i x y = refl
set_twice (z ∷ zs) zero x y = refl
set_twice (z ∷ zs) (suc i) x y = ap (λ l. z ∷ l) (set_twice zs i x y)

-- ---- a transaction leaves
module _ (session : ScriptSession) (opening : Items) (now : SessionNow) (running : Option RunningTx) (place : ℕ) (script : Client) (before seat : SeatNow) (turns : List (List Note)) (outcome : Outcome) (kept : Option SchemaData) (told : Told) (ends : List Act) (r : DeskRun)
    (u : IsInStep session opening now running) (b : BegunAt) (rest : List BegunAt) (are : u.waiting ≡ b ∷ rest) (here : b.place ≡ place)
    (m : Moves session now place script before (map (TakesTurn b.tx.number) turns ++ Makes (step.Leaves before.client.number b.tx.number outcome kept) told ∷ ends) r seat) where
  abbrev lead : List Act
  lead = map (TakesTurn b.tx.number) turns ++ Makes (step.Leaves before.client.number b.tx.number outcome kept) told ∷ []

  abbrev acts : List Act
  acts = map (TakesTurn b.tx.number) turns ++ Makes (step.Leaves before.client.number b.tx.number outcome kept) told ∷ ends

  together : lead ++ ends ≡ acts
  together = append_assoc (map (TakesTurn b.tx.number) turns) (Makes (step.Leaves before.client.number b.tx.number outcome kept) told ∷ []) ends

  abbrev at : SeatAt 0 now.run u.waiting session.clients u.acts place before
  at = there session opening now running place script before seat acts r u m

  cut : (mid : DeskRun) × (MadeAtOnce (place + 1) now.run lead mid × MadeAtOnce (place + 1) mid ends r)
  cut = made_split (place + 1) now.run r lead ends (subst (λ l. MadeAtOnce (place + 1) now.run l r) (sym together) (made_there session opening now running place script before seat acts r u m))

  mid_run : IsDeskRun cut.0
  mid_run = made_before (place + 1) cut.0 r ends cut.1.1 m.run

  begun : HasBegun now.run u.acts running u.done (b ∷ rest)
  begun = subst (HasBegun now.run u.acts running u.done) are u.begun

  abbrev acts_left : List (List Act)
  acts_left = slice_set u.acts place (at.own ++ lead)

  left_there : slice_get acts_left place ≡ Some (at.own ++ lead)
  left_there = set_same u.acts place at.own (at.own ++ lead) at.own_at

  same_acts : slice_set acts_left place ((at.own ++ lead) ++ ends) ≡ slice_set u.acts place (at.own ++ acts)
  same_acts = set_twice u.acts place (at.own ++ lead) ((at.own ++ lead) ++ ends) ∙ ap (slice_set u.acts place) (append_assoc at.own lead ends ∙ ap (λ l. at.own ++ l) together)

  left_begun : HasBegun cut.0 acts_left None (u.done ++ b ∷ []) rest
  left_begun = begun_leaves now.run cut.0 u.acts place before.client.number at.own running turns outcome kept told u.done rest b at.own_at cut.1.0 mid_run begun here

  -- it leaves by one step, and then its client is told
  abbrev leaving : List DeskStep
  leaving = step.Leaves before.client.number b.tx.number outcome kept ∷ steps_of ends

  order_left_by : r.order ≡ now.run.order ++ leaving
  order_left_by = ap (λ (q : DeskRun). q.order) (made_order (place + 1) now.run r acts (made_there session opening now running place script before seat acts r u m)) ∙ ap (λ ts. now.run.order ++ ts) (turned turns)
    where
      turned : (ns : List (List Note)) → steps_of (map (TakesTurn b.tx.number) ns ++ Makes (step.Leaves before.client.number b.tx.number outcome kept) told ∷ ends) ≡ leaving
      turned [] = refl
      turned (n ∷ ns) = turned ns

  module _ (c : ClientState) (number : c.number ≡ before.client.number) (txs : c.txs ≡ txs_at place rest) (g : Grows c ends seat.client) (moves : ClientStep script.blocks before.client acts seat.client)
      (e : Entry) (is_number : e.number ≡ b.tx.number) (is_body : e.body ≡ b.tx.body) (is_told : record { started = b.tx.started; left = Some (outcome, kept); turns = turns_so_far running b.tx.number ++ turns } ≡ told_by_entry e)
      (faulted : (is_in_doubt e.outcome || e.by_host) ≡ true → list_any is_fault now.run.order ≡ true)
      (faults : HasFaults r.order None (u.entries ++ e ∷ [])) (runs : RunsAlone ScriptReacts ScriptWrites now.items e) where
    draws : Draws (desk_run cut.0) (map (shown_tx (place + 1)) (txs_begun ends)) (desk_run r)
    draws =
        let is : c.number ≡ place + 1 = number ∙ (is_there session opening now running place script before seat acts r u m).number in
        subst (λ n. MadeAtOnce n cut.0 ends r → Draws (desk_run cut.0) (map (shown_tx n) (txs_begun ends)) (desk_run r)) is (λ made. g.desk cut.0 r made m.run) cut.1.1

    abbrev later : List BegunAt
    later = rest ++ map (begun_at place) (txs_begun ends)

    has_ended : HasBegun r (slice_set u.acts place (at.own ++ acts)) None (u.done ++ b ∷ []) later
    has_ended = subst (λ l. HasBegun r l None (u.done ++ b ∷ []) later) same_acts
        (begun_grows cut.0 r acts_left place (at.own ++ lead) ends left_there cut.1.1 None (u.done ++ b ∷ []) rest left_begun g.tame g.fresh draws)

    each_ended : AreFinishedAs r.order (slice_set u.acts place (at.own ++ acts)) (u.done ++ b ∷ []) (u.entries ++ e ∷ [])
    each_ended =
        let apart = first_apart (desk_run now.run).board.scopes.next u.done b rest begun.numbers in
        let old = finished_still now.run cut.0 u.acts place at.own lead at.own_at cut.1.0 u.done u.entries
        (apart_silent lead b.tx.number u.done (leave_others now.run cut.0 u.acts place before.client.number at.own running turns outcome kept told u.done rest b at.own_at cut.1.0 mid_run begun here) apart.0) u.finished.each in
        let new : IsFinishedAs cut.0.order acts_left b e = record {
          number = is_number;
          body = is_body;
          told = told_left now.run cut.0 u.acts place before.client.number at.own running turns outcome kept told u.done rest b at.own_at cut.1.0 mid_run begun here ∙ is_told;
        } in
        subst (λ l. AreFinishedAs r.order l (u.done ++ b ∷ []) (u.entries ++ e ∷ [])) same_acts
        (finished_still cut.0 r acts_left place (at.own ++ lead) ends left_there cut.1.1 (u.done ++ b ∷ []) (u.entries ++ e ∷ []) (none_silent ends (u.done ++ b ∷ []) (λ n. tame_silent n ends g.tame))
        (finished_end cut.0.order acts_left u.done u.entries b e old new))

    left_alone : (other : ℕ) → has_left leaving other ≡ (b.tx.number == other)
    left_alone other = ap (λ x. (b.tx.number == other) || x) (quiet_lefts other ends (tame_silent other ends g.tame)) ∙ or_none (b.tx.number == other)

    order_ended : HasFinishOrder r.order (now.finish ++ e.number ∷ [])
    order_ended = subst (λ ts. HasFinishOrder ts (now.finish ++ e.number ∷ [])) (sym order_left_by)
        (subst (λ n. HasFinishOrder (now.run.order ++ leaving) (now.finish ++ n ∷ [])) (sym is_number)
        (order_left now.run.order now.finish u.finish_order leaving (λ other. silent_starts other ends (tame_silent other ends g.tame)) b.tx.number left_alone))

    behind_ended : AllByRecursion (FitsFault r.order) (u.entries ++ e ∷ [])
    behind_ended = all_end (FitsFault r.order) u.entries e (still_behind session opening now running place script before seat acts r u m)
        (λ k. subst (λ ts. leaves_behind_fault ts e.number ≡ true) (sym order_left_by) (subst (λ n. leaves_behind_fault (now.run.order ++ leaving) n ≡ true) (sym is_number)
        (fits_doubted now.run.order leaving b.tx.number (faulted k) (ap (λ (x : ToldTx). x.left) begun.each.0.told) (left_alone b.tx.number ∙ equal_self b.tx.number))))

    pub ended_under_way : IsUnderWay session opening (with_finished e (with_seat place r seat now)) None
    ended_under_way = record {
      in_step = record {
        acts = slice_set u.acts place (at.own ++ acts);
        done = u.done ++ b ∷ [];
        waiting = later;
        entries = u.entries ++ e ∷ [];
        shows = still_shown session opening now running place script before seat acts r u m;
        desk = m.run;
        theirs = still_theirs session opening now running place script before seat acts r u m;
        seats = seats_moved session opening now running place script before seat acts r u m later moves (g.number ∙ number)
            (g.txs ∙ ap (λ l. l ++ txs_begun ends) txs ∙ sym (txs_more place rest (txs_begun ends)))
            (λ other out. txs_still place other rest (txs_begun ends) out ∙ others_left place b rest here other out ∙ ap (txs_at other) (sym are));
        begun = has_ended;
        finished = record {
          each = each_ended;
          serial = serial_end opening u.entries e u.finished.serial (subst (λ items. RunsAlone ScriptReacts ScriptWrites items e) u.finished.items runs);
          items = ap (λ items. applied_all items (changes_kept e)) u.finished.items ∙ sym (items_end opening u.entries e);
          finish = ap (λ ns. ns ++ e.number ∷ []) u.finished.finish ∙ sym (map-append number_of_entry u.entries (e ∷ []));
          commits = ap (λ cs. cs ++ commits_at r.order (records_logged (e ∷ [])))
              (u.finished.commits ∙ sym (logged_still (place + 1) now.run r acts (made_there session opening now running place script before seat acts r u m) m.run u.acts running u.done u.waiting u.begun u.entries u.finished.each))
              ∙ sym (map-append (commit_at r.order) (records_logged u.entries) (records_logged (e ∷ [])))
              ∙ ap (commits_at r.order) (sym (commits_end u.entries e));
          doubts = ap (λ cs. cs ++ commits_at r.order (records_in_doubt (e ∷ [])))
              (u.finished.doubts ∙ sym (doubted_still (place + 1) now.run r acts (made_there session opening now running place script before seat acts r u m) m.run u.acts running u.done u.waiting u.begun u.entries u.finished.each))
              ∙ sym (map-append (commit_at r.order) (records_in_doubt u.entries) (records_in_doubt (e ∷ [])))
              ∙ ap (commits_at r.order) (sym (doubts_end u.entries e));
        };
        finish_order = order_ended;
        behind = behind_ended;
      };
      faults = faults;
    }

-- ---- a transaction that ran
left_own : (place : ℕ) (b : BegunAt) (rest : List BegunAt) (next : ℕ) (txs : List ClientTx) → txs ≡ txs_at place (b ∷ rest) → b.place ≡ place → filter (λ tx. not (is_tx b.tx.number tx)) (txs_at place rest) ≡ txs_at place rest
    → filter (λ tx. not (is_tx b.tx.number tx)) txs ≡ txs_at place rest
left_own place b rest next txs are here still = ap (filter (λ tx. not (is_tx b.tx.number tx))) (are ∙ own_here place b rest here)
    ∙ ap (λ t. if not t then b.tx ∷ filter (λ tx. not (is_tx b.tx.number tx)) (txs_at place rest) else filter (λ tx. not (is_tx b.tx.number tx)) (txs_at place rest)) (equal_self b.tx.number) ∙ still

module _ (sound : (q : DeskRun) → IsDeskRun q → IsSound (desk_run q)) (session : ScriptSession) (opening : Items) (now : SessionNow) (place : ℕ) (script : Client) (before seat : SeatNow) (told : Told) (ends : List Act) (r : DeskRun) (tx : ClientTx) (idle : before.client.tasks ≡ []) where
  finish_first : (t : RunningTx) (u : IsInStep session opening now (Some t)) (b : BegunAt) (rest : List BegunAt) (outcome : Outcome) (kept : Option SchemaData) (changes : List DeltaTree)
      → u.waiting ≡ b ∷ rest → b.tx.number ≡ t.number → tx.started ≡ true → (is_in_doubt outcome ≡ true → list_any is_fault now.run.order ≡ true) → HasFaults r.order None (u.entries ++ entry_ran t changes kept outcome ∷ [])
      → RunsOn ScriptReacts ScriptWrites (part_of (scope_of_body t.body) now.items) t.body t.turns changes kept false outcome
      → Moves session now place script before (Makes (step.Leaves before.client.number b.tx.number outcome kept) told ∷ ends) r seat → tx_at before.client b.tx.number ≡ Some tx
      → EndsTx script.blocks (without_tx before.client b.tx.number) b.tx.number outcome tx.kind ends seat.client
      → IsUnderWay session opening (with_finished (entry_ran t changes kept outcome) (with_seat place r seat now)) None
  finish_first t u b rest outcome kept changes are same ran faulted faults runs m found gone =
      let acts = Makes (step.Leaves before.client.number b.tx.number outcome kept) told ∷ ends in
      let here = is_there session opening now (Some t) place script before seat acts r u m in
      let begun = subst (HasBegun now.run u.acts (Some t) u.done) are u.begun in
      let apart = first_apart (desk_run now.run).board.scopes.next u.done b rest begun.numbers in
      let own : before.client.txs ≡ txs_at place (b ∷ rest) = here.txs ∙ ap (txs_at place) are in
      let first = found_first place b rest tx apart.1 (ap (find (is_tx b.tx.number)) (sym own) ∙ found) in
      let is_it : (t.number == b.tx.number) ≡ true = ap (λ n. n == b.tx.number) (sym same) ∙ equal_self b.tx.number in
      let waits = begun.each.0 in
      ended_under_way session opening now (Some t) place script before seat [] outcome kept told ends r u b rest are first.0 m
      (without_tx before.client b.tx.number) refl
      (left_own place b rest 0 before.client.txs own first.0 (left_apart place b.tx.number rest apart.1))
      (grows_end sound script.blocks (without_tx before.client b.tx.number) b.tx.number outcome tx.kind ends seat.client gone)
      (FinishesTx tx b.tx.number outcome kept told ends seat.client idle found ran gone)
      (entry_ran t changes kept outcome) (sym same) (sym (ap (λ x. if x then t.body else b.tx.body) is_it) ∙ waits.body)
      (λ i. record { started = (waits.started ∙ is_it) i; left = Some (outcome, kept); turns = (append-nil (turns_so_far (Some t) b.tx.number) ∙ ap (λ x. if x then t.turns else []) is_it) i })
      (λ k. faulted (sym (or_none (is_in_doubt outcome)) ∙ k)) faults runs

  abbrev FinishesInto : RunningTx → List DeltaTree → Option SchemaData → Outcome → ℕ → Type 0
  FinishesInto t changes kept outcome number = Moves session now place script before (Makes (step.Leaves before.client.number number outcome kept) told ∷ ends) r seat → tx_at before.client number ≡ Some tx
      → EndsTx script.blocks (without_tx before.client number) number outcome tx.kind ends seat.client
      → IsUnderWay session opening (with_finished (entry_ran t changes kept outcome) (with_seat place r seat now)) None

  finish_in_step : (t : RunningTx) (outcome : Outcome) (kept : Option SchemaData) (changes : List DeltaTree) (u : IsInStep session opening now (Some t)) → tx.started ≡ true
      → (is_in_doubt outcome ≡ true → list_any is_fault now.run.order ≡ true) → HasFaults r.order None (u.entries ++ entry_ran t changes kept outcome ∷ [])
      → RunsOn ScriptReacts ScriptWrites (part_of (scope_of_body t.body) now.items) t.body t.turns changes kept false outcome → FinishesInto t changes kept outcome t.number
  finish_in_step t outcome kept changes u ran faulted faults runs =
      let f = runs_first t u.waiting u.begun.first in
      subst (FinishesInto t changes kept outcome) f.1.1.1 (finish_first t u f.0 f.1.0 outcome kept changes f.1.1.0 f.1.1.1 ran faulted faults runs)

  pub finish_under_way : (t : RunningTx) (outcome : Outcome) (kept : Option SchemaData) (changes : List DeltaTree) → IsUnderWay session opening now (Some t) → tx.started ≡ true → is_in_doubt outcome ≡ false
      → RunsOn ScriptReacts ScriptWrites (part_of (scope_of_body t.body) now.items) t.body t.turns changes kept false outcome → FinishesInto t changes kept outcome t.number
  finish_under_way t outcome kept changes u ran sure runs m found gone =
      let acts = Makes (step.Leaves before.client.number t.number outcome kept) told ∷ ends in
      let calm = running_calm now.run.order t u.in_step.entries u.faults in
      finish_in_step t outcome kept changes u.in_step ran (λ k. absurd (no (sym k ∙ sure)))
      (faults_left now.run.order r.order (Some t) u.in_step.entries u.faults (entry_ran t changes kept outcome) (made_faults before.client.number now.run r acts m.made) sure (λ k. absurd (no (sym k ∙ calm))) (λ k. refl))
      runs m found gone
    where
      no : true ≡ false → ⊥
      no k = cc

  -- ---- one that never started
  never_left : (body : TxBody Script) (turns : List (List Note)) (by_host : Bool) (outcome : Outcome) → NeverStarts ScriptReacts ScriptWrites body turns [] None by_host outcome → (did_commit outcome ≡ false) × (is_in_doubt outcome ≡ false)
  never_left (Scripted body) turns by_host outcome never = (ap did_commit never.cancelled.ended, ap is_in_doubt never.cancelled.ended)
  never_left (Deletion name) turns by_host outcome never = (ap did_commit never.cancelled.2, ap is_in_doubt never.cancelled.2)

  -- whether or not the host ended it
  abbrev entry_unstarted : ℕ → List (List Note) → Bool → Outcome → Entry
  entry_unstarted number turns by_host outcome = record (entry_dropped number tx.body turns outcome) { by_host = by_host }

  drop_first : (u : IsInStep session opening now None) (b : BegunAt) (rest : List BegunAt) (turns : List (List Note)) (by_host : Bool) (outcome : Outcome)
      → u.waiting ≡ b ∷ rest → tx.started ≡ false → ((is_in_doubt outcome || by_host) ≡ true → list_any is_fault now.run.order ≡ true) → NeverStarts ScriptReacts ScriptWrites tx.body turns [] None by_host outcome
      → HasFaults r.order None (u.entries ++ entry_unstarted b.tx.number turns by_host outcome ∷ [])
      → Moves session now place script before (map (TakesTurn b.tx.number) turns ++ Makes (step.Leaves before.client.number b.tx.number outcome None) told ∷ ends) r seat → tx_at before.client b.tx.number ≡ Some tx
      → EndsTx script.blocks (with_notes (without_tx before.client b.tx.number) (joined_lines turns)) b.tx.number outcome tx.kind ends seat.client
      → IsUnderWay session opening (with_finished (entry_unstarted b.tx.number turns by_host outcome) (with_seat place r seat now)) None
  drop_first u b rest turns by_host outcome are waits faulted never faults m found gone =
      let acts = map (TakesTurn b.tx.number) turns ++ Makes (step.Leaves before.client.number b.tx.number outcome None) told ∷ ends in
      let here = is_there session opening now None place script before seat acts r u m in
      let begun = subst (HasBegun now.run u.acts None u.done) are u.begun in
      let apart = first_apart (desk_run now.run).board.scopes.next u.done b rest begun.numbers in
      let own : before.client.txs ≡ txs_at place (b ∷ rest) = here.txs ∙ ap (txs_at place) are in
      let first = found_first place b rest tx apart.1 (ap (find (is_tx b.tx.number)) (sym own) ∙ found) in
      let same = notes_txs (joined_lines turns) (without_tx before.client b.tx.number) in
      ended_under_way session opening now None place script before seat turns outcome None told ends r u b rest are first.0 m
      (with_notes (without_tx before.client b.tx.number) (joined_lines turns)) same.1
      (same.0 ∙ left_own place b rest 0 before.client.txs own first.0 (left_apart place b.tx.number rest apart.1))
      (grows_end sound script.blocks (with_notes (without_tx before.client b.tx.number) (joined_lines turns)) b.tx.number outcome tx.kind ends seat.client gone)
      (FinishesUnstarted tx b.tx.number turns outcome told ends seat.client idle found waits gone)
      (entry_unstarted b.tx.number turns by_host outcome) refl (ap (λ (x : ClientTx). x.body) (sym first.1))
      (λ i. record { started = begun.each.0.started i; left = Some (outcome, None); turns = turns })
      faulted faults never

  abbrev DropsInto : List Entry → List (List Note) → Bool → Outcome → ℕ → Type 0
  DropsInto es turns by_host outcome number = HasFaults r.order None (es ++ entry_unstarted number turns by_host outcome ∷ [])
      → Moves session now place script before (map (TakesTurn number) turns ++ Makes (step.Leaves before.client.number number outcome None) told ∷ ends) r seat → tx_at before.client number ≡ Some tx
      → EndsTx script.blocks (with_notes (without_tx before.client number) (joined_lines turns)) number outcome tx.kind ends seat.client
      → IsUnderWay session opening (with_finished (entry_unstarted number turns by_host outcome) (with_seat place r seat now)) None

  drop_under_way : (number : ℕ) (turns : List (List Note)) (by_host : Bool) (outcome : Outcome) → IsUnderWay session opening now None → least_of (desk_run now.run) ≡ Some number → tx.started ≡ false
      → (list_any is_fault now.run.order ≡ false → by_host ≡ false) → NeverStarts ScriptReacts ScriptWrites tx.body turns [] None by_host outcome
      → Moves session now place script before (map (TakesTurn number) turns ++ Makes (step.Leaves before.client.number number outcome None) told ∷ ends) r seat → tx_at before.client number ≡ Some tx
      → EndsTx script.blocks (with_notes (without_tx before.client number) (joined_lines turns)) number outcome tx.kind ends seat.client
      → IsUnderWay session opening (with_finished (entry_unstarted number turns by_host outcome) (with_seat place r seat now)) None
  drop_under_way number turns by_host outcome u least waits own never m found gone =
      let acts = map (TakesTurn number) turns ++ Makes (step.Leaves before.client.number number outcome None) told ∷ ends in
      let f = waits_first sound now.run number u.in_step.waiting u.in_step.desk least u.in_step.begun.unfinished in
      let left = never_left tx.body turns by_host outcome never in
      subst (DropsInto u.in_step.entries turns by_host outcome) f.1.1.1 (drop_first u.in_step f.0 f.1.0 turns by_host outcome f.1.1.0 waits (λ k. ended_by by_host left.1 own k) never)
      (faults_left now.run.order r.order None u.in_step.entries u.faults (entry_unstarted number turns by_host outcome) (made_faults before.client.number now.run r acts m.made) left.1 (λ k. left.0) own)
      m found gone
    where
      ended_by : (b : Bool) → is_in_doubt outcome ≡ false → (list_any is_fault now.run.order ≡ false → b ≡ false) → (is_in_doubt outcome || b) ≡ true → list_any is_fault now.run.order ≡ true
      ended_by b sure own k = elim (cases_Bool (list_any is_fault now.run.order)) [
        | inl is ↦ is
        | inr out ↦ absurd (no (sym k ∙ (λ i. sure i || own out i)))
      ]
        where
          no : true ≡ false → ⊥
          no e = cc

  pub cancel_under_way : (number : ℕ) (turns : List (List Note)) (outcome : Outcome) → IsUnderWay session opening now None → least_of (desk_run now.run) ≡ Some number → tx.started ≡ false
      → NeverStarts ScriptReacts ScriptWrites tx.body turns [] None false outcome
      → Moves session now place script before (map (TakesTurn number) turns ++ Makes (step.Leaves before.client.number number outcome None) told ∷ ends) r seat → tx_at before.client number ≡ Some tx
      → EndsTx script.blocks (with_notes (without_tx before.client number) (joined_lines turns)) number outcome tx.kind ends seat.client
      → IsUnderWay session opening (with_finished (entry_dropped number tx.body turns outcome) (with_seat place r seat now)) None
  cancel_under_way number turns outcome u least waits never m found gone = drop_under_way number turns false outcome u least waits (λ k. refl) never m found gone

  pub host_under_way : (number : ℕ) (turns : List (List Note)) (outcome : Outcome) → IsUnderWay session opening now None → (desk_run now.run).board.is_faulted ≡ true → least_of (desk_run now.run) ≡ Some number → tx.started ≡ false
      → NeverStarts ScriptReacts ScriptWrites tx.body turns [] None true outcome
      → Moves session now place script before (map (TakesTurn number) turns ++ Makes (step.Leaves before.client.number number outcome None) told ∷ ends) r seat → tx_at before.client number ≡ Some tx
      → EndsTx script.blocks (with_notes (without_tx before.client number) (joined_lines turns)) number outcome tx.kind ends seat.client
      → IsUnderWay session opening (with_finished (entry_by_host number tx.body turns outcome) (with_seat place r seat now)) None
  host_under_way number turns outcome u faulted least waits never m found gone = drop_under_way number turns true outcome u least waits (λ k. absurd (no (sym faulted ∙ desk_faults now.run ∙ k))) never m found gone
    where
      no : true ≡ false → ⊥
      no k = cc

-- ---- one whose commit met a fault
module _ (sound : (q : DeskRun) → IsDeskRun q → IsSound (desk_run q)) (session : ScriptSession) (opening : Items) (now : SessionNow) (place : ℕ) (script : Client) (before seat : SeatNow) (told : Told) (ends : List Act) (r : DeskRun) (tx : ClientTx) (idle : before.client.tasks ≡ []) where
  pub doubt_under_way : (t : RunningTx) (outcome : Outcome) (kept : Option SchemaData) (changes : List DeltaTree) → IsUnderWay session opening now (Some t) → tx.started ≡ true → is_in_doubt outcome ≡ true → may_write t.body ≡ true
      → RunsOn ScriptReacts ScriptWrites (part_of (scope_of_body t.body) now.items) t.body t.turns changes kept false outcome
      → Moves session (with_fault now) place script before (Makes (step.Leaves before.client.number t.number outcome kept) told ∷ ends) r seat → tx_at before.client t.number ≡ Some tx
      → EndsTx script.blocks (without_tx before.client t.number) t.number outcome tx.kind ends seat.client
      → IsUnderWay session opening (with_finished (entry_ran t changes kept outcome) (with_seat place r seat now)) None
  doubt_under_way t outcome kept changes u ran doubt writes runs m found gone =
      let acts = Makes (step.Leaves before.client.number t.number outcome kept) told ∷ ends in
      let mid = with_step now.run step.Faults in
      let e = entry_ran t changes kept outcome in
      let calm = running_calm now.run.order t u.in_step.entries u.faults in
      let faulted : list_any is_fault r.order ≡ true = made_faults before.client.number mid r acts m.made ∙ any_last is_fault now.run.order step.Faults refl in
      let v = in_step_faulted session opening now (Some t) u.in_step (made_before before.client.number mid r acts m.made m.run) in
      finish_in_step sound session opening (with_fault now) place script before seat told ends r tx idle t outcome kept changes v.0 ran (λ k. any_last is_fault now.run.order step.Faults refl)
      (subst (λ es. HasFaults r.order None (es ++ e ∷ [])) (sym v.1) (faults_doubted now.run.order r.order (Some t) u.in_step.entries u.faults e calm faulted doubt writes))
      runs m found gone

-- ---- what it leaves
pub aborted_undone : (e : Entry) (now : SessionNow) → did_commit e.outcome ≡ false → ((with_finished e now).items ≡ now.items) × ((with_finished e now).commits ≡ now.commits)
aborted_undone e now out = (
  ap (λ b. applied_all now.items (if b then e.changes else [])) out,
  ap (λ b. now.commits ++ commits_at now.run.order (map record_of_entry (if b && may_write e.body then e ∷ [] else []))) out ∙ append-nil now.commits,
)
