-- Steps of a client keep a session under way.
--     waits_first, runs_first       the first that waits is the desk's least, or the one that runs
--     tame_under_way        a task or an event
--     start_under_way, turn_under_way       a transaction starts, or has a turn
--     durable_there         the durability of one that the client has stays
use Rattle.std.proofs.Common.{◌≡◌, ◌≢◌, ℕ, ◌+◌, true, false, List, [], ◌∷◌, ◌++◌, length, map, slice_set, if◌then◌else◌, Option, Some, None, refl, sym, ◌∙◌, ap, subst, arith}
use Rattle.std.specs.Prelude.{◌==◌}
use Rattle.std.specs.List.{find, AllByRecursion}
use Rattle.std.proofs.lemmas.List.Concat.{flat_map-append}
use Rattle.std.proofs.lemmas.Option.{slice_get_within}
use Rattle.desk_steps.specs.declared.steps.DeskStep.TheVariants as step
use Rattle.idb_desk.specs.Durabilities.{durability_drawn}
use Rattle.idb_desk.specs.Steps.{DeskRun, desk_run, IsDeskRun}
use Rattle.item_changes.specs.Items.{Items}
use Rattle.script_statements.specs.declared.script.Client.{Client}
use Rattle.script_statements.specs.declared.script.ScriptSession.{ScriptSession}
use Rattle.script_runs.specs.declared.notes.Note.{Note}
use Rattle.client_ties.specs.Acts.{Told, Act, Makes, TakesTurn, txs_begun, notes_of_act, notes_of_acts}
use Rattle.client_ties.specs.Answering.{MadeAtOnce}
use Rattle.client_ties.specs.ClientStates.{ClientTx, ClientState, is_tx, tx_at, with_started, started_if, with_notes}
use Rattle.client_ties.specs.ClientSteps.{ClientStep, StartsTx, RunsTurn, StepsOn, may_begin}
use Rattle.client_ties.proofs.Laws.{agrees_own, agrees_other, IsSound, Grows, notes_txs, least_unfinished}
use Rattle.client_ties.specs.Unfinished.{UnfinishedTx, unfinished_of, least_of, Draws}
use Rattle.client_ties.specs.Ties.{shown_tx}
use Rattle.legal_sessions.specs.Histories.{AreOfClients, ShowsItems}
use Rattle.legal_sessions.specs.SerialResults.{is_started, has_left}
use Rattle.legal_sessions.specs.Legal.{FitsFault}
use Rattle.session_states.specs.Sessions.{SeatNow, SessionNow, with_seat}
use Rattle.session_states.specs.Telling.{ToldTx, BegunAt, begun_at, txs_at, shown_begun, RunningTx}
use Rattle.session_states.specs.UnderWay.{IsSeatOf, AreSeats, IsFirstWaiting, HasBegun, HasFinishOrder, IsInStep, HasFaults, IsUnderWay}
use Rattle.session_states.specs.Moves.{Moves}
use Rattle.session_states.proofs.Lasting.{logged_still, doubted_still, durable_still}
use Rattle.session_states.proofs.Told.{steps_of, made_order, made_theirs, made_faults, IsSilent, tame_silent, silent_starts}
use Rattle.session_states.proofs.FinishOrder.{quiet_lefts, order_still, order_started, fits_longer}
use Rattle.session_states.proofs.Placed.{SeatAt, seat_at, seats_changed}
use Rattle.session_states.proofs.Faults.{start_calm, running_calm, faults_still}
use Rattle.session_states.proofs.Beginnings.{some_same, equal_self, unequal, txs_more, txs_still, AreApart, first_apart}
use Rattle.session_states.proofs.Passing.{as_started, found_first, started_apart, finished_still, begun_grows}
use Rattle.session_states.proofs.Turning.{begun_starts, begun_turns, start_others, turn_others}

-- ---- the first that waits
heads : {X : Type 0} {x y : X} {xs ys : List X} → x ∷ xs ≡ y ∷ ys → x ≡ y
heads e = cc

first_shown : (bs : List BegunAt) (first : UnfinishedTx) (us : List UnfinishedTx) → map shown_begun bs ≡ first ∷ us → (b : BegunAt) × ((rest : List BegunAt) × ((bs ≡ b ∷ rest) × (shown_begun b ≡ first)))
first_shown [] first us e = cc
first_shown (b ∷ bs) first us e = (b, (bs, (refl, heads e)))

pub waits_first : ((r : DeskRun) → IsDeskRun r → IsSound (desk_run r)) → (r : DeskRun) (number : ℕ) (waiting : List BegunAt) → IsDeskRun r → least_of (desk_run r) ≡ Some number → unfinished_of (desk_run r) ≡ map shown_begun waiting
    → (b : BegunAt) × ((rest : List BegunAt) × ((waiting ≡ b ∷ rest) × (b.tx.number ≡ number)))
waits_first sound r number waiting run least same =
    let h = least_unfinished sound r number run least in
    let f = first_shown waiting h.0 h.1.0 (sym same ∙ h.1.1.0) in
    (f.0, (f.1.0, (f.1.1.0, ap (λ (u : UnfinishedTx). u.number) f.1.1.1 ∙ h.1.1.1)))

pub runs_first : (t : RunningTx) (waiting : List BegunAt) → IsFirstWaiting (Some t) waiting → (b : BegunAt) × ((rest : List BegunAt) × ((waiting ≡ b ∷ rest) × (b.tx.number ≡ t.number)))
runs_first t [] first = absurd first
runs_first t (b ∷ bs) first = (b, (bs, (refl, first)))

pub none_silent : (acts : List Act) (bs : List BegunAt) → ((number : ℕ) → IsSilent number acts) → AllByRecursion (λ (b : BegunAt). IsSilent b.tx.number acts) bs
none_silent acts [] silent = tt
none_silent acts (b ∷ bs) silent = (silent b.tx.number, none_silent acts bs silent)

pub apart_silent : (acts : List Act) (number : ℕ) (bs : List BegunAt) → ((n : ℕ) → (n == number) ≡ false → IsSilent n acts) → AreApart number bs → AllByRecursion (λ (b : BegunAt). IsSilent b.tx.number acts) bs
apart_silent acts number [] silent apart = tt
apart_silent acts number (b ∷ bs) silent apart = (silent b.tx.number apart.0, apart_silent acts number bs silent apart.1)

module _ (session : ScriptSession) (opening : Items) (now : SessionNow) (running : Option RunningTx) (place : ℕ) (script : Client) (before seat : SeatNow) (acts : List Act) (r : DeskRun)
    (u : IsInStep session opening now running) (m : Moves session now place script before acts r seat) where
  abbrev pub there : SeatAt 0 now.run u.waiting session.clients u.acts place before
  there = seat_at 0 now.run u.waiting session.clients now.seats u.acts place before u.seats m.seat_at

  abbrev acts_now : List (List Act)
  acts_now = slice_set u.acts place (there.own ++ acts)

  pub is_there : IsSeatOf script place now.run u.waiting before there.own
  is_there = subst (λ x. IsSeatOf x place now.run u.waiting before there.own) (some_same (sym there.script_at ∙ m.script_at))
      (subst (λ n. IsSeatOf there.script n now.run u.waiting before there.own) (let k : 0 + place ≡ place = omega arith in k) there.is)

  pub made_there : MadeAtOnce (place + 1) now.run acts r
  made_there = subst (λ n. MadeAtOnce n now.run acts r) is_there.number m.made

  pub seats_moved : (later : List BegunAt) → ClientStep script.blocks before.client acts seat.client → seat.client.number ≡ before.client.number → seat.client.txs ≡ txs_at place later
      → ((at : ℕ) → at ≢ place → txs_at at later ≡ txs_at at u.waiting) → AreSeats 0 r later session.clients (slice_set now.seats place seat) acts_now
  seats_moved later moves number txs others = seats_changed 0 now.run r u.waiting later session.clients now.seats u.acts place script seat (there.own ++ acts) u.seats m.script_at
      (subst (λ n. IsSeatOf script n r later seat (there.own ++ acts)) (let k : place ≡ 0 + place = omega arith in k) (record {
        runs = StepsOn there.own acts before.client seat.client is_there.runs moves;
        agrees = agrees_own (place + 1) now.run r there.own acts is_there.agrees made_there;
        number = number ∙ is_there.number;
        lines = m.lines ∙ ap (λ ns. ns ++ notes_of_acts acts) is_there.lines ∙ sym (flat_map-append notes_of_act there.own acts);
        txs = txs;
      }))
      (λ other at s own out is. record {
        runs = is.runs;
        agrees = agrees_other (place + 1) (at + 1) now.run r own acts (apart at out) is.agrees made_there;
        number = is.number;
        lines = is.lines;
        txs = is.txs ∙ sym (others at (λ e. out (e ∙ (let k : place ≡ 0 + place = omega arith in k))));
      })
    where
      apart : (at : ℕ) → at ≢ 0 + place → at + 1 ≢ place + 1
      apart at out e = out (let k = e in omega (arith, k))

  pub durable_there : (number : ℕ) (tx : ClientTx) → tx_at before.client number ≡ Some tx → durability_drawn r.order number ≡ durability_drawn now.run.order number
  durable_there number tx found = durable_still (place + 1) now.run r acts made_there m.run u.acts running u.done u.waiting u.begun place number tx (ap (find (is_tx number)) (sym is_there.txs) ∙ found)

  pub still_shown : ShowsItems r.opening opening
  still_shown = subst (λ (q : DeskRun). ShowsItems q.opening opening) (sym (made_order (place + 1) now.run r acts made_there)) u.shows

  pub still_theirs : AreOfClients (length session.clients) r.order
  still_theirs = made_theirs (length session.clients) (place + 1) now.run r acts (omega arith) (let k = slice_get_within session.clients place script m.script_at in omega (arith, k)) u.theirs made_there

  -- no transaction starts or leaves
  pub order_calm : ((number : ℕ) → is_started (steps_of acts) number ≡ false) → ((number : ℕ) → has_left (steps_of acts) number ≡ false) → HasFinishOrder r.order now.finish
  order_calm none quiet = subst (λ (q : DeskRun). HasFinishOrder q.order now.finish) (sym (made_order (place + 1) now.run r acts made_there)) (order_still now.run.order now.finish u.finish_order (steps_of acts) none quiet)

  pub still_behind : AllByRecursion (FitsFault r.order) u.entries
  still_behind = subst (λ (q : DeskRun). AllByRecursion (FitsFault q.order) u.entries) (sym (made_order (place + 1) now.run r acts made_there)) (fits_longer now.run.order (steps_of acts) u.entries u.behind)

  -- the transactions that finished are as they were
  pub assembled : (next : Option RunningTx) (later : List BegunAt) → HasFinishOrder r.order now.finish → AreSeats 0 r later session.clients (slice_set now.seats place seat) acts_now → HasBegun r acts_now next u.done later
      → AllByRecursion (λ (b : BegunAt). IsSilent b.tx.number acts) u.done → HasFaults r.order next u.entries → IsUnderWay session opening (with_seat place r seat now) next
  assembled next later ordered seats begun silent faults = record {
    in_step = record {
      acts = acts_now;
      done = u.done;
      waiting = later;
      entries = u.entries;
      shows = still_shown;
      desk = m.run;
      theirs = still_theirs;
      seats = seats;
      begun = begun;
      finished = record {
        each = finished_still now.run r u.acts place there.own acts there.own_at made_there u.done u.entries silent u.finished.each;
        serial = u.finished.serial;
        items = u.finished.items;
        finish = u.finished.finish;
        commits = u.finished.commits ∙ sym (logged_still (place + 1) now.run r acts made_there m.run u.acts running u.done u.waiting u.begun u.entries u.finished.each);
        doubts = u.finished.doubts ∙ sym (doubted_still (place + 1) now.run r acts made_there m.run u.acts running u.done u.waiting u.begun u.entries u.finished.each);
      };
      finish_order = ordered;
      behind = still_behind;
    };
    faults = faults;
  }

  pub tame_in_step : ClientStep script.blocks before.client acts seat.client → Grows before.client acts seat.client → HasFaults r.order running u.entries → IsUnderWay session opening (with_seat place r seat now) running
  tame_in_step moves g faults =
      let draws = subst (λ n. Draws (desk_run now.run) (map (shown_tx n) (txs_begun acts)) (desk_run r)) is_there.number (g.desk now.run r m.made m.run) in
      let new = map (begun_at place) (txs_begun acts) in
      assembled running (u.waiting ++ new)
      (order_calm (λ n. silent_starts n acts (tame_silent n acts g.tame)) (λ n. quiet_lefts n acts (tame_silent n acts g.tame)))
      (seats_moved (u.waiting ++ new) moves g.number (g.txs ∙ ap (λ txs. txs ++ txs_begun acts) is_there.txs ∙ sym (txs_more place u.waiting (txs_begun acts))) (λ at out. txs_still place at u.waiting (txs_begun acts) out))
      (begun_grows now.run r u.acts place there.own acts there.own_at made_there running u.done u.waiting u.begun g.tame g.fresh draws)
      (none_silent acts u.done (λ n. tame_silent n acts g.tame)) faults

pub tame_under_way : (session : ScriptSession) (opening : Items) (now : SessionNow) (running : Option RunningTx) (place : ℕ) (script : Client) (before seat : SeatNow) (acts : List Act) (r : DeskRun)
    → IsUnderWay session opening now running → Moves session now place script before acts r seat → ClientStep script.blocks before.client acts seat.client → Grows before.client acts seat.client → IsUnderWay session opening (with_seat place r seat now) running
tame_under_way session opening now running place script before seat acts r u m moves g = tame_in_step session opening now running place script before seat acts r u.in_step m moves g
    (faults_still now.run.order r.order running u.in_step.entries u.faults running (made_faults before.client.number now.run r acts m.made) u.faults.stopped)

-- ---- a transaction starts
others_started : (place : ℕ) (b : BegunAt) (rest : List BegunAt) → b.place ≡ place → (at : ℕ) → at ≢ place → txs_at at (as_started b ∷ rest) ≡ txs_at at (b ∷ rest)
others_started place b rest here at out =
    let no : (b.place == at) ≡ false = unequal b.place at (λ e. out (sym e ∙ here)) in
    ap (λ t. if t then record b.tx { started = true } ∷ txs_at at rest else txs_at at rest) no ∙ sym (ap (λ t. if t then b.tx ∷ txs_at at rest else txs_at at rest) no)

pub others_left : (place : ℕ) (b : BegunAt) (rest : List BegunAt) → b.place ≡ place → (at : ℕ) → at ≢ place → txs_at at rest ≡ txs_at at (b ∷ rest)
others_left place b rest here at out = sym (ap (λ t. if t then b.tx ∷ txs_at at rest else txs_at at rest) (unequal b.place at (λ e. out (sym e ∙ here))))

pub own_here : (place : ℕ) (b : BegunAt) (rest : List BegunAt) → b.place ≡ place → txs_at place (b ∷ rest) ≡ b.tx ∷ txs_at place rest
own_here place b rest here = ap (λ t. if t then b.tx ∷ txs_at place rest else txs_at place rest) (ap (λ n. n == place) here ∙ equal_self place)

module _ (session : ScriptSession) (opening : Items) (now : SessionNow) (place : ℕ) (script : Client) (before seat : SeatNow) (r : DeskRun) (told : Told) (tx : ClientTx) (idle : before.client.tasks ≡ []) where
  -- of the first that waits
  start_first : (u : IsInStep session opening now None) (b : BegunAt) (rest : List BegunAt) → HasFaults now.run.order None u.entries → u.waiting ≡ b ∷ rest → tx.started ≡ false → may_begin tx.body ≡ true
      → Moves session now place script before (Makes (step.Starts before.client.number b.tx.number) told ∷ []) r seat → tx_at before.client b.tx.number ≡ Some tx → seat.client ≡ with_started before.client b.tx.number
      → IsUnderWay session opening (with_seat place r seat now) (Some (record { number = b.tx.number; body = tx.body; turns = [] }))
  start_first u b rest faults are waits begins m found is =
      let acts = Makes (step.Starts before.client.number b.tx.number) told ∷ [] in
      let at = there session opening now None place script before seat acts r u m in
      let here = is_there session opening now None place script before seat acts r u m in
      let made = made_there session opening now None place script before seat acts r u m in
      let begun = subst (HasBegun now.run u.acts None u.done) are u.begun in
      let apart = first_apart (desk_run now.run).board.scopes.next u.done b rest begun.numbers in
      let own : before.client.txs ≡ txs_at place (b ∷ rest) = here.txs ∙ ap (txs_at place) are in
      let first = found_first place b rest tx apart.1 (ap (find (is_tx b.tx.number)) (sym own) ∙ found) in
      let moves = subst (ClientStep script.blocks before.client acts) (sym is) (StartsTx tx b.tx.number told idle found waits begins) in
      assembled session opening now None place script before seat acts r u m (Some (record { number = b.tx.number; body = tx.body; turns = [] })) (as_started b ∷ rest)
      (subst (λ (q : DeskRun). HasFinishOrder q.order now.finish) (sym (made_order (place + 1) now.run r acts made))
      (order_started now.run.order now.finish u.finish_order before.client.number b.tx.number (ap (λ (x : ToldTx). x.left) begun.each.0.told)))
      (seats_moved session opening now None place script before seat acts r u m (as_started b ∷ rest) moves (ap (λ (c : ClientState). c.number) is)
      (ap (λ (c : ClientState). c.txs) is ∙ ap (map (started_if b.tx.number)) (own ∙ own_here place b rest first.0)
      ∙ ap (λ t. (if t then record b.tx { started = true } else b.tx) ∷ map (started_if b.tx.number) (txs_at place rest)) (equal_self b.tx.number)
      ∙ ap (λ txs. record b.tx { started = true } ∷ txs) (started_apart place b.tx.number rest apart.1)
      ∙ sym (own_here place (as_started b) rest first.0))
      (λ other out. others_started place b rest first.0 other out ∙ ap (txs_at other) (sym are)))
      (subst (λ body. HasBegun r (slice_set u.acts place (at.own ++ acts)) (Some (record { number = b.tx.number; body = body; turns = [] })) u.done (as_started b ∷ rest)) (ap (λ (x : ClientTx). x.body) first.1)
      (begun_starts now.run r u.acts place before.client.number at.own told u.done rest b at.own_at made m.run begun first.0))
      (apart_silent acts b.tx.number u.done (start_others now.run r u.acts place before.client.number at.own told u.done rest b at.own_at made m.run begun first.0) apart.0)
      (faults_still now.run.order r.order None u.entries faults (Some (record { number = b.tx.number; body = tx.body; turns = [] })) (made_faults (place + 1) now.run r acts made)
      (λ k. absurd (no (sym k ∙ start_calm (place + 1) before.client.number b.tx.number now.run r told made m.run))))
    where
      no : true ≡ false → ⊥
      no k = cc

  abbrev StartsInto : ℕ → Type 0
  StartsInto number = Moves session now place script before (Makes (step.Starts before.client.number number) told ∷ []) r seat → tx_at before.client number ≡ Some tx → seat.client ≡ with_started before.client number
      → IsUnderWay session opening (with_seat place r seat now) (Some (record { number = number; body = tx.body; turns = [] }))

  pub start_under_way : ((q : DeskRun) → IsDeskRun q → IsSound (desk_run q)) → (number : ℕ) → IsUnderWay session opening now None → least_of (desk_run now.run) ≡ Some number → tx.started ≡ false → may_begin tx.body ≡ true → StartsInto number
  start_under_way sound number u least waits begins =
      let f = waits_first sound now.run number u.in_step.waiting u.in_step.desk least u.in_step.begun.unfinished in
      subst StartsInto f.1.1.1 (start_first u.in_step f.0 f.1.0 u.faults f.1.1.0 waits begins)

-- ---- a transaction has a turn
module _ (session : ScriptSession) (opening : Items) (now : SessionNow) (place : ℕ) (script : Client) (before seat : SeatNow) (r : DeskRun) (t : RunningTx) (notes : List Note) (tx : ClientTx) (idle : before.client.tasks ≡ []) where
  turn_first : (u : IsInStep session opening now (Some t)) (b : BegunAt) (rest : List BegunAt) → HasFaults now.run.order (Some t) u.entries → u.waiting ≡ b ∷ rest → tx.started ≡ true
      → Moves session now place script before (TakesTurn b.tx.number notes ∷ []) r seat → tx_at before.client b.tx.number ≡ Some tx → seat.client ≡ with_notes before.client notes
      → IsUnderWay session opening (with_seat place r seat now) (Some (record t { turns = t.turns ++ notes ∷ [] }))
  turn_first u b rest faults are runs m found is =
      let acts = TakesTurn b.tx.number notes ∷ [] in
      let at = there session opening now (Some t) place script before seat acts r u m in
      let here = is_there session opening now (Some t) place script before seat acts r u m in
      let made = made_there session opening now (Some t) place script before seat acts r u m in
      let begun = subst (HasBegun now.run u.acts (Some t) u.done) are u.begun in
      let apart = first_apart (desk_run now.run).board.scopes.next u.done b rest begun.numbers in
      let own : before.client.txs ≡ txs_at place (b ∷ rest) = here.txs ∙ ap (txs_at place) are in
      let first = found_first place b rest tx apart.1 (ap (find (is_tx b.tx.number)) (sym own) ∙ found) in
      let moves = subst (ClientStep script.blocks before.client acts) (sym is) (RunsTurn tx b.tx.number notes idle found runs) in
      let same = notes_txs notes before.client in
      assembled session opening now (Some t) place script before seat acts r u m (Some (record t { turns = t.turns ++ notes ∷ [] })) (b ∷ rest)
      (order_calm session opening now (Some t) place script before seat acts r u m (λ n. refl) (λ n. refl))
      (seats_moved session opening now (Some t) place script before seat acts r u m (b ∷ rest) moves (ap (λ (c : ClientState). c.number) is ∙ same.1)
      (ap (λ (c : ClientState). c.txs) is ∙ same.0 ∙ own) (λ other out. ap (txs_at other) (sym are)))
      (begun_turns now.run r u.acts place at.own t notes u.done rest b at.own_at made begun first.0)
      (apart_silent acts b.tx.number u.done (turn_others now.run r u.acts place at.own t notes u.done rest b at.own_at made begun first.0) apart.0)
      (faults_still now.run.order r.order (Some t) u.entries faults (Some (record t { turns = t.turns ++ notes ∷ [] })) (made_faults (place + 1) now.run r acts made)
      (λ k. absurd (no (sym k ∙ running_calm now.run.order t u.entries faults))))
    where
      no : true ≡ false → ⊥
      no k = cc

  abbrev TurnsInto : ℕ → Type 0
  TurnsInto number = Moves session now place script before (TakesTurn number notes ∷ []) r seat → tx_at before.client number ≡ Some tx → seat.client ≡ with_notes before.client notes
      → IsUnderWay session opening (with_seat place r seat now) (Some (record t { turns = t.turns ++ notes ∷ [] }))

  pub turn_under_way : IsUnderWay session opening now (Some t) → tx.started ≡ true → TurnsInto t.number
  turn_under_way u runs =
      let f = runs_first t u.in_step.waiting u.in_step.begun.first in
      subst TurnsInto f.1.1.1 (turn_first u.in_step f.0 f.1.0 u.faults f.1.1.0 runs)
