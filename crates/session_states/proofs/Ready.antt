-- What a session under way tells of its clients.
--     seat_tied             each client's transactions are those of the desk that it made
--     least_ready           the least unfinished transaction is a client's, and may start
use Rattle.std.proofs.Common.{◌≡◌, ℕ, zero, suc, ◌+◌, ◌<◌, true, false, not, ◌&&◌, List, [], ◌∷◌, ◌++◌, map, filter, length, slice_get, if◌then◌else◌, Option, Some, None, inl, inr, refl, sym, ◌∙◌, ap, subst, arith}
use Rattle.std.specs.Prelude.{◌==◌}
use Rattle.std.specs.List.{find, AllByRecursion}
use Rattle.std.specs.List.Sorted.{IsPermutation}
use Rattle.std.proofs.lemmas.Bool.{cases_Bool}
use Rattle.std.proofs.lemmas.Bool.Decides.{eqb_tells}
use Rattle.std.proofs.lemmas.List.Elements.{All-from_recursion, recursion_from_All}
use Rattle.std.proofs.lemmas.List.Sorted.{All-permutation}
use Rattle.scope_desk.specs.Starts.{may_start}
use Rattle.scope_desk.specs.declared.unfinished.MayStart.TheVariants.{Go}
use Rattle.desk_steps.specs.declared.stands.DrawnTx.{DrawnTx}
use Rattle.desk_steps.specs.declared.steps.DeskStep.{DeskStep}
use Rattle.desk_steps.specs.declared.steps.DeskStep.TheVariants as step
use Rattle.idb_desk.specs.Desks.{DeskState, drawn_at}
use Rattle.idb_desk.specs.Refusals.{is_allowed, is_to_start, is_created_stage, is_go}
use Rattle.idb_desk.specs.Steps.{DeskRun, desk_run, IsDeskRun}
use Rattle.item_changes.specs.Items.{Items}
use Rattle.script_statements.specs.declared.script.Client.{Client}
use Rattle.script_statements.specs.declared.script.ScriptSession.{ScriptSession}
use Rattle.client_ties.specs.Acts.{Act, txs_begun}
use Rattle.client_ties.specs.ClientStates.{ClientTx, is_tx}
use Rattle.client_ties.specs.Unfinished.{unfinished_of, is_made_by, least_of}
use Rattle.client_ties.specs.Ties.{shown_tx, IsTied}
use Rattle.client_ties.proofs.Laws.{IsSound, first_drawn}
use Rattle.session_states.specs.Sessions.{SeatNow, SessionNow}
use Rattle.session_states.specs.Telling.{BegunAt, begun_at, begun_from, txs_at, shown_begun, as_begun, RunningTx}
use Rattle.session_states.specs.UnderWay.{IsWaiting, IsSeatOf, AreSeats, IsInStep, IsUnderWay}
use Rattle.session_states.specs.Moves.{HasReady}
use Rattle.session_states.proofs.Placed.{seat_at}
use Rattle.session_states.proofs.Beginnings.{some_same, equal, equal_self, unequal}
use Rattle.session_states.proofs.Moving.{own_here, waits_first}

-- ---- ties
next_same : (a b : ℕ) → (a + 1 == b + 1) ≡ (a == b)
next_same a b = elim (eqb_tells a b) [
  | inl p ↦ ap (λ n. n + 1 == b + 1) p.1 ∙ equal_self (b + 1) ∙ sym p.0
  | inr p ↦ unequal (a + 1) (b + 1) (λ e. p.1 (let k = e in omega (arith, k))) ∙ sym p.0
]

own_begun : (place : ℕ) (bs : List BegunAt) → filter (is_made_by (place + 1)) (map shown_begun bs) ≡ map (shown_tx (place + 1)) (txs_at place bs)
own_begun place [] = refl
own_begun place (b ∷ bs) = elim (cases_Bool (b.place == place)) [
  | inl is ↦ ap (λ t. if t then shown_begun b ∷ filter (is_made_by (place + 1)) (map shown_begun bs) else filter (is_made_by (place + 1)) (map shown_begun bs)) (next_same b.place place ∙ is)
      ∙ ap (λ n. shown_tx (n + 1) b.tx ∷ filter (is_made_by (place + 1)) (map shown_begun bs)) (equal b.place place is)
      ∙ ap (λ us. shown_tx (place + 1) b.tx ∷ us) (own_begun place bs)
      ∙ sym (ap (λ t. map (shown_tx (place + 1)) (if t then b.tx ∷ txs_at place bs else txs_at place bs)) is)
  | inr out ↦ ap (λ t. if t then shown_begun b ∷ filter (is_made_by (place + 1)) (map shown_begun bs) else filter (is_made_by (place + 1)) (map shown_begun bs)) (next_same b.place place ∙ out)
      ∙ own_begun place bs
      ∙ sym (ap (λ t. map (shown_tx (place + 1)) (if t then b.tx ∷ txs_at place bs else txs_at place bs)) out)
]

seat_here : (session : ScriptSession) (opening : Items) (now : SessionNow) (running : Option RunningTx) (place : ℕ) (seat : SeatNow) (u : IsInStep session opening now running) → slice_get now.seats place ≡ Some seat
    → (script : Client) × ((own : List Act) × ((slice_get session.clients place ≡ Some script) × (IsSeatOf script place now.run u.waiting seat own)))
seat_here session opening now running place seat u at =
    let h = seat_at 0 now.run u.waiting session.clients now.seats u.acts place seat u.seats at in
    (h.script, (h.own, (h.script_at, subst (λ n. IsSeatOf h.script n now.run u.waiting seat h.own) (let k : 0 + place ≡ place = omega arith in k) h.is)))

pub seat_tied : (session : ScriptSession) (opening : Items) (now : SessionNow) (running : Option RunningTx) (place : ℕ) (seat : SeatNow) → IsInStep session opening now running → slice_get now.seats place ≡ Some seat
    → IsTied (desk_run now.run) seat.client × (seat.client.number ≡ place + 1)
seat_tied session opening now running place seat u at =
    let h = seat_here session opening now running place seat u at in
    let is = h.1.1.1 in (
      record {
        txs = ap (λ n. filter (is_made_by n) (unfinished_of (desk_run now.run))) is.number ∙ ap (filter (is_made_by (place + 1))) u.begun.unfinished ∙ own_begun place u.waiting
            ∙ ap (map (shown_tx (place + 1))) (sym is.txs) ∙ ap (λ n. map (shown_tx n) seat.client.txs) (sym is.number);
      },
      is.number,
    )

-- ---- places
places_below : (first : ℕ) (acts : List (List Act)) → AllByRecursion (λ (b : BegunAt). b.place < first + length acts) (begun_from first acts)
places_below first [] = tt
places_below first (a ∷ more) = all_begun (raised (begun_from (first + 1) more) (places_below (first + 1) more)) (txs_begun a)
  where
    raised : (bs : List BegunAt) → AllByRecursion (λ (b : BegunAt). b.place < (first + 1) + length more) bs → AllByRecursion (λ (b : BegunAt). b.place < first + length (a ∷ more)) bs
    raised [] all = tt
    raised (b ∷ bs) all = ((let k = all.0 in omega (arith, k)), raised bs all.1)

    all_begun : AllByRecursion (λ (b : BegunAt). b.place < first + length (a ∷ more)) (begun_from (first + 1) more) → (txs : List ClientTx) → AllByRecursion (λ (b : BegunAt). b.place < first + length (a ∷ more)) (map (begun_at first) txs ++ begun_from (first + 1) more)
    all_begun behind [] = behind
    all_begun behind (tx ∷ txs) = (omega arith, all_begun behind txs)

first_behind : (count : ℕ) (done : List BegunAt) (b : BegunAt) (rest : List BegunAt) → AllByRecursion (λ (x : BegunAt). x.place < count) (map as_begun (done ++ b ∷ rest)) → b.place < count
first_behind count [] b rest all = all.0
first_behind count (d ∷ done) b rest all = first_behind count done b rest all.1

seat_found : (first : ℕ) (r : DeskRun) (waiting : List BegunAt) (scripts : List Client) (seats : List SeatNow) (acts : List (List Act)) (place : ℕ) → AreSeats first r waiting scripts seats acts → place < length acts → (seat : SeatNow) × (slice_get seats place ≡ Some seat)
seat_found first r waiting [] [] [] place are less = absurd (no place less)
  where
    no : (n : ℕ) → n < 0 → ⊥
    no n k = omega (arith, k)
seat_found first r waiting [] [] (a ∷ more) place are less = absurd are
seat_found first r waiting [] (s ∷ ss) acts place are less = absurd are
seat_found first r waiting (c ∷ cs) [] acts place are less = absurd are
seat_found first r waiting (c ∷ cs) (s ∷ ss) [] place are less = absurd are
seat_found first r waiting (c ∷ cs) (s ∷ ss) (a ∷ more) zero are less = (s, refl)
seat_found first r waiting (c ∷ cs) (s ∷ ss) (a ∷ more) (suc place) are less = seat_found (first + 1) r waiting cs ss more place are.1 (omega (arith, less))

-- ---- the least
may_begin_there : (d : DeskState) (client number : ℕ) (t : DrawnTx) → d.board.is_faulted ≡ false → drawn_at d.board.drawn number ≡ Some t → t.who.client ≡ client → is_created_stage t.stage ≡ true → may_start d.board.scopes number ≡ Go → is_allowed d (step.Starts client number) ≡ true
may_begin_there d client number t calm at own created go =
    ap (λ x. not x && (is_to_start client (drawn_at d.board.drawn number) && is_go (may_start d.board.scopes number))) calm
    ∙ ap (λ o. is_to_start client o && is_go (may_start d.board.scopes number)) at
    ∙ ap (λ x. (x && is_created_stage t.stage) && is_go (may_start d.board.scopes number)) (ap (λ n. n == client) own ∙ equal_self client)
    ∙ ap (λ x. x && is_go (may_start d.board.scopes number)) created
    ∙ ap is_go go

first_waits : (order : List DeskStep) (acts : List (List Act)) (waiting : List BegunAt) (b : BegunAt) (rest : List BegunAt) → waiting ≡ b ∷ rest → AllByRecursion (IsWaiting order acts None) waiting → b.tx.started ≡ false
first_waits order acts waiting b rest are all = (subst (AllByRecursion (IsWaiting order acts None)) are all).0.started

first_seated : (acts : List (List Act)) (done waiting : List BegunAt) (b : BegunAt) (rest : List BegunAt) → waiting ≡ b ∷ rest → IsPermutation (begun_from 0 acts) (map as_begun (done ++ waiting)) → b.place < length acts
first_seated acts done waiting b rest are all =
    let P : BegunAt → Type 0 = λ x. x.place < 0 + length acts in
    let below = recursion_from_All P (map as_begun (done ++ b ∷ rest)) (All-permutation P (begun_from 0 acts) (map as_begun (done ++ b ∷ rest)) (subst (λ ws. IsPermutation (begun_from 0 acts) (map as_begun (done ++ ws))) are all)
    (All-from_recursion P (begun_from 0 acts) (places_below 0 acts))) in
    let less = first_behind (0 + length acts) done b rest below in
    omega (arith, less)

pub least_ready : ((q : DeskRun) → IsDeskRun q → IsSound (desk_run q)) → (session : ScriptSession) (opening : Items) (now : SessionNow) (number : ℕ) (t : DrawnTx) → IsUnderWay session opening now None → least_of (desk_run now.run) ≡ Some number
    → may_start (desk_run now.run).board.scopes number ≡ Go → drawn_at (desk_run now.run).board.drawn number ≡ Some t → HasReady session now number t
least_ready sound session opening now number t way least go at =
    let u = way.in_step in
    let f = waits_first sound now.run number u.waiting u.desk least u.begun.unfinished in
    let b = f.0 in
    let drawn = first_drawn (desk_run now.run) (shown_begun b) (map shown_begun f.1.0) (u.begun.unfinished ∙ ap (map shown_begun) f.1.1.0) in
    let same : drawn.tx ≡ t = some_same (sym drawn.found ∙ ap (drawn_at (desk_run now.run).board.drawn) f.1.1.1 ∙ at) in
    let own : t.who.client ≡ b.place + 1 = ap (λ (x : DrawnTx). x.who.client) (sym same) ∙ drawn.client in
    let waits : b.tx.started ≡ false = first_waits now.run.order u.acts u.waiting b f.1.0 f.1.1.0 u.begun.each in
    let created : is_created_stage t.stage ≡ true = ap (λ (x : DrawnTx). is_created_stage x.stage) (sym same) ∙ drawn.stage_is ∙ ap not waits in
    let below : b.place < length u.acts = first_seated u.acts u.done u.waiting b f.1.0 f.1.1.0 u.begun.all in
    let found = seat_found 0 now.run u.waiting session.clients now.seats u.acts b.place u.seats below in
    let h = seat_here session opening now None b.place found.0 u found.1 in
    let is = h.1.1.1 in
    let number_is : found.0.client.number ≡ b.place + 1 = is.number in
    record {
      place = b.place;
      script = h.0;
      seat = found.0;
      tx = b.tx;
      client = own;
      script_at = h.1.1.0;
      seat_at = found.1;
      client_number = number_is;
      found = ap (find (is_tx number)) (is.txs ∙ ap (txs_at b.place) f.1.1.0 ∙ own_here b.place b f.1.0 refl)
          ∙ ap (λ x. if x then Some b.tx else find (is_tx number) (txs_at b.place f.1.0)) (ap (λ n. n == number) f.1.1.1 ∙ equal_self number);
      waits = waits;
      allowed = λ calm. may_begin_there (desk_run now.run) found.0.client.number number t calm at (own ∙ sym number_is) created go;
    }
