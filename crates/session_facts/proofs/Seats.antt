-- The clients of a session under way, by their places.
--     seat_there            a client's number and its transactions, by its place
--     runs_as               the transaction that runs began with what its client has
--     first_started         it was started at the desk
--     all_set, all_got      one of many changed;  one of many
use Rattle.std.proofs.Common.{◌≡◌, ◌≢◌, ℕ, zero, suc, ◌+◌, true, false, not, if◌then◌else◌, List, [], ◌∷◌, map, slice_get, slice_set, Option, Some, inl, inr, refl, sym, ◌∙◌, ap, subst, arith}
use Rattle.std.specs.Prelude.{◌==◌}
use Rattle.std.specs.List.{find, AllByRecursion}
use Rattle.std.proofs.lemmas.Bool.{cases_Bool}
use Rattle.idb_desk.specs.Desks.{DeskState, drawn_at}
use Rattle.idb_desk.specs.Refusals.{is_created_stage}
use Rattle.idb_desk.specs.Steps.{DeskRun, desk_run}
use Rattle.desk_steps.specs.declared.stands.DrawnTx.{DrawnTx}
use Rattle.desk_steps.specs.declared.steps.DeskStep.{DeskStep}
use Rattle.item_changes.specs.Items.{Items}
use Rattle.script_statements.specs.declared.script.Client.{Client}
use Rattle.script_statements.specs.declared.script.ScriptSession.{ScriptSession}
use Rattle.client_machine.specs.Acts.{Act}
use Rattle.client_machine.specs.ClientStates.{ClientTx, ClientState, is_tx, tx_at}
use Rattle.client_ties.specs.Unfinished.{unfinished_of}
use Rattle.client_ties.proofs.Laws.{first_drawn}
use Rattle.session_states.specs.Sessions.{SeatNow, SessionNow}
use Rattle.session_states.specs.Telling.{BegunAt, txs_at, shown_begun, RunningTx}
use Rattle.session_states.specs.UnderWay.{AreSeats, IsWaiting, IsFirstWaiting, IsInStep}
use Rattle.session_facts.proofs.Desk.{some_same, equal, equal_self}

-- ---- lists
pub all_got : {X : Type 0} (P : X → Type 0) (xs : List X) (i : ℕ) (x : X) → AllByRecursion P xs → slice_get xs i ≡ Some x → P x
all_got P [] i x all e = cc
all_got P (y ∷ ys) zero x all e = subst P (some_same e) all.0
all_got P (y ∷ ys) (suc i) x all e = all_got P ys i x all.1 e

zero_apart : (i : ℕ) → zero ≢ suc i
zero_apart i e = omega (arith, e)

all_others : {X : Type 0} (P Q : X → Type 0) (xs : List X) → ((j : ℕ) (x : X) → slice_get xs j ≡ Some x → P x → Q x) → AllByRecursion P xs → AllByRecursion Q xs
all_others P Q [] f all = tt
all_others P Q (x ∷ xs) f all = (f zero x refl all.0, all_others P Q xs (λ j y e p. f (suc j) y e p) all.1)

pub all_set : {X : Type 0} (P Q : X → Type 0) (xs : List X) (i : ℕ) (y : X) → ((j : ℕ) (x : X) → slice_get xs j ≡ Some x → j ≢ i → P x → Q x) → AllByRecursion P xs → Q y → AllByRecursion Q (slice_set xs i y)
all_set P Q [] i y f all q = tt
all_set P Q (x ∷ xs) zero y f all q = (q, all_others P Q xs (λ j z e p. f (suc j) z e (λ k. zero_apart j (sym k)) p) all.1)
all_set P Q (x ∷ xs) (suc i) y f all q = (f zero x refl (zero_apart i) all.0, all_set P Q xs i y (λ j z e out p. f (suc j) z e (λ k. out (let n : j ≡ i = omega (arith, k) in n)) p) all.1 q)

-- the one of a number
pub tx_found : (P : ClientTx → Type 0) (c : ClientState) (number : ℕ) (tx : ClientTx) → AllByRecursion P c.txs → tx_at c number ≡ Some tx → P tx × (tx.number ≡ number)
tx_found P c number tx all e = found c.txs all e
  where
    found : (txs : List ClientTx) → AllByRecursion P txs → find (is_tx number) txs ≡ Some tx → P tx × (tx.number ≡ number)
    found [] every k = cc
    found (x ∷ xs) every k = elim (cases_Bool (is_tx number x)) [
      | inl is ↦
          let same : x ≡ tx = some_same (sym (ap (λ b. if b then Some x else find (is_tx number) xs) is) ∙ k) in
          (subst P same every.0, ap (λ (y : ClientTx). y.number) (sym same) ∙ equal x.number number is)
      | inr out ↦ found xs every.1 (sym (ap (λ b. if b then Some x else find (is_tx number) xs) out) ∙ k)
    ]

-- ---- places
seat_from : (first : ℕ) (r : DeskRun) (waiting : List BegunAt) (scripts : List Client) (seats : List SeatNow) (acts : List (List Act)) (place : ℕ) (seat : SeatNow) → AreSeats first r waiting scripts seats acts → slice_get seats place ≡ Some seat
    → (seat.client.number ≡ (first + place) + 1) × (seat.client.txs ≡ txs_at (first + place) waiting)
seat_from first r waiting scripts [] acts place seat are e = cc
seat_from first r waiting [] (s ∷ ss) acts place seat are e = absurd are
seat_from first r waiting (c ∷ cs) (s ∷ ss) [] place seat are e = absurd are
seat_from first r waiting (c ∷ cs) (s ∷ ss) (a ∷ more) zero seat are e =
    let same : s ≡ seat = some_same e in
    let at : first ≡ first + zero = omega arith in (
      ap (λ (x : SeatNow). x.client.number) (sym same) ∙ are.0.number ∙ ap (λ n. n + 1) at,
      ap (λ (x : SeatNow). x.client.txs) (sym same) ∙ are.0.txs ∙ ap (λ n. txs_at n waiting) at,
    )
seat_from first r waiting (c ∷ cs) (s ∷ ss) (a ∷ more) (suc place) seat are e =
    let h = seat_from (first + 1) r waiting cs ss more place seat are.1 e in
    let at : (first + 1) + place ≡ first + suc place = omega arith in
    (h.0 ∙ ap (λ n. n + 1) at, h.1 ∙ ap (λ n. txs_at n waiting) at)

module _ (session : ScriptSession) (opening : Items) (now : SessionNow) where
  pub seat_there : (running : Option RunningTx) (place : ℕ) (seat : SeatNow) (u : IsInStep session opening now running) → slice_get now.seats place ≡ Some seat → (seat.client.number ≡ place + 1) × (seat.client.txs ≡ txs_at place u.waiting)
  seat_there running place seat u at =
      let h = seat_from 0 now.run u.waiting session.clients now.seats u.acts place seat u.seats at in
      let same : 0 + place ≡ place = omega arith in
      (h.0 ∙ ap (λ n. n + 1) same, h.1 ∙ ap (λ n. txs_at n u.waiting) same)

  pub apart_numbers : (running : Option RunningTx) (place other : ℕ) (seat its : SeatNow) (u : IsInStep session opening now running) → slice_get now.seats place ≡ Some seat → slice_get now.seats other ≡ Some its → other ≢ place → its.client.number ≢ seat.client.number
  apart_numbers running place other seat its u at there out e =
      let a = (seat_there running place seat u at).0 in
      let b = (seat_there running other its u there).0 in
      out (let k : other ≡ place = omega (arith, a, b, e) in k)

-- ---- the one that runs
abbrev RunsAs : RunningTx → ClientTx → Type 0
RunsAs t tx = tx.number ≡ t.number → (tx.body ≡ t.body) × (tx.started ≡ true)

waits_as : (order : List DeskStep) (acts : List (List Act)) (t : RunningTx) (b : BegunAt) → IsWaiting order acts (Some t) b → RunsAs t b.tx
waits_as order acts t b w same =
    let is : (t.number == b.tx.number) ≡ true = ap (λ n. t.number == n) same ∙ equal_self t.number in
    (sym w.body ∙ ap (λ s. if s then t.body else b.tx.body) is, w.started ∙ is)

all_as : (order : List DeskStep) (acts : List (List Act)) (t : RunningTx) (place : ℕ) (bs : List BegunAt) → AllByRecursion (IsWaiting order acts (Some t)) bs → AllByRecursion (RunsAs t) (txs_at place bs)
all_as order acts t place [] all = tt
all_as order acts t place (b ∷ bs) all = elim (b.place == place) as (λ s. AllByRecursion (RunsAs t) (if s then b.tx ∷ txs_at place bs else txs_at place bs)) [
  | true ↦ (waits_as order acts t b all.0, all_as order acts t place bs all.1)
  | false ↦ all_as order acts t place bs all.1
]

-- the first that waits is shown as started
pub record StartedAs (d : DeskState) (number : ℕ) : Type 0 where
  pub tx : DrawnTx
  pub found : drawn_at d.board.drawn number ≡ Some tx
  pub started : is_created_stage tx.stage ≡ false

started_first : (d : DeskState) (order : List DeskStep) (acts : List (List Act)) (t : RunningTx) (waiting : List BegunAt) → unfinished_of d ≡ map shown_begun waiting → IsFirstWaiting (Some t) waiting → AllByRecursion (IsWaiting order acts (Some t)) waiting → StartedAs d t.number
started_first d order acts t [] shown first all = absurd first
started_first d order acts t (b ∷ bs) shown first all =
    let drawn = first_drawn d (shown_begun b) (map shown_begun bs) shown in
    record {
      tx = drawn.tx;
      found = ap (drawn_at d.board.drawn) (sym first) ∙ drawn.found;
      started = drawn.stage_is ∙ ap not (waits_as order acts t b all.0 first).1;
    }

module _ (session : ScriptSession) (opening : Items) (now : SessionNow) (t : RunningTx) (u : IsInStep session opening now (Some t)) where
  pub runs_as : (place : ℕ) (seat : SeatNow) (tx : ClientTx) → slice_get now.seats place ≡ Some seat → tx_at seat.client t.number ≡ Some tx → (tx.body ≡ t.body) × (tx.started ≡ true)
  runs_as place seat tx at found =
      let h = seat_there session opening now (Some t) place seat u at in
      let all = subst (AllByRecursion (RunsAs t)) (sym h.1) (all_as now.run.order u.acts t place u.waiting u.begun.each) in
      let f = tx_found (RunsAs t) seat.client t.number tx all found in
      f.0 f.1

  pub first_started : StartedAs (desk_run now.run) t.number
  first_started = started_first (desk_run now.run) now.run.order u.acts t u.waiting u.begun.unfinished u.begun.first u.begun.each
