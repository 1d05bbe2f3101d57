-- A client's transactions stay those of the desk that it made.
--     tied_fresh            at the beginning
--     tied_step             a client's step, whose steps of the desk are made at once
--     tied_other            another client's steps
--     tied_none, tied_least where the desk has none, and the least of the desk's
use Rattle.std.proofs.Common.{◌≡◌, ◌≢◌, ℕ, Bool, true, false, not, List, [], ◌∷◌, ◌++◌, map, filter, slice_get, if◌then◌else◌, Option, Some, None, option_map, refl, sym, ◌∙◌, ap, subst}
use Rattle.std.specs.Prelude.{◌==◌}
use Rattle.std.specs.List.{find}
use Rattle.std.proofs.lemmas.List.{map-append}
use Rattle.std.proofs.lemmas.List.Elements.{filter-append}
use Rattle.idb_schema.specs.Schemas.{SchemaData}
use Rattle.idb_calls.specs.declared.traces.Outcome.{Outcome}
use Rattle.desk_steps.specs.declared.stands.DrawnTx.{DrawnTx}
use Rattle.desk_steps.specs.declared.steps.DeskStep.TheVariants as step
use Rattle.scope_desk.specs.declared.tickets.Ticket.{Ticket}
use Rattle.idb_desk.specs.Desks.{DeskState, drawn_at}
use Rattle.idb_desk.specs.Refusals.{is_created_stage}
use Rattle.idb_desk.specs.Steps.{DeskRun, desk_run, with_step, IsDeskRun}
use Rattle.script_statements.specs.declared.script.Block.{Block as Named}
use Rattle.script_runs.specs.declared.notes.Note.{Note}
use Rattle.client_machine.specs.SerialRuns.{joined_lines}
use Rattle.client_machine.specs.Acts.{Told, Act, Makes, txs_begun}
use Rattle.client_machine.specs.Answering.{MadeAtOnce}
use Rattle.client_machine.specs.ClientStates.{ClientTx, ClientTxKind, ClientState, is_tx, tx_at, without_tx, started_if, with_started, with_notes, fresh_client}
use Rattle.client_machine.specs.ClientSteps.{EndsTx, ClientStep, RunsTask, TakesEvent, StartsTx, RunsTurn, FinishesTx, FinishesUnstarted, with_tasks}
use Rattle.client_ties.specs.Unfinished.{UnfinishedTx, unfinished_of, is_numbered_so, is_made_by, started_so, started_where, other_drawn, own_unfinished, least_of}
use Rattle.client_ties.specs.Ties.{shown_tx, IsTied}
use Rattle.client_ties.proofs.Stages.{some_same, same_number, first_shown, drawn_there}
use Rattle.client_ties.proofs.Effects.{IsSound, step_starts, step_leaves}
use Rattle.client_ties.proofs.Making.{made_before, made_turns, others_made, run_before, run_after}
use Rattle.client_ties.proofs.Growing.{Grows, notes_txs, grows_now, grows_event, grows_end}

-- ---- one client's
own_shown : (client : ℕ) (txs : List ClientTx) → filter (is_made_by client) (map (shown_tx client) txs) ≡ map (shown_tx client) txs
own_shown client [] = refl
own_shown client (tx ∷ txs) = ap (λ b. if b then shown_tx client tx ∷ filter (is_made_by client) (map (shown_tx client) txs) else filter (is_made_by client) (map (shown_tx client) txs)) (same_number client) ∙ ap (λ us. shown_tx client tx ∷ us) (own_shown client txs)

own_started : (client number : ℕ) (us : List UnfinishedTx) → filter (is_made_by client) (started_where number us) ≡ started_where number (filter (is_made_by client) us)
own_started client number [] = refl
own_started client number (u ∷ us) =
    ap (λ b. if b then started_so number u ∷ filter (is_made_by client) (started_where number us) else filter (is_made_by client) (started_where number us)) same
    ∙ elim (is_made_by client u) as (λ b. (if b then started_so number u ∷ filter (is_made_by client) (started_where number us) else filter (is_made_by client) (started_where number us)) ≡ started_where number (if b then u ∷ filter (is_made_by client) us else filter (is_made_by client) us)) [
      | true ↦ ap (λ vs. started_so number u ∷ vs) (own_started client number us)
      | false ↦ own_started client number us
    ]
  where
    same : is_made_by client (started_so number u) ≡ is_made_by client u
    same = elim (is_numbered_so number u) as (λ b. is_made_by client (if b then record u { started = true } else u) ≡ is_made_by client u) [ true ↦ refl | false ↦ refl ]

filters_swap : {X : Type 0} (p q : X → Bool) (xs : List X) → filter p (filter q xs) ≡ filter q (filter p xs)
filters_swap p q [] = refl
filters_swap p q (x ∷ xs) = by_tests (p x) (q x) refl refl (filters_swap p q xs)
  where
    by_tests : (a b : Bool) → p x ≡ a → q x ≡ b → filter p (filter q xs) ≡ filter q (filter p xs) → filter p (filter q (x ∷ xs)) ≡ filter q (filter p (x ∷ xs))
    by_tests true true e f rest = rw (e, f, e) (ap (λ ys. x ∷ ys) rest)
    by_tests true false e f rest = rw (e, f) rest
    by_tests false true e f rest = rw (e, f, e) rest
    by_tests false false e f rest = rw (e, f) rest

own_left : (client number : ℕ) (us : List UnfinishedTx) → filter (is_made_by client) (other_drawn number us) ≡ other_drawn number (filter (is_made_by client) us)
own_left client number us = filters_swap (is_made_by client) (λ u. not (is_numbered_so number u)) us

started_shown : (client number : ℕ) (txs : List ClientTx) → started_where number (map (shown_tx client) txs) ≡ map (shown_tx client) (map (started_if number) txs)
started_shown client number [] = refl
started_shown client number (tx ∷ txs) = elim (tx.number == number) as (λ b. (if b then record (shown_tx client tx) { started = true } else shown_tx client tx) ∷ started_where number (map (shown_tx client) txs) ≡ shown_tx client (if b then record tx { started = true } else tx) ∷ map (shown_tx client) (map (started_if number) txs)) [
  | true ↦ ap (λ us. record (shown_tx client tx) { started = true } ∷ us) (started_shown client number txs)
  | false ↦ ap (λ us. shown_tx client tx ∷ us) (started_shown client number txs)
]

left_shown : (client number : ℕ) (txs : List ClientTx) → other_drawn number (map (shown_tx client) txs) ≡ map (shown_tx client) (filter (λ tx. not (is_tx number tx)) txs)
left_shown client number [] = refl
left_shown client number (tx ∷ txs) = elim (tx.number == number) as (λ b. (if not b then shown_tx client tx ∷ other_drawn number (map (shown_tx client) txs) else other_drawn number (map (shown_tx client) txs)) ≡ map (shown_tx client) (if not b then tx ∷ filter (λ x. not (is_tx number x)) txs else filter (λ x. not (is_tx number x)) txs)) [
  | true ↦ left_shown client number txs
  | false ↦ ap (λ us. shown_tx client tx ∷ us) (left_shown client number txs)
]

-- ---- the least
heads : {X : Type 0} {x y : X} {xs ys : List X} → x ∷ xs ≡ y ∷ ys → x ≡ y
heads e = cc

no_least : (ts : List Ticket) → option_map (λ (t : Ticket). t.number) (slice_get ts 0) ≡ None → ts ≡ []
no_least [] e = refl
no_least (t ∷ ts) e = cc

some_least : (ts : List Ticket) (number : ℕ) → option_map (λ (t : Ticket). t.number) (slice_get ts 0) ≡ Some number → (ns : List ℕ) × (map (λ (t : Ticket). t.number) ts ≡ number ∷ ns)
some_least [] number e = cc
some_least (t ∷ ts) number e = (map (λ (x : Ticket). x.number) ts, ap (λ n. n ∷ map (λ (x : Ticket). x.number) ts) (some_same e))

no_numbers : (us : List UnfinishedTx) → map (λ (u : UnfinishedTx). u.number) us ≡ [] → us ≡ []
no_numbers [] e = refl
no_numbers (u ∷ us) e = cc

first_number : (us : List UnfinishedTx) (n : ℕ) (ns : List ℕ) → map (λ (u : UnfinishedTx). u.number) us ≡ n ∷ ns → (u : UnfinishedTx) × ((vs : List UnfinishedTx) × ((us ≡ u ∷ vs) × (u.number ≡ n)))
first_number [] n ns e = cc
first_number (u ∷ us) n ns e = (u, (us, (refl, heads e)))

no_shown : (client : ℕ) (txs : List ClientTx) → [] ≡ map (shown_tx client) txs → txs ≡ []
no_shown client [] e = refl
no_shown client (tx ∷ txs) e = cc

-- the transaction that the desk shows first is drawn there
pub record IsDrawnAs (d : DeskState) (u : UnfinishedTx) : Type 0 where
  pub tx : DrawnTx
  pub found : drawn_at d.board.drawn u.number ≡ Some tx
  pub client : tx.who.client ≡ u.client
  pub stage_is : is_created_stage tx.stage ≡ not u.started

pub first_drawn : (d : DeskState) (u : UnfinishedTx) (us : List UnfinishedTx) → unfinished_of d ≡ u ∷ us → IsDrawnAs d u
unfolding unfinished_of
first_drawn d u us e =
    let h = first_shown 1 d.board.drawn u us e in
    record { tx = h.tx; found = ap (drawn_at d.board.drawn) h.number ∙ drawn_there d.board.drawn h.place h.tx h.found; client = h.client; stage_is = h.stage_is }

first_of_own : (client : ℕ) (u : UnfinishedTx) (us : List UnfinishedTx) (txs : List ClientTx) → filter (is_made_by client) (u ∷ us) ≡ map (shown_tx client) txs → u.client ≡ client → (tx : ClientTx) × ((rest : List ClientTx) × ((txs ≡ tx ∷ rest) × (u ≡ shown_tx client tx)))
first_of_own client u us txs e is = by_txs txs (sym (ap (λ b. if b then u ∷ filter (is_made_by client) us else filter (is_made_by client) us) (ap (λ n. n == client) is ∙ same_number client)) ∙ e)
  where
    by_txs : (ts : List ClientTx) → u ∷ filter (is_made_by client) us ≡ map (shown_tx client) ts → (tx : ClientTx) × ((rest : List ClientTx) × ((ts ≡ tx ∷ rest) × (u ≡ shown_tx client tx)))
    by_txs [] k = cc
    by_txs (tx ∷ rest) k = (tx, (rest, (refl, heads k)))

pub record HasLeast (c : ClientState) (number : ℕ) (t : DrawnTx) : Type 0 where
  pub tx : ClientTx
  pub found : tx_at c number ≡ Some tx
  pub stage_is : is_created_stage t.stage ≡ not tx.started

-- ---- the beginning
pub tied_fresh : (schemas : List SchemaData) (number main : ℕ) → IsTied (desk_run (record { opening = schemas; order = [] })) (fresh_client number main)
unfolding desk_run unfinished_of
tied_fresh schemas number main = record { txs = refl }

module _ (sound : (r : DeskRun) → IsDeskRun r → IsSound (desk_run r)) where
  -- ---- a client's own steps
  tied_grows : (c last : ClientState) (acts : List Act) (r end : DeskRun) → Grows c acts last → MadeAtOnce c.number r acts end → IsDeskRun end → IsTied (desk_run r) c → IsTied (desk_run end) last
  tied_grows c last acts r end g m run tied = record {
    txs = ap (λ n. own_unfinished (desk_run end) n) g.number
        ∙ ap (filter (is_made_by c.number)) (g.desk r end m run).unfinished
        ∙ filter-append (is_made_by c.number) (unfinished_of (desk_run r)) (map (shown_tx c.number) (txs_begun acts))
        ∙ ap (λ us. us ++ filter (is_made_by c.number) (map (shown_tx c.number) (txs_begun acts))) tied.txs
        ∙ ap (λ us. map (shown_tx c.number) c.txs ++ us) (own_shown c.number (txs_begun acts))
        ∙ sym (map-append (shown_tx c.number) c.txs (txs_begun acts))
        ∙ ap (map (shown_tx c.number)) (sym g.txs)
        ∙ ap (λ n. map (shown_tx n) last.txs) (sym g.number);
  }

  tied_starts : (c : ClientState) (number : ℕ) (r : DeskRun) → IsDeskRun (with_step r (step.Starts c.number number)) → IsTied (desk_run r) c → IsTied (desk_run (with_step r (step.Starts c.number number))) (with_started c number)
  tied_starts c number r run tied =
      let t = step.Starts c.number number in
      record {
        txs = ap (λ d. own_unfinished d c.number) (run_after r t)
            ∙ ap (filter (is_made_by c.number)) (step_starts (desk_run r) c.number number (run_before r t run).1)
            ∙ own_started c.number number (unfinished_of (desk_run r))
            ∙ ap (started_where number) tied.txs
            ∙ started_shown c.number number c.txs;
      }

  tied_leaves : (c : ClientState) (number : ℕ) (outcome : Outcome) (kept : Option SchemaData) (r : DeskRun) → IsDeskRun (with_step r (step.Leaves c.number number outcome kept)) → IsTied (desk_run r) c → IsTied (desk_run (with_step r (step.Leaves c.number number outcome kept))) (without_tx c number)
  tied_leaves c number outcome kept r run tied =
      let t = step.Leaves c.number number outcome kept in
      record {
        txs = ap (λ d. own_unfinished d c.number) (run_after r t)
            ∙ ap (filter (is_made_by c.number)) (step_leaves (desk_run r) c.number number outcome kept (run_before r t run).1).0
            ∙ own_left c.number number (unfinished_of (desk_run r))
            ∙ ap (other_drawn number) tied.txs
            ∙ left_shown c.number number c.txs;
      }

  tied_noted : (d : DeskState) (c : ClientState) (notes : List Note) → IsTied d c → IsTied d (with_notes c notes)
  tied_noted d c notes tied =
      let same = notes_txs notes c in
      record { txs = ap (own_unfinished d) same.1 ∙ tied.txs ∙ ap (map (shown_tx c.number)) (sym same.0) ∙ ap (λ n. map (shown_tx n) (with_notes c notes).txs) (sym same.1) }

  -- the end of a transaction behind its leaving
  tied_ends : (blocks : List Named) (c : ClientState) (number : ℕ) (outcome : Outcome) (kept : Option SchemaData) (kind : ClientTxKind) (told : Told) (acts : List Act) (notes : List Note) (last : ClientState) (r end : DeskRun)
      → EndsTx blocks (with_notes (without_tx c number) notes) number outcome kind acts last → MadeAtOnce c.number r (Makes (step.Leaves c.number number outcome kept) told ∷ acts) end → IsDeskRun end
      → IsTied (desk_run r) c → IsTied (desk_run end) last
  tied_ends blocks c number outcome kept kind told acts notes last r end ends m run tied =
      let t = step.Leaves c.number number outcome kept in
      let left = without_tx c number in
      let at = made_before c.number (with_step r t) end acts m.1.1 run in
      tied_grows (with_notes left notes) last acts (with_step r t) end (grows_end sound blocks (with_notes left notes) number outcome kind acts last ends)
      (subst (λ n. MadeAtOnce n (with_step r t) acts end) (sym (notes_txs notes left).1) m.1.1) run
      (tied_noted (desk_run (with_step r t)) left notes (tied_leaves c number outcome kept r at tied))

  pub tied_step : (blocks : List Named) (c last : ClientState) (acts : List Act) (r end : DeskRun) → ClientStep blocks c acts last → MadeAtOnce c.number r acts end → IsDeskRun end → IsTied (desk_run r) c → IsTied (desk_run end) last
  tied_step blocks c last acts r end (RunsTask t ts _ _ has runs) m run tied =
      tied_grows (with_tasks c ts) last acts r end (grows_now sound blocks (with_tasks c ts) _ _ acts last runs) m run (record { txs = tied.txs })
  tied_step blocks c last acts r end (TakesEvent e told more _ idle is meets) m run tied = tied_grows c last acts r end (grows_event sound blocks c e told more last is meets) m run tied
  tied_step blocks c last acts r end (StartsTx tx number told idle found waits begins) m run tied =
      subst (λ (q : DeskRun). IsTied (desk_run q) (with_started c number)) (sym m.1.1) (tied_starts c number r (subst IsDeskRun m.1.1 run) tied)
  tied_step blocks c last acts r end (RunsTurn tx number notes idle found runs) m run tied = subst (λ (q : DeskRun). IsTied (desk_run q) (with_notes c notes)) (sym m) (tied_noted (desk_run r) c notes tied)
  tied_step blocks c last acts r end (FinishesTx tx number outcome kept told more _ idle found runs ends) m run tied = tied_ends blocks c number outcome kept tx.kind told more [] last r end ends m run tied
  tied_step blocks c last acts r end (FinishesUnstarted tx number turns outcome told more _ idle found waits ends) m run tied =
      tied_ends blocks c number outcome None tx.kind told more (joined_lines turns) last r end ends (made_turns c.number number r end turns (Makes (step.Leaves c.number number outcome None) told ∷ more) m) run tied

  -- a client keeps its number
  pub step_number : (blocks : List Named) (c last : ClientState) (acts : List Act) → ClientStep blocks c acts last → last.number ≡ c.number
  step_number blocks c last acts (RunsTask t ts _ _ has runs) = (grows_now sound blocks (with_tasks c ts) _ _ acts last runs).number
  step_number blocks c last acts (TakesEvent e told more _ idle is meets) = (grows_event sound blocks c e told more last is meets).number
  step_number blocks c last acts (StartsTx tx number told idle found waits begins) = refl
  step_number blocks c last acts (RunsTurn tx number notes idle found runs) = (notes_txs notes c).1
  step_number blocks c last acts (FinishesTx tx number outcome kept told more _ idle found runs ends) = (grows_end sound blocks (without_tx c number) number outcome tx.kind more last ends).number
  step_number blocks c last acts (FinishesUnstarted tx number turns outcome told more _ idle found waits ends) =
      (grows_end sound blocks (with_notes (without_tx c number) (joined_lines turns)) number outcome tx.kind more last ends).number ∙ (notes_txs (joined_lines turns) (without_tx c number)).1

  -- ---- another client's steps
  pub tied_other : (client : ℕ) (c : ClientState) (acts : List Act) (r end : DeskRun) → c.number ≢ client → MadeAtOnce client r acts end → IsDeskRun end → IsTied (desk_run r) c → IsTied (desk_run end) c
  tied_other client c acts r end out m run tied = record { txs = others_made sound client c.number r end acts out m run ∙ tied.txs }

  -- ---- what the ties tell
  pub none_unfinished : (r : DeskRun) → IsDeskRun r → least_of (desk_run r) ≡ None → unfinished_of (desk_run r) ≡ []
  none_unfinished r run none = no_numbers (unfinished_of (desk_run r)) ((sound r run).same ∙ ap (map (λ (t : Ticket). t.number)) (no_least (desk_run r).board.scopes.unfinished none))

  pub least_unfinished : (r : DeskRun) (number : ℕ) → IsDeskRun r → least_of (desk_run r) ≡ Some number → (u : UnfinishedTx) × ((us : List UnfinishedTx) × ((unfinished_of (desk_run r) ≡ u ∷ us) × (u.number ≡ number)))
  least_unfinished r number run least =
      let h = some_least (desk_run r).board.scopes.unfinished number least in
      first_number (unfinished_of (desk_run r)) number h.0 ((sound r run).same ∙ h.1)

  pub tied_none : (r : DeskRun) (c : ClientState) → IsDeskRun r → least_of (desk_run r) ≡ None → IsTied (desk_run r) c → c.txs ≡ []
  tied_none r c run none tied = no_shown c.number c.txs (ap (filter (is_made_by c.number)) (sym (none_unfinished r run none)) ∙ tied.txs)

  pub tied_least : (r : DeskRun) (c : ClientState) (number : ℕ) (t : DrawnTx) → IsDeskRun r → least_of (desk_run r) ≡ Some number → drawn_at (desk_run r).board.drawn number ≡ Some t → t.who.client ≡ c.number → IsTied (desk_run r) c → HasLeast c number t
  tied_least r c number t run least at own tied =
      let h = least_unfinished r number run least in
      let drawn = first_drawn (desk_run r) h.0 h.1.0 h.1.1.0 in
      let same : drawn.tx ≡ t = some_same (sym drawn.found ∙ ap (drawn_at (desk_run r).board.drawn) h.1.1.1 ∙ at) in
      let client : h.0.client ≡ c.number = sym drawn.client ∙ ap (λ (x : DrawnTx). x.who.client) same ∙ own in
      let first = first_of_own c.number h.0 h.1.0 c.txs (ap (filter (is_made_by c.number)) (sym h.1.1.0) ∙ tied.txs) client in
      let number_is : first.0.number ≡ number = ap (λ (u : UnfinishedTx). u.number) (sym first.1.1.1) ∙ h.1.1.1 in
      record {
        tx = first.0;
        found = ap (find (is_tx number)) first.1.1.0 ∙ ap (λ b. if b then Some first.0 else find (is_tx number) first.1.0) (ap (λ n. n == number) number_is ∙ same_number number);
        stage_is = ap (λ (x : DrawnTx). is_created_stage x.stage) (sym same) ∙ drawn.stage_is ∙ ap (λ (u : UnfinishedTx). not u.started) first.1.1.1;
      }
