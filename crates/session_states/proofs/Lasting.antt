-- What was logged stays so, while clients act.
--     durable_made          the durability of a transaction that drew its number
--     logged_still, doubted_still   the commits of those that finished;  and those in doubt
--     durable_still         the durability of a transaction that a client has
use Rattle.std.proofs.Common.{◌≡◌, ◌≤◌, ◌<◌, ℕ, Bool, true, false, ◌&&◌, List, [], ◌∷◌, ◌++◌, map, filter, if◌then◌else◌, Option, Some, refl, sym, ◌∙◌, ap, subst, arith}
use Rattle.std.specs.Prelude.{◌==◌}
use Rattle.std.specs.List.{find, AllByRecursion}
use Rattle.desk_steps.specs.declared.steps.DeskStep.{DeskStep}
use Rattle.idb_desk.specs.Desks.{DeskState}
use Rattle.idb_desk.specs.Durabilities.{durability_drawn}
use Rattle.idb_desk.specs.Steps.{DeskRun, desk_run, with_step, IsDeskRun}
use Rattle.idb_desk.proofs.Laws.{next_grows, durability_stays}
use Rattle.record_bytes.specs.declared.records.LogRecord.{LogRecord}
use Rattle.log_history.specs.Batching.{is_strict}
use Rattle.client_ties.specs.FinishEntries.{FinishEntry, did_commit}
use Rattle.script_runs.specs.declared.notes.Note.{Note}
use Rattle.script_handlers.specs.Handling.{Script}
use Rattle.client_ties.specs.Acts.{Act, Noted, Makes, Fails, Begins, TakesTurn}
use Rattle.client_ties.specs.Answering.{MadeAtOnce}
use Rattle.client_ties.proofs.Laws.{run_before, run_after, made_before}
use Rattle.client_ties.specs.ClientStates.{ClientTx, is_tx}
use Rattle.legal_sessions.specs.Legal.{is_in_doubt, may_write, record_of_entry, records_logged, records_in_doubt, commits_at}
use Rattle.session_states.specs.Telling.{BegunAt, txs_at}
use Rattle.session_states.specs.UnderWay.{HasBegun, AreFinishedAs}
use Rattle.session_states.specs.Telling.{RunningTx}
use Rattle.session_states.proofs.Beginnings.{equal, all_below}

-- ---- one that drew its number
pub durable_made : (client : ℕ) (r last : DeskRun) (acts : List Act) → MadeAtOnce client r acts last → IsDeskRun last → (number : ℕ) → number < (desk_run r).board.scopes.next → durability_drawn last.order number ≡ durability_drawn r.order number
durable_made client r last [] m run number less = ap (λ (q : DeskRun). durability_drawn q.order number) m
durable_made client r last (Makes t told ∷ acts) m run number less =
    let at = run_before r t (made_before client (with_step r t) last acts m.1.1 run) in
    let grows = next_grows (desk_run r) t in
    let more : number < (desk_run (with_step r t)).board.scopes.next = subst (λ (d : DeskState). number < d.board.scopes.next) (sym (run_after r t)) (omega (arith, less, grows)) in
    durable_made client (with_step r t) last acts m.1.1 run number more ∙ durability_stays r t number at.1 less
durable_made client r last (Fails t name ∷ acts) m run number less = durable_made client r last acts m.1.1 run number less
durable_made client r last (Noted note ∷ acts) m run number less = durable_made client r last acts m run number less
durable_made client r last (Begins tx ∷ acts) m run number less = durable_made client r last acts m run number less
durable_made client r last (TakesTurn turn notes ∷ acts) m run number less = durable_made client r last acts m run number less

-- ---- those that finished
abbrev Entry : Type 0
Entry = FinishEntry Script Note

abbrev AreBelow : ℕ → List LogRecord → Type 0
AreBelow next rs = AllByRecursion (λ (x : LogRecord). x.number < next) rs

records_still : (client : ℕ) (r last : DeskRun) (acts : List Act) → MadeAtOnce client r acts last → IsDeskRun last → (rs : List LogRecord) → AreBelow (desk_run r).board.scopes.next rs → commits_at last.order rs ≡ commits_at r.order rs
records_still client r last acts m run [] all = refl
records_still client r last acts m run (x ∷ rs) all = λ i. record { strict = is_strict (durable_made client r last acts m run x.number all.0 i); logged = x } ∷ records_still client r last acts m run rs all.1 i

front_below : (next : ℕ) (bs cs : List BegunAt) → AllByRecursion (λ (b : BegunAt). (1 ≤ b.tx.number) × (b.tx.number < next)) (bs ++ cs) → AllByRecursion (λ (b : BegunAt). b.tx.number < next) bs
front_below next [] cs all = tt
front_below next (b ∷ bs) cs all = (all.0.1, front_below next bs cs all.1)

last_below : (next : ℕ) (bs cs : List BegunAt) → AllByRecursion (λ (b : BegunAt). (1 ≤ b.tx.number) × (b.tx.number < next)) (bs ++ cs) → AllByRecursion (λ (b : BegunAt). b.tx.number < next) cs
last_below next [] [] all = tt
last_below next [] (c ∷ cs) all = (all.0.1, last_below next [] cs all.1)
last_below next (b ∷ bs) cs all = last_below next bs cs all.1

-- the first of these, or one of the rest
one_below : (next number : ℕ) (b : Bool) (tx first : ClientTx) (txs : List ClientTx) → (first.number == number) ≡ b → first.number < next → (find (is_tx number) txs ≡ Some tx → number < next) → (if b then Some first else find (is_tx number) txs) ≡ Some tx → number < next
one_below next number true tx first txs same less rest found = subst (λ n. n < next) (equal first.number number same) less
one_below next number false tx first txs same less rest found = rest found

found_below : (next place number : ℕ) (tx : ClientTx) (bs : List BegunAt) → AllByRecursion (λ (b : BegunAt). b.tx.number < next) bs → find (is_tx number) (txs_at place bs) ≡ Some tx → number < next
found_below next place number tx [] all found = cc
found_below next place number tx (b ∷ bs) all found = by_place (b.place == place) b.tx (txs_at place bs) (b.tx.number == number) refl all.0 (found_below next place number tx bs all.1) found
  where
    by_place : (here : Bool) (first : ClientTx) (txs : List ClientTx) (same : Bool) → (first.number == number) ≡ same → first.number < next → (find (is_tx number) txs ≡ Some tx → number < next)
        → find (is_tx number) (if here then first ∷ txs else txs) ≡ Some tx → number < next
    by_place true first txs same is less rest f = one_below next number same tx first txs is less rest (sym (ap (λ b. if b then Some first else find (is_tx number) txs) is) ∙ f)
    by_place false first txs same is less rest f = rest f

logged_first : (next : ℕ) (b : Bool) (e : Entry) (es : List Entry) → e.number < next → AreBelow next (map record_of_entry es) → AreBelow next (map record_of_entry (if b then e ∷ es else es))
logged_first next true e es less all = (less, all)
logged_first next false e es less all = all

-- those that a test chooses
abbrev chosen : (Entry → Bool) → List Entry → List LogRecord
chosen p es = map record_of_entry (filter p es)

chosen_below : (p : Entry → Bool) (next : ℕ) (order : List DeskStep) (acts : List (List Act)) (bs : List BegunAt) (es : List Entry) → AreFinishedAs order acts bs es → AllByRecursion (λ (b : BegunAt). b.tx.number < next) bs → AreBelow next (chosen p es)
chosen_below p next order acts [] [] are all = tt
chosen_below p next order acts [] (e ∷ es) are all = absurd are
chosen_below p next order acts (b ∷ bs) [] are all = absurd are
chosen_below p next order acts (b ∷ bs) (e ∷ es) are all =
    logged_first next (p e) e (filter p es) (subst (λ n. n < next) (sym are.0.number) all.0) (chosen_below p next order acts bs es are.1 all.1)

module _ (client : ℕ) (r last : DeskRun) (own : List Act) (m : MadeAtOnce client r own last) (run : IsDeskRun last) (acts : List (List Act)) (running : Option RunningTx) (done waiting : List BegunAt) (begun : HasBegun r acts running done waiting) where
  drawn_below : AllByRecursion (λ (b : BegunAt). (1 ≤ b.tx.number) × (b.tx.number < (desk_run r).board.scopes.next)) (done ++ waiting)
  drawn_below = all_below 1 (desk_run r).board.scopes.next (done ++ waiting) begun.numbers

  chosen_still : (p : Entry → Bool) (es : List Entry) → AreFinishedAs r.order acts done es → commits_at last.order (chosen p es) ≡ commits_at r.order (chosen p es)
  chosen_still p es are = records_still client r last own m run (chosen p es) (chosen_below p (desk_run r).board.scopes.next r.order acts done es are (front_below (desk_run r).board.scopes.next done waiting drawn_below))

  pub logged_still : (es : List Entry) → AreFinishedAs r.order acts done es → commits_at last.order (records_logged es) ≡ commits_at r.order (records_logged es)
  logged_still es are = chosen_still (λ (e : Entry). did_commit e.outcome && may_write e.body) es are

  pub doubted_still : (es : List Entry) → AreFinishedAs r.order acts done es → commits_at last.order (records_in_doubt es) ≡ commits_at r.order (records_in_doubt es)
  doubted_still es are = chosen_still (λ (e : Entry). is_in_doubt e.outcome) es are

  -- one that waits
  pub durable_still : (place number : ℕ) (tx : ClientTx) → find (is_tx number) (txs_at place waiting) ≡ Some tx → durability_drawn last.order number ≡ durability_drawn r.order number
  durable_still place number tx found = durable_made client r last own m run number
      (found_below (desk_run r).board.scopes.next place number tx waiting (last_below (desk_run r).board.scopes.next done waiting drawn_below) found)
