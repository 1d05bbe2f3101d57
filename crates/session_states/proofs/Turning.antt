-- The first transaction that waits starts, has a turn, or leaves.
--     begun_starts, begun_turns, begun_leaves
use Rattle.std.proofs.Common.{◌≡◌, ℕ, ◌+◌, Bool, true, false, not, ◌||◌, List, [], ◌∷◌, ◌++◌, map, slice_get, slice_set, if◌then◌else◌, Option, Some, None, refl, sym, ◌∙◌, ap, subst}
use Rattle.std.specs.Prelude.{◌==◌}
use Rattle.std.specs.List.{list_any}
use Rattle.std.specs.List.Sorted.{IsPermutation}
use Rattle.std.proofs.lemmas.List.{append_assoc}
use Rattle.idb_schema.specs.Schemas.{SchemaData}
use Rattle.idb_calls.specs.declared.traces.Outcome.{Outcome}
use Rattle.scope_desk.specs.Starts.{Scopes, finished}
use Rattle.desk_steps.specs.declared.steps.DeskStep.{DeskStep}
use Rattle.desk_steps.specs.declared.steps.DeskStep.TheVariants as step
use Rattle.idb_desk.specs.Desks.{DeskState}
use Rattle.idb_desk.specs.Steps.{after, DeskRun, desk_run, with_step, IsDeskRun}
use Rattle.script_runs.specs.declared.notes.Note.{Note}
use Rattle.client_ties.specs.Acts.{Told, Act, Makes, TakesTurn, txs_begun, turns_of}
use Rattle.client_ties.specs.Answering.{MadeAtOnce}
use Rattle.client_ties.specs.Unfinished.{unfinished_of, started_where, other_drawn, AreDrawn}
use Rattle.client_ties.proofs.Laws.{step_starts, step_scopes, step_leaves, run_before, run_after, made_turns}
use Rattle.legal_sessions.specs.SerialResults.{is_start_of, is_started, leaving_of}
use Rattle.session_states.specs.Telling.{ToldTx, told_of, BegunAt, begun_from, acts_at, shown_begun, as_begun, RunningTx, turns_so_far}
use Rattle.session_states.specs.UnderWay.{HasBegun}
use Rattle.session_states.proofs.Told.{steps_of, IsSilent}
use Rattle.session_states.proofs.Beginnings.{equal_self, unequal}
use Rattle.session_states.proofs.Passing.{as_started, begun_started, drawn_started, shown_started, shown_left, rest_apart, rest_waits, still_ahead, all_begun, told_own, told_now}

other_way : (a b : ℕ) → (a == b) ≡ false → (b == a) ≡ false
other_way a b out = unequal b a (λ e. no (sym out ∙ ap (λ n. a == n) e ∙ equal_self a))
  where
    no : false ≡ true → ⊥
    no k = cc

or_true : (a : Bool) → (a || true) ≡ true
or_true true = refl
or_true false = refl

or_false : (a : Bool) → (a || false) ≡ a
or_false true = refl
or_false false = refl

-- ---- it starts
module _ (r end : DeskRun) (all : List (List Act)) (place client : ℕ) (own : List Act) (told : Told) (done rest : List BegunAt) (b : BegunAt) (has : slice_get all place ≡ Some own)
    (made : MadeAtOnce (place + 1) r (Makes (step.Starts client b.tx.number) told ∷ []) end) (run : IsDeskRun end) (h : HasBegun r all None done (b ∷ rest)) (here : b.place ≡ place) where
  abbrev start_acts : List Act
  start_acts = Makes (step.Starts client b.tx.number) told ∷ []

  pub start_others : (number : ℕ) → (number == b.tx.number) ≡ false → IsSilent number start_acts
  start_others number out = (other_way number b.tx.number out, tt)

  start_run : desk_run end ≡ after (desk_run r) (step.Starts client b.tx.number)
  start_run = ap desk_run made.1.1 ∙ run_after r (step.Starts client b.tx.number)

  start_allowed : IsDeskRun (with_step r (step.Starts client b.tx.number))
  start_allowed = subst IsDeskRun made.1.1 run

  start_next : (desk_run end).board.scopes.next ≡ (desk_run r).board.scopes.next
  start_next = ap (λ (d : DeskState). d.board.scopes.next) start_run ∙ ap (λ (s : Scopes). s.next) (step_scopes (desk_run r) client b.tx.number)

  abbrev running_new : RunningTx
  running_new = record { number = b.tx.number; body = b.tx.body; turns = [] }

  pub begun_starts : HasBegun end (slice_set all place (own ++ Makes (step.Starts client b.tx.number) told ∷ [])) (Some (record { number = b.tx.number; body = b.tx.body; turns = [] })) done (as_started b ∷ rest)
  begun_starts = record {
    all = subst (IsPermutation (begun_from 0 (slice_set all place (own ++ start_acts)))) (sym (begun_started done b rest)) (all_begun r end all place own start_acts has made None done rest b h here refl start_others);
    numbers = subst (λ n. AreDrawn 1 (map shown_begun (done ++ as_started b ∷ rest)) n) (sym start_next) (drawn_started 1 (desk_run r).board.scopes.next done b rest h.numbers);
    unfinished = ap unfinished_of start_run ∙ step_starts (desk_run r) client b.tx.number (run_before r (step.Starts client b.tx.number) start_allowed).1 ∙ ap (started_where b.tx.number) h.unfinished
        ∙ ap (λ t. (if t then record (shown_begun b) { started = true } else shown_begun b) ∷ started_where b.tx.number (map shown_begun rest)) (equal_self b.tx.number)
        ∙ ap (λ us. shown_begun (as_started b) ∷ us) (shown_started b.tx.number rest (rest_apart r end all place own start_acts has made None done rest b h here refl start_others));
    each = (
      record {
        told = told_now r end all place own start_acts has made None done rest b h here refl start_others true None []
            (ap (λ t. is_started r.order b.tx.number || (t || false)) (equal_self b.tx.number) ∙ or_true (is_started r.order b.tx.number)) refl refl
            ∙ (λ i. record { started = sym (equal_self b.tx.number) i; left = None; turns = sym (ap (λ t. if t then [] else []) (equal_self b.tx.number)) i });
        started = sym (equal_self b.tx.number);
        body = ap (λ t. if t then b.tx.body else b.tx.body) (equal_self b.tx.number);
      },
      rest_waits r end all place own start_acts has made None done rest b h here refl start_others (Some running_new) refl,
    );
    ahead = still_ahead r end all place own start_acts has made None done rest b h here refl start_others start_next;
    first = refl;
  }

-- ---- it has a turn
module _ (r end : DeskRun) (all : List (List Act)) (place : ℕ) (own : List Act) (t : RunningTx) (notes : List Note) (done rest : List BegunAt) (b : BegunAt) (has : slice_get all place ≡ Some own)
    (made : MadeAtOnce (place + 1) r (TakesTurn b.tx.number notes ∷ []) end) (h : HasBegun r all (Some t) done (b ∷ rest)) (here : b.place ≡ place) where
  abbrev turn_acts : List Act
  turn_acts = TakesTurn b.tx.number notes ∷ []

  pub turn_others : (number : ℕ) → (number == b.tx.number) ≡ false → IsSilent number turn_acts
  turn_others number out = (other_way number b.tx.number out, tt)

  turn_next : (desk_run end).board.scopes.next ≡ (desk_run r).board.scopes.next
  turn_next = ap (λ (q : DeskRun). (desk_run q).board.scopes.next) made

  is_it : (t.number == b.tx.number) ≡ true
  is_it = ap (λ n. n == b.tx.number) (sym h.first) ∙ equal_self b.tx.number

  abbrev turned : RunningTx
  turned = record t { turns = t.turns ++ notes ∷ [] }

  pub begun_turns : HasBegun end (slice_set all place (own ++ TakesTurn b.tx.number notes ∷ [])) (Some (record t { turns = t.turns ++ notes ∷ [] })) done (b ∷ rest)
  begun_turns = record {
    all = all_begun r end all place own turn_acts has made (Some t) done rest b h here refl turn_others;
    numbers = subst (λ n. AreDrawn 1 (map shown_begun (done ++ b ∷ rest)) n) (sym turn_next) h.numbers;
    unfinished = ap (λ (q : DeskRun). unfinished_of (desk_run q)) made ∙ h.unfinished;
    each = (
      record {
        told = told_now r end all place own turn_acts has made (Some t) done rest b h here refl turn_others true None (notes ∷ [])
            (or_false (is_started r.order b.tx.number) ∙ ap (λ (x : ToldTx). x.started) (told_own r end all place own turn_acts has made (Some t) done rest b h here refl turn_others) ∙ is_it)
            refl (ap (λ x. (if x then notes ∷ [] else []) ++ []) (equal_self b.tx.number))
            ∙ (λ i. record { started = sym is_it i; left = None; turns = (ap (λ x. (if x then t.turns else []) ++ notes ∷ []) is_it ∙ sym (ap (λ x. if x then t.turns ++ notes ∷ [] else []) is_it)) i });
        started = h.each.0.started;
        body = h.each.0.body;
      },
      rest_waits r end all place own turn_acts has made (Some t) done rest b h here refl turn_others (Some turned) h.first,
    );
    ahead = still_ahead r end all place own turn_acts has made (Some t) done rest b h here refl turn_others turn_next;
    first = h.first;
  }

-- ---- it leaves
module _ (number : ℕ) (t : DeskStep) (told : Told) where
  no_more_begun : (turns : List (List Note)) → txs_begun (map (TakesTurn number) turns ++ Makes t told ∷ []) ≡ []
  no_more_begun [] = refl
  no_more_begun (notes ∷ turns) = no_more_begun turns

  one_step : (turns : List (List Note)) → steps_of (map (TakesTurn number) turns ++ Makes t told ∷ []) ≡ t ∷ []
  one_step [] = refl
  one_step (notes ∷ turns) = one_step turns

  all_turns : (turns : List (List Note)) → turns_of number (map (TakesTurn number) turns ++ Makes t told ∷ []) ≡ turns
  all_turns [] = refl
  all_turns (notes ∷ turns) = ap (λ x. (if x then notes ∷ [] else []) ++ turns_of number (map (TakesTurn number) turns ++ Makes t told ∷ [])) (equal_self number) ∙ ap (λ ns. notes ∷ ns) (all_turns turns)

module _ (r end : DeskRun) (all : List (List Act)) (place client : ℕ) (own : List Act) (running : Option RunningTx) (turns : List (List Note)) (outcome : Outcome) (kept : Option SchemaData) (told : Told) (done rest : List BegunAt) (b : BegunAt)
    (has : slice_get all place ≡ Some own) (made : MadeAtOnce (place + 1) r (map (TakesTurn b.tx.number) turns ++ Makes (step.Leaves client b.tx.number outcome kept) told ∷ []) end) (run : IsDeskRun end)
    (h : HasBegun r all running done (b ∷ rest)) (here : b.place ≡ place) where
  abbrev leaving : DeskStep
  leaving = step.Leaves client b.tx.number outcome kept

  abbrev leave_acts : List Act
  leave_acts = map (TakesTurn b.tx.number) turns ++ Makes (step.Leaves client b.tx.number outcome kept) told ∷ []

  pub leave_others : (number : ℕ) → (number == b.tx.number) ≡ false → IsSilent number leave_acts
  leave_others number out = each turns
    where
      each : (ns : List (List Note)) → IsSilent number (map (TakesTurn b.tx.number) ns ++ Makes (step.Leaves client b.tx.number outcome kept) told ∷ [])
      each [] = (other_way number b.tx.number out, tt)
      each (n ∷ ns) = (other_way number b.tx.number out, each ns)

  leave_none : txs_begun leave_acts ≡ []
  leave_none = no_more_begun b.tx.number leaving told turns

  leave_made : end ≡ with_step r (step.Leaves client b.tx.number outcome kept)
  leave_made = (made_turns (place + 1) b.tx.number r end turns (Makes leaving told ∷ []) made).1.1

  leave_run : desk_run end ≡ after (desk_run r) (step.Leaves client b.tx.number outcome kept)
  leave_run = ap desk_run leave_made ∙ run_after r leaving

  left : (unfinished_of (after (desk_run r) leaving) ≡ other_drawn b.tx.number (unfinished_of (desk_run r))) × ((after (desk_run r) leaving).board.scopes ≡ finished (desk_run r).board.scopes b.tx.number)
  left = step_leaves (desk_run r) client b.tx.number outcome kept (run_before r leaving (subst IsDeskRun leave_made run)).1

  leave_next : (desk_run end).board.scopes.next ≡ (desk_run r).board.scopes.next
  leave_next = ap (λ (d : DeskState). d.board.scopes.next) leave_run ∙ ap (λ (s : Scopes). s.next) left.1

  pub begun_leaves : HasBegun end (slice_set all place (own ++ (map (TakesTurn b.tx.number) turns ++ Makes (step.Leaves client b.tx.number outcome kept) told ∷ []))) None (done ++ b ∷ []) rest
  begun_leaves =
      let behind : done ++ b ∷ rest ≡ (done ++ b ∷ []) ++ rest = sym (append_assoc done (b ∷ []) rest) in
      record {
        all = subst (λ bs. IsPermutation (begun_from 0 (slice_set all place (own ++ leave_acts))) (map as_begun bs)) behind (all_begun r end all place own leave_acts has made running done rest b h here leave_none leave_others);
        numbers = subst (λ bs. AreDrawn 1 (map shown_begun bs) (desk_run end).board.scopes.next) behind (subst (λ n. AreDrawn 1 (map shown_begun (done ++ b ∷ rest)) n) (sym leave_next) h.numbers);
        unfinished = ap unfinished_of leave_run ∙ left.0 ∙ ap (other_drawn b.tx.number) h.unfinished
            ∙ ap (λ x. if not x then shown_begun b ∷ other_drawn b.tx.number (map shown_begun rest) else other_drawn b.tx.number (map shown_begun rest)) (equal_self b.tx.number)
            ∙ shown_left b.tx.number rest (rest_apart r end all place own leave_acts has made running done rest b h here leave_none leave_others);
        each = rest_waits r end all place own leave_acts has made running done rest b h here leave_none leave_others None tt;
        ahead = still_ahead r end all place own leave_acts has made running done rest b h here leave_none leave_others leave_next;
        first = tt;
      }

  pub told_left : told_of end.order (acts_at (slice_set all place (own ++ (map (TakesTurn b.tx.number) turns ++ Makes (step.Leaves client b.tx.number outcome kept) told ∷ []))) b.place) b.tx.number
      ≡ record { started = b.tx.started; left = Some (outcome, kept); turns = turns_so_far running b.tx.number ++ turns }
  told_left = told_now r end all place own leave_acts has made running done rest b h here leave_none leave_others b.tx.started (Some (outcome, kept)) turns
      (ap (λ ts. is_started r.order b.tx.number || list_any (is_start_of b.tx.number) ts) (one_step b.tx.number leaving told turns) ∙ or_false (is_started r.order b.tx.number)
      ∙ ap (λ (x : ToldTx). x.started) (told_own r end all place own leave_acts has made running done rest b h here leave_none leave_others) ∙ sym h.each.0.started)
      (ap (λ ts. leaving_of ts b.tx.number) (one_step b.tx.number leaving told turns) ∙ ap (λ x. if x then Some (outcome, kept) else None) (equal_self b.tx.number))
      (all_turns b.tx.number leaving told turns)
