-- What more acts tell of a transaction.
--     steps_of, made_order  the steps among acts;  a run after they were made
--     theirs_with, made_theirs      steps of clients of the session, one more of these;  and acts of one client
--     made_faults           none of them is a fault
--     says, IsSilent        an act tells something of the transaction of this number
--     tame_silent           tasks and events tell nothing
--     told_on, told_off     behind its client's acts, and behind another client's, what is silent tells nothing
--     told_kept             of the client of any place
use Rattle.std.proofs.Common.{◌≡◌, ◌≢◌, ◌≤◌, ℕ, zero, suc, Bool, true, false, ◌||◌, List, [], ◌∷◌, ◌++◌, slice_get, slice_set, if◌then◌else◌, Option, Some, None, inl, inr, refl, sym, ◌∙◌, ap, subst}
use Rattle.std.specs.Prelude.{◌==◌}
use Rattle.std.specs.List.{list_any, AllByRecursion}
use Rattle.std.proofs.lemmas.Bool.{cases_Bool}
use Rattle.std.proofs.lemmas.Bool.Decides.{eqb_tells}
use Rattle.std.proofs.lemmas.List.{append-nil, append_assoc}
use Rattle.std.proofs.lemmas.List.Concat.{flat_map-append}
use Rattle.idb_schema.specs.Schemas.{SchemaData}
use Rattle.idb_calls.specs.declared.traces.Outcome.{Outcome}
use Rattle.desk_steps.specs.declared.steps.DeskStep.{DeskStep}
use Rattle.desk_steps.specs.declared.steps.DeskStep.TheVariants as step
use Rattle.idb_desk.specs.Steps.{DeskRun, with_step}
use Rattle.idb_desk.specs.Tokens.{client_of}
use Rattle.client_ties.specs.Acts.{Act, Noted, Makes, Fails, Begins, TakesTurn, turn_of_act, turns_of}
use Rattle.client_ties.specs.Answering.{MadeAtOnce}
use Rattle.client_ties.proofs.Laws.{is_tame}
use Rattle.legal_sessions.specs.Histories.{IsOfClients, AreOfClients}
use Rattle.legal_sessions.specs.SerialResults.{leaving_of, is_start_of, is_started}
use Rattle.legal_sessions.specs.Legal.{is_fault}
use Rattle.session_states.specs.Telling.{told_of, acts_where, acts_at}

-- ---- the steps
abbrev pub steps_of : List Act → List DeskStep
steps_of [] = []
steps_of (Makes t told ∷ acts) = t ∷ steps_of acts
steps_of (Noted n ∷ acts) = steps_of acts
steps_of (Fails t name ∷ acts) = steps_of acts
steps_of (Begins tx ∷ acts) = steps_of acts
steps_of (TakesTurn number notes ∷ acts) = steps_of acts

abbrev pub more_steps : DeskRun → List DeskStep → DeskRun
more_steps r ts = record { opening = r.opening; order = r.order ++ ts }

pub made_order : (client : ℕ) (r last : DeskRun) (acts : List Act) → MadeAtOnce client r acts last → last ≡ more_steps r (steps_of acts)
made_order client r last [] m = m ∙ ap (λ ts. record { opening = r.opening; order = ts }) (sym (append-nil r.order))
made_order client r last (Makes t told ∷ acts) m = made_order client (with_step r t) last acts m.1.1 ∙ ap (λ ts. record { opening = r.opening; order = ts }) (append_assoc r.order (t ∷ []) (steps_of acts))
made_order client r last (Noted n ∷ acts) m = made_order client r last acts m
made_order client r last (Fails t name ∷ acts) m = made_order client r last acts m.1.1
made_order client r last (Begins tx ∷ acts) m = made_order client r last acts m
made_order client r last (TakesTurn number notes ∷ acts) m = made_order client r last acts m

-- ---- whose they are
pub theirs_with : (count : ℕ) (order : List DeskStep) (t : DeskStep) → AreOfClients count order → IsOfClients count (client_of t) → AreOfClients count (order ++ t ∷ [])
theirs_with count [] t all one = (one, tt)
theirs_with count (s ∷ order) t all one = (all.0, theirs_with count order t all.1 one)

pub made_theirs : (count client : ℕ) (r last : DeskRun) (acts : List Act) → 1 ≤ client → client ≤ count → AreOfClients count r.order → MadeAtOnce client r acts last → AreOfClients count last.order
made_theirs count client r last [] low high all m = subst (λ (q : DeskRun). AreOfClients count q.order) (sym m) all
made_theirs count client r last (Makes t told ∷ acts) low high all m =
    made_theirs count client (with_step r t) last acts low high (theirs_with count r.order t all (subst (IsOfClients count) (sym m.0) (low, high))) m.1.1
made_theirs count client r last (Noted n ∷ acts) low high all m = made_theirs count client r last acts low high all m
made_theirs count client r last (Fails t name ∷ acts) low high all m = made_theirs count client r last acts low high all m.1.1
made_theirs count client r last (Begins tx ∷ acts) low high all m = made_theirs count client r last acts low high all m
made_theirs count client r last (TakesTurn number notes ∷ acts) low high all m = made_theirs count client r last acts low high all m

-- ---- faults
owned_calm : (client : ℕ) (t : DeskStep) → client_of t ≡ Some client → is_fault t ≡ false
owned_calm client (step.Asks who name want) e = refl
owned_calm client (step.Takes taker) e = refl
owned_calm client (step.Handles taker) e = refl
owned_calm client (step.Closes who) e = refl
owned_calm client (step.Creates number who scope m durability) e = refl
owned_calm client (step.Starts starter number) e = refl
owned_calm client (step.Leaves leaver number ended kept) e = refl
owned_calm client step.Faults e = cc

pub any_both : {X : Type 0} (p : X → Bool) (xs ys : List X) → list_any p ys ≡ false → list_any p (xs ++ ys) ≡ list_any p xs
any_both p [] ys none = none
any_both p (x ∷ xs) ys none = ap (λ b. p x || b) (any_both p xs ys none)

pub made_faults : (client : ℕ) (r last : DeskRun) (acts : List Act) → MadeAtOnce client r acts last → list_any is_fault last.order ≡ list_any is_fault r.order
made_faults client r last [] m = ap (λ (q : DeskRun). list_any is_fault q.order) m
made_faults client r last (Makes t told ∷ acts) m = made_faults client (with_step r t) last acts m.1.1 ∙ any_both is_fault r.order (t ∷ []) (ap (λ b. b || false) (owned_calm client t m.0))
made_faults client r last (Noted n ∷ acts) m = made_faults client r last acts m
made_faults client r last (Fails t name ∷ acts) m = made_faults client r last acts m.1.1
made_faults client r last (Begins tx ∷ acts) m = made_faults client r last acts m
made_faults client r last (TakesTurn number notes ∷ acts) m = made_faults client r last acts m

-- ---- acts that tell nothing
abbrev pub step_says : ℕ → DeskStep → Bool
step_says number (step.Asks who name want) = false
step_says number (step.Takes client) = false
step_says number (step.Handles client) = false
step_says number (step.Closes who) = false
step_says number (step.Creates drawn who scope m durability) = false
step_says number (step.Starts client started) = started == number
step_says number (step.Leaves client left ended kept) = left == number
step_says number step.Faults = false

abbrev pub says : ℕ → Act → Bool
says number (Noted n) = false
says number (Makes t told) = step_says number t
says number (Fails t name) = false
says number (Begins tx) = false
says number (TakesTurn other notes) = other == number

abbrev pub IsSilent : ℕ → List Act → Type 0
IsSilent number acts = AllByRecursion (λ a. says number a ≡ false) acts

tame_step : (number : ℕ) (t : DeskStep) (told : _) → is_tame (Makes t told) ≡ true → step_says number t ≡ false
tame_step number (step.Asks who name want) told e = refl
tame_step number (step.Takes client) told e = refl
tame_step number (step.Handles client) told e = refl
tame_step number (step.Closes who) told e = refl
tame_step number (step.Creates drawn who scope m durability) told e = refl
tame_step number (step.Starts client started) told e = cc
tame_step number (step.Leaves client left ended kept) told e = cc
tame_step number step.Faults told e = refl

pub tame_silent : (number : ℕ) (acts : List Act) → AllByRecursion (λ a. is_tame a ≡ true) acts → IsSilent number acts
tame_silent number [] all = tt
tame_silent number (Noted n ∷ acts) all = (refl, tame_silent number acts all.1)
tame_silent number (Makes t told ∷ acts) all = (tame_step number t told all.0, tame_silent number acts all.1)
tame_silent number (Fails t name ∷ acts) all = (refl, tame_silent number acts all.1)
tame_silent number (Begins tx ∷ acts) all = (refl, tame_silent number acts all.1)
tame_silent number (TakesTurn other notes ∷ acts) all = absurd (no all.0)
  where
    no : false ≡ true → ⊥
    no k = cc

-- ---- starts
no_start : (number : ℕ) (t : DeskStep) → step_says number t ≡ false → is_start_of number t ≡ false
no_start number (step.Asks who name want) e = refl
no_start number (step.Takes client) e = refl
no_start number (step.Handles client) e = refl
no_start number (step.Closes who) e = refl
no_start number (step.Creates drawn who scope m durability) e = refl
no_start number (step.Starts client started) e = e
no_start number (step.Leaves client left ended kept) e = refl
no_start number step.Faults e = refl

pub silent_starts : (number : ℕ) (acts : List Act) → IsSilent number acts → list_any (is_start_of number) (steps_of acts) ≡ false
silent_starts number [] all = refl
silent_starts number (Noted n ∷ acts) all = silent_starts number acts all.1
silent_starts number (Makes t told ∷ acts) all = ap (λ b. b || list_any (is_start_of number) (steps_of acts)) (no_start number t all.0) ∙ silent_starts number acts all.1
silent_starts number (Fails t name ∷ acts) all = silent_starts number acts all.1
silent_starts number (Begins tx ∷ acts) all = silent_starts number acts all.1
silent_starts number (TakesTurn other notes ∷ acts) all = silent_starts number acts all.1

-- ---- leaving
pub leaving_behind : (number : ℕ) (xs ys : List DeskStep) → leaving_of ys number ≡ None → leaving_of (xs ++ ys) number ≡ leaving_of xs number
leaving_behind number [] ys none = none
leaving_behind number (step.Asks who name want ∷ ts) ys none = leaving_behind number ts ys none
leaving_behind number (step.Takes client ∷ ts) ys none = leaving_behind number ts ys none
leaving_behind number (step.Handles client ∷ ts) ys none = leaving_behind number ts ys none
leaving_behind number (step.Closes who ∷ ts) ys none = leaving_behind number ts ys none
leaving_behind number (step.Creates drawn who scope m durability ∷ ts) ys none = leaving_behind number ts ys none
leaving_behind number (step.Starts client started ∷ ts) ys none = leaving_behind number ts ys none
leaving_behind number (step.Leaves client left ended kept ∷ ts) ys none = ap (λ o. if left == number then Some (ended, kept) else o) (leaving_behind number ts ys none)
leaving_behind number (step.Faults ∷ ts) ys none = leaving_behind number ts ys none

pub some_none : {X : Type 0} (x : X) → Some x ≡ None → ⊥
some_none x k = cc

pub leaving_first : (number : ℕ) (xs ys : List DeskStep) → leaving_of xs number ≡ None → leaving_of (xs ++ ys) number ≡ leaving_of ys number
leaving_first number [] ys none = refl
leaving_first number (step.Asks who name want ∷ ts) ys none = leaving_first number ts ys none
leaving_first number (step.Takes client ∷ ts) ys none = leaving_first number ts ys none
leaving_first number (step.Handles client ∷ ts) ys none = leaving_first number ts ys none
leaving_first number (step.Closes who ∷ ts) ys none = leaving_first number ts ys none
leaving_first number (step.Creates drawn who scope m durability ∷ ts) ys none = leaving_first number ts ys none
leaving_first number (step.Starts client started ∷ ts) ys none = leaving_first number ts ys none
leaving_first number (step.Leaves client left ended kept ∷ ts) ys none = elim (cases_Bool (left == number)) [
  | inl is ↦ absurd (some_none {X = Outcome × Option SchemaData} (ended, kept) (sym (ap (λ b. if b then Some (ended, kept) else leaving_of ts number) is) ∙ none))
  | inr out ↦ ap (λ b. if b then Some (ended, kept) else leaving_of (ts ++ ys) number) out ∙ leaving_first number ts ys (sym (ap (λ b. if b then Some (ended, kept) else leaving_of ts number) out) ∙ none)
]
leaving_first number (step.Faults ∷ ts) ys none = leaving_first number ts ys none

no_leaving : (number : ℕ) (t : DeskStep) (ts : List DeskStep) → step_says number t ≡ false → leaving_of (t ∷ ts) number ≡ leaving_of ts number
no_leaving number (step.Asks who name want) ts e = refl
no_leaving number (step.Takes client) ts e = refl
no_leaving number (step.Handles client) ts e = refl
no_leaving number (step.Closes who) ts e = refl
no_leaving number (step.Creates drawn who scope m durability) ts e = refl
no_leaving number (step.Starts client started) ts e = refl
no_leaving number (step.Leaves client left ended kept) ts e = ap (λ b. if b then Some (ended, kept) else leaving_of ts number) e
no_leaving number step.Faults ts e = refl

silent_leaves : (number : ℕ) (acts : List Act) → IsSilent number acts → leaving_of (steps_of acts) number ≡ None
silent_leaves number [] all = refl
silent_leaves number (Noted n ∷ acts) all = silent_leaves number acts all.1
silent_leaves number (Makes t told ∷ acts) all = no_leaving number t (steps_of acts) all.0 ∙ silent_leaves number acts all.1
silent_leaves number (Fails t name ∷ acts) all = silent_leaves number acts all.1
silent_leaves number (Begins tx ∷ acts) all = silent_leaves number acts all.1
silent_leaves number (TakesTurn other notes ∷ acts) all = silent_leaves number acts all.1

-- ---- turns
pub silent_turns : (number : ℕ) (acts : List Act) → IsSilent number acts → turns_of number acts ≡ []
silent_turns number [] all = refl
silent_turns number (Noted n ∷ acts) all = silent_turns number acts all.1
silent_turns number (Makes t told ∷ acts) all = silent_turns number acts all.1
silent_turns number (Fails t name ∷ acts) all = silent_turns number acts all.1
silent_turns number (Begins tx ∷ acts) all = silent_turns number acts all.1
silent_turns number (TakesTurn other notes ∷ acts) all = ap (λ b. (if b then notes ∷ [] else []) ++ turns_of number acts) all.0 ∙ silent_turns number acts all.1

pub turns_both : (number : ℕ) (acts more : List Act) → turns_of number (acts ++ more) ≡ turns_of number acts ++ turns_of number more
turns_both number acts more = flat_map-append (turn_of_act number) acts more

-- ---- all of it
pub told_off : (order : List DeskStep) (acts more : List Act) (number : ℕ) → IsSilent number more → told_of (order ++ steps_of more) acts number ≡ told_of order acts number
told_off order acts more number silent = λ i. record {
  started = any_both (is_start_of number) order (steps_of more) (silent_starts number more silent) i;
  left = leaving_behind number order (steps_of more) (silent_leaves number more silent) i;
  turns = turns_of number acts;
}

pub told_on : (order : List DeskStep) (acts more : List Act) (number : ℕ) → IsSilent number more → told_of (order ++ steps_of more) (acts ++ more) number ≡ told_of order acts number
told_on order acts more number silent =
    ap (λ turns. record { started = is_started (order ++ steps_of more) number; left = leaving_of (order ++ steps_of more) number; turns = turns })
    (turns_both number acts more ∙ ap (λ ns. turns_of number acts ++ ns) (silent_turns number more silent) ∙ append-nil (turns_of number acts))
    ∙ told_off order acts more number silent

-- ---- places
pub set_same : {X : Type 0} (xs : List X) (i : ℕ) (x y : X) → slice_get xs i ≡ Some x → slice_get (slice_set xs i y) i ≡ Some y
set_same [] i x y e = cc
set_same (z ∷ zs) zero x y e = refl
set_same (z ∷ zs) (suc i) x y e = set_same zs i x y e

pub set_other : {X : Type 0} (xs : List X) (i j : ℕ) (y : X) → j ≢ i → slice_get (slice_set xs i y) j ≡ slice_get xs j
set_other [] i j y out = refl
set_other (z ∷ zs) zero zero y out = absurd (out refl)
set_other (z ∷ zs) zero (suc j) y out = refl
set_other (z ∷ zs) (suc i) zero y out = refl
set_other (z ∷ zs) (suc i) (suc j) y out = set_other zs i j y (λ e. out (ap suc e))

pub told_kept : (order : List DeskStep) (acts : List (List Act)) (place at number : ℕ) (own more : List Act) → slice_get acts place ≡ Some own → IsSilent number more
    → told_of (order ++ steps_of more) (acts_at (slice_set acts place (own ++ more)) at) number ≡ told_of order (acts_at acts at) number
told_kept order acts place at number own more has silent = elim (eqb_tells at place) [
  | inl p ↦
      ap (λ (o : Option (List Act)). told_of (order ++ steps_of more) (acts_where o) number) (ap (slice_get (slice_set acts place (own ++ more))) p.1 ∙ set_same acts place own (own ++ more) has)
      ∙ told_on order own more number silent
      ∙ ap (λ (o : Option (List Act)). told_of order (acts_where o) number) (sym (ap (slice_get acts) p.1 ∙ has))
  | inr p ↦
      ap (λ (o : Option (List Act)). told_of (order ++ steps_of more) (acts_where o) number) (set_other acts place at (own ++ more) p.1)
      ∙ told_off order (acts_at acts at) more number silent
]
