-- The order in which transactions finished, beside the steps by which they left.
--     quiet_lefts           by what is silent none leaves
--     left_told             one that has no outcome hasn't left
--     order_still           steps by which none starts and none leaves
--     order_started         one starts that hasn't left
--     order_left            one leaves, and finishes
--     fits_last             so it fits with one more behind all
--     fits_longer           one that left a host that was faulted did so, whatever follows
--     fits_doubted          one leaves behind a fault
use Rattle.std.proofs.Common.{◌≡◌, ℕ, Bool, true, false, not, ◌&&◌, ◌||◌, List, [], ◌∷◌, ◌++◌, if◌then◌else◌, Option, Some, None, inl, inr, refl, sym, ◌∙◌, ap}
use Rattle.std.specs.Prelude.{◌==◌}
use Rattle.std.specs.List.{list_any, AllByRecursion}
use Rattle.std.proofs.lemmas.Bool.{cases_Bool}
use Rattle.idb_schema.specs.Schemas.{SchemaData}
use Rattle.idb_calls.specs.declared.traces.Outcome.{Outcome}
use Rattle.desk_steps.specs.declared.steps.DeskStep.{DeskStep}
use Rattle.desk_steps.specs.declared.steps.DeskStep.TheVariants as step
use Rattle.client_ties.specs.FinishEntries.{FinishEntry}
use Rattle.client_ties.specs.Acts.{Act, Noted, Makes, Fails, Begins, TakesTurn}
use Rattle.script_runs.specs.declared.notes.Note.{Note}
use Rattle.script_handlers.specs.Handling.{Script}
use Rattle.legal_sessions.specs.SerialResults.{leaving_of, is_start_of, is_started, is_leaving_of, has_left}
use Rattle.legal_sessions.specs.Legal.{leaves_before, is_listed, is_listed_before, FinishFits, is_fault, leaves_behind_fault, FitsFault}
use Rattle.session_states.specs.UnderWay.{HasFinishOrder}
use Rattle.session_states.proofs.Told.{steps_of, step_says, IsSilent, some_none}
use Rattle.session_states.proofs.Beginnings.{equal}

no : true ≡ false → ⊥
no k = cc

or_right : (a : Bool) → (a || true) ≡ true
or_right true = refl
or_right false = refl

pub or_none : (a : Bool) → (a || false) ≡ a
or_none true = refl
or_none false = refl

either_part : (a b : Bool) → (a || b) ≡ true → a ≡ false → b ≡ true
either_part true b e out = absurd (no out)
either_part false b e out = e

and_with : (a b c : Bool) → (b ≡ true → c ≡ true) → (a && b) ≡ true → (a && c) ≡ true
and_with true b c more e = more e
and_with false b c more e = e

any_split : {X : Type 0} (p : X → Bool) (xs ys : List X) → list_any p (xs ++ ys) ≡ (list_any p xs || list_any p ys)
any_split p [] ys = refl
any_split p (x ∷ xs) ys = ap (λ b. p x || b) (any_split p xs ys) ∙ moved (p x) (list_any p xs) (list_any p ys)
  where
    moved : (a b c : Bool) → (a || (b || c)) ≡ ((a || b) || c)
    moved true b c = refl
    moved false b c = refl

-- ---- what is silent
no_leave : (number : ℕ) (t : DeskStep) → step_says number t ≡ false → is_leaving_of number t ≡ false
no_leave number (step.Asks who name want) e = refl
no_leave number (step.Takes client) e = refl
no_leave number (step.Handles client) e = refl
no_leave number (step.Closes who) e = refl
no_leave number (step.Creates drawn who scope m durability) e = refl
no_leave number (step.Starts client started) e = refl
no_leave number (step.Leaves client left ended kept) e = e
no_leave number step.Faults e = refl

pub quiet_lefts : (number : ℕ) (acts : List Act) → IsSilent number acts → has_left (steps_of acts) number ≡ false
quiet_lefts number [] all = refl
quiet_lefts number (Noted n ∷ acts) all = quiet_lefts number acts all.1
quiet_lefts number (Makes t told ∷ acts) all = ap (λ b. b || has_left (steps_of acts) number) (no_leave number t all.0) ∙ quiet_lefts number acts all.1
quiet_lefts number (Fails t name ∷ acts) all = quiet_lefts number acts all.1
quiet_lefts number (Begins tx ∷ acts) all = quiet_lefts number acts all.1
quiet_lefts number (TakesTurn other notes ∷ acts) all = quiet_lefts number acts all.1

-- ---- leaving
pub left_told : (order : List DeskStep) (number : ℕ) → leaving_of order number ≡ None → has_left order number ≡ false
left_told [] number none = refl
left_told (step.Asks who name want ∷ ts) number none = left_told ts number none
left_told (step.Takes client ∷ ts) number none = left_told ts number none
left_told (step.Handles client ∷ ts) number none = left_told ts number none
left_told (step.Closes who ∷ ts) number none = left_told ts number none
left_told (step.Creates drawn who scope m durability ∷ ts) number none = left_told ts number none
left_told (step.Starts client started ∷ ts) number none = left_told ts number none
left_told (step.Leaves client left ended kept ∷ ts) number none = elim (cases_Bool (left == number)) [
  | inl is ↦ absurd (some_none {X = Outcome × Option SchemaData} (ended, kept) (sym (ap (λ b. if b then Some (ended, kept) else leaving_of ts number) is) ∙ none))
  | inr out ↦ ap (λ b. b || has_left ts number) out ∙ left_told ts number (sym (ap (λ b. if b then Some (ended, kept) else leaving_of ts number) out) ∙ none)
]
left_told (step.Faults ∷ ts) number none = left_told ts number none

-- ---- one left before another was started
none_before : (ts : List DeskStep) (first second : ℕ) → is_started ts second ≡ false → leaves_before ts first second ≡ false
none_before [] first second none = refl
none_before (t ∷ ts) first second none =
    let rest : is_started ts second ≡ false = right_false (is_start_of second t) (is_started ts second) none in
    elim (is_leaving_of first t) as (λ b. (if b then is_started ts second else leaves_before ts first second) ≡ false) [
      | true ↦ rest
      | false ↦ none_before ts first second rest
    ]
  where
    right_false : (a b : Bool) → (a || b) ≡ false → b ≡ false
    right_false true b e = absurd (no e)
    right_false false b e = e

before_still : (ts more : List DeskStep) (first second : ℕ) → is_started more second ≡ false → leaves_before (ts ++ more) first second ≡ leaves_before ts first second
before_still [] more first second none = none_before more first second none
before_still (t ∷ ts) more first second none =
    λ i. if is_leaving_of first t then (any_split (is_start_of second) ts more ∙ ap (λ b. is_started ts second || b) none ∙ or_none (is_started ts second)) i else before_still ts more first second none i

left_first : (ts : List DeskStep) (first second : ℕ) → leaves_before ts first second ≡ true → has_left ts first ≡ true
left_first [] first second e = absurd (no (sym e))
left_first (t ∷ ts) first second e = elim (cases_Bool (is_leaving_of first t)) [
  | inl is ↦ ap (λ b. b || has_left ts first) is
  | inr out ↦ ap (λ b. is_leaving_of first t || b) (left_first ts first second (sym (ap (λ b. if b then is_started ts second else leaves_before ts first second) out) ∙ e)) ∙ or_right (is_leaving_of first t)
]

-- ---- one more number
before_longer : (ns more : List ℕ) (first second : ℕ) → is_listed_before ns first second ≡ true → is_listed_before (ns ++ more) first second ≡ true
before_longer [] more first second e = absurd (no (sym e))
before_longer (n ∷ ns) more first second e = elim (cases_Bool (n == first)) [
  | inl is ↦
      ap (λ b. if b then is_listed second (ns ++ more) else is_listed_before (ns ++ more) first second) is
      ∙ any_split (λ k. k == second) ns more ∙ ap (λ b. b || is_listed second more) (sym (ap (λ b. if b then is_listed second ns else is_listed_before ns first second) is) ∙ e)
  | inr out ↦
      ap (λ b. if b then is_listed second (ns ++ more) else is_listed_before (ns ++ more) first second) out
      ∙ before_longer ns more first second (sym (ap (λ b. if b then is_listed second ns else is_listed_before ns first second) out) ∙ e)
]

before_last : (ns : List ℕ) (first last second : ℕ) → is_listed first ns ≡ true → (last == second) ≡ true → is_listed_before (ns ++ last ∷ []) first second ≡ true
before_last [] first last second e is = absurd (no (sym e))
before_last (n ∷ ns) first last second e is = elim (cases_Bool (n == first)) [
  | inl here ↦
      ap (λ b. if b then is_listed second (ns ++ last ∷ []) else is_listed_before (ns ++ last ∷ []) first second) here
      ∙ any_split (λ k. k == second) ns (last ∷ []) ∙ ap (λ b. is_listed second ns || (b || false)) is ∙ or_right (is_listed second ns)
  | inr out ↦
      ap (λ b. if b then is_listed second (ns ++ last ∷ []) else is_listed_before (ns ++ last ∷ []) first second) out
      ∙ before_last ns first last second (either_part (n == first) (is_listed first ns) e out) is
]

-- ---- the order
module _ (order : List DeskStep) (finish : List ℕ) (h : HasFinishOrder order finish) where
  pub fits_last : (last : ℕ) → FinishFits order (finish ++ last ∷ [])
  fits_last last first second before listed = elim (cases_Bool (is_listed second finish)) [
    | inl is ↦ before_longer finish (last ∷ []) first second (h.fits first second before is)
    | inr out ↦ before_last finish first last second (sym (h.all first) ∙ left_first order first second before)
        (sym (or_none (last == second)) ∙ either_part (is_listed second finish) (last == second || false) (sym (any_split (λ k. k == second) finish (last ∷ [])) ∙ listed) out)
  ]

  module _ (more : List DeskStep) (none : (number : ℕ) → is_started more number ≡ false) where
    pub order_still : ((number : ℕ) → has_left more number ≡ false) → HasFinishOrder (order ++ more) finish
    order_still quiet = record {
      all = λ number. any_split (is_leaving_of number) order more ∙ ap (λ b. has_left order number || b) (quiet number) ∙ or_none (has_left order number) ∙ h.all number;
      fits = λ first second before listed. h.fits first second (sym (before_still order more first second (none second)) ∙ before) listed;
    }

    pub order_left : (last : ℕ) → ((number : ℕ) → has_left more number ≡ (last == number)) → HasFinishOrder (order ++ more) (finish ++ last ∷ [])
    order_left last leaves = record {
      all = λ number. any_split (is_leaving_of number) order more ∙ (λ i. h.all number i || (leaves number ∙ sym (or_none (last == number))) i) ∙ sym (any_split (λ k. k == number) finish (last ∷ []));
      fits = λ first second before listed. fits_last last first second (sym (before_still order more first second (none second)) ∙ before) listed;
    }

  pub order_started : (client number : ℕ) → leaving_of order number ≡ None → HasFinishOrder (order ++ step.Starts client number ∷ []) finish
  order_started client number stays = record {
    all = λ other. any_split (is_leaving_of other) order (step.Starts client number ∷ []) ∙ or_none (has_left order other) ∙ h.all other;
    fits = λ first second before listed. elim (cases_Bool (number == second)) [
      | inl is ↦ absurd (no (sym listed ∙ sym (h.all second) ∙ ap (has_left order) (sym (equal number second is)) ∙ left_told order number stays))
      | inr out ↦ h.fits first second (sym (before_still order (step.Starts client number ∷ []) first second (ap (λ b. b || false) out)) ∙ before) listed
    ];
  }

-- ---- behind a fault
abbrev Entry : Type 0
Entry = FinishEntry Script Note

behind_longer : (order more : List DeskStep) (number : ℕ) → leaves_behind_fault order number ≡ true → leaves_behind_fault (order ++ more) number ≡ true
behind_longer [] more number e = absurd (no (sym e))
behind_longer (t ∷ ts) more number e = elim (cases_Bool (is_fault t)) [
  | inl is ↦
      ap (λ b. if b then has_left (ts ++ more) number else not (is_leaving_of number t) && leaves_behind_fault (ts ++ more) number) is
      ∙ any_split (is_leaving_of number) ts more
      ∙ ap (λ b. b || has_left more number) (sym (ap (λ b. if b then has_left ts number else not (is_leaving_of number t) && leaves_behind_fault ts number) is) ∙ e)
  | inr out ↦
      ap (λ b. if b then has_left (ts ++ more) number else not (is_leaving_of number t) && leaves_behind_fault (ts ++ more) number) out
      ∙ and_with (not (is_leaving_of number t)) (leaves_behind_fault ts number) (leaves_behind_fault (ts ++ more) number) (behind_longer ts more number) (sym (ap (λ b. if b then has_left ts number else not (is_leaving_of number t) && leaves_behind_fault ts number) out) ∙ e)
]

pub fits_longer : (order more : List DeskStep) (es : List Entry) → AllByRecursion (FitsFault order) es → AllByRecursion (FitsFault (order ++ more)) es
fits_longer order more [] all = tt
fits_longer order more (e ∷ es) all = ((λ k. behind_longer order more e.number (all.0 k)), fits_longer order more es all.1)

pub fits_doubted : (order more : List DeskStep) (number : ℕ) → list_any is_fault order ≡ true → leaving_of order number ≡ None → has_left more number ≡ true → leaves_behind_fault (order ++ more) number ≡ true
fits_doubted order more number faulted stays leaves = behind order faulted (left_told order number stays)
  where
    neither : (a b : Bool) → (a || b) ≡ false → (a ≡ false) × (b ≡ false)
    neither true b e = absurd (no e)
    neither false b e = (refl, e)

    behind : (ts : List DeskStep) → list_any is_fault ts ≡ true → has_left ts number ≡ false → leaves_behind_fault (ts ++ more) number ≡ true
    behind [] is none = absurd (no (sym is))
    behind (t ∷ ts) is none =
        let n = neither (is_leaving_of number t) (has_left ts number) none in
        elim (cases_Bool (is_fault t)) [
          | inl now ↦
              ap (λ b. if b then has_left (ts ++ more) number else not (is_leaving_of number t) && leaves_behind_fault (ts ++ more) number) now
              ∙ any_split (is_leaving_of number) ts more ∙ ap (λ b. has_left ts number || b) leaves ∙ or_right (has_left ts number)
          | inr out ↦
              ap (λ b. if b then has_left (ts ++ more) number else not (is_leaving_of number t) && leaves_behind_fault (ts ++ more) number) out
              ∙ ap (λ b. not b && leaves_behind_fault (ts ++ more) number) n.0
              ∙ behind ts (either_part (is_fault t) (list_any is_fault ts) is out) n.1
        ]
