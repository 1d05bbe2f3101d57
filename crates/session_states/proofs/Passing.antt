-- The transactions that began, while a client acts.
--     found_first           the transaction of a number that a client has is the first that waits
--     finished_still        what finished stays so
--     begun_grows           a task or an event
--     rest_waits, still_ahead, told_now     acts of the first that waits: the others wait as before, and what is told of it
use Rattle.std.proofs.Common.{◌≡◌, ◌≢◌, ℕ, ◌+◌, ◌≤◌, ◌<◌, Bool, true, false, not, ◌||◌, List, [], ◌∷◌, ◌++◌, map, filter, slice_get, slice_set, if◌then◌else◌, Option, Some, None, inl, inr, refl, sym, ◌∙◌, ap, subst, arith}
use Rattle.std.specs.Prelude.{◌==◌}
use Rattle.std.specs.List.{list_any, find, AllByRecursion}
use Rattle.std.specs.List.Sorted.{IsPermutation}
use Rattle.std.proofs.lemmas.Bool.{cases_Bool}
use Rattle.std.proofs.lemmas.List.{append-nil, append_assoc, map-append}
use Rattle.std.proofs.lemmas.List.Sorted.{IsPermutation-append_left, IsPermutation-trans}
use Rattle.idb_schema.specs.Schemas.{SchemaData}
use Rattle.idb_calls.specs.declared.traces.Outcome.{Outcome}
use Rattle.desk_steps.specs.declared.steps.DeskStep.{DeskStep}
use Rattle.idb_desk.specs.Steps.{DeskRun, desk_run}
use Rattle.client_ties.specs.FinishEntries.{FinishEntry}
use Rattle.script_runs.specs.declared.notes.Note.{Note}
use Rattle.script_handlers.specs.Handling.{Script}
use Rattle.client_ties.specs.Acts.{Act, txs_begun, turns_of}
use Rattle.client_ties.specs.Answering.{MadeAtOnce}
use Rattle.client_ties.specs.ClientStates.{ClientTx, is_tx, started_if}
use Rattle.client_ties.specs.Unfinished.{started_where, other_drawn, AreDrawn, Draws}
use Rattle.client_ties.specs.Ties.{shown_tx}
use Rattle.client_ties.proofs.Laws.{is_tame}
use Rattle.legal_sessions.specs.SerialResults.{is_start_of, is_started, leaving_of}
use Rattle.session_states.specs.Telling.{ToldTx, told_of, nothing_told, BegunAt, begun_at, begun_from, acts_where, acts_at, txs_at, shown_begun, as_begun, RunningTx, is_running, turns_so_far, body_so_far, told_so_far}
use Rattle.session_states.specs.UnderWay.{IsWaiting, IsAhead, IsFirstWaiting, HasBegun, AreFinishedAs}
use Rattle.session_states.proofs.Told.{steps_of, made_order, IsSilent, tame_silent, told_kept, set_same, leaving_first, turns_both}
use Rattle.session_states.proofs.Beginnings.{some_same, equal, equal_self, unequal, begun_more, drawn_join, drawn_both, all_below, AreApart, apart_behind, apart_before}

abbrev Entry : Type 0
Entry = FinishEntry Script Note

all_both : {X : Type 0} (P : X → Type 0) (xs ys : List X) → AllByRecursion P xs → AllByRecursion P ys → AllByRecursion P (xs ++ ys)
all_both P [] ys a b = b
all_both P (x ∷ xs) ys a b = (a.0, all_both P xs ys a.1 b)

-- ---- the first that waits
no_tx : (place number : ℕ) (bs : List BegunAt) → AreApart number bs → find (is_tx number) (txs_at place bs) ≡ None
no_tx place number [] all = refl
no_tx place number (b ∷ bs) all = elim (b.place == place) as (λ t. find (is_tx number) (if t then b.tx ∷ txs_at place bs else txs_at place bs) ≡ None) [
  | true ↦ ap (λ t. if t then Some b.tx else find (is_tx number) (txs_at place bs)) all.0 ∙ no_tx place number bs all.1
  | false ↦ no_tx place number bs all.1
]

pub found_first : (place : ℕ) (b : BegunAt) (bs : List BegunAt) (tx : ClientTx) → AreApart b.tx.number bs → find (is_tx b.tx.number) (txs_at place (b ∷ bs)) ≡ Some tx → (b.place ≡ place) × (b.tx ≡ tx)
found_first place b bs tx apart e = elim (cases_Bool (b.place == place)) [
  | inl is ↦ (equal b.place place is, some_same (sym (ap (λ t. if t then Some b.tx else find (is_tx b.tx.number) (txs_at place bs)) (equal_self b.tx.number)) ∙ sym (ap (λ t. find (is_tx b.tx.number) (if t then b.tx ∷ txs_at place bs else txs_at place bs)) is) ∙ e))
  | inr out ↦ absurd (no (sym (no_tx place b.tx.number bs apart) ∙ sym (ap (λ t. find (is_tx b.tx.number) (if t then b.tx ∷ txs_at place bs else txs_at place bs)) out) ∙ e))
]
  where
    no : None ≡ Some tx → ⊥
    no k = cc

pub started_apart : (place number : ℕ) (bs : List BegunAt) → AreApart number bs → map (started_if number) (txs_at place bs) ≡ txs_at place bs
started_apart place number [] all = refl
started_apart place number (b ∷ bs) all = elim (b.place == place) as (λ t. map (started_if number) (if t then b.tx ∷ txs_at place bs else txs_at place bs) ≡ (if t then b.tx ∷ txs_at place bs else txs_at place bs)) [
  | true ↦ ap (λ t. (if t then record b.tx { started = true } else b.tx) ∷ map (started_if number) (txs_at place bs)) all.0 ∙ ap (λ txs. b.tx ∷ txs) (started_apart place number bs all.1)
  | false ↦ started_apart place number bs all.1
]

pub left_apart : (place number : ℕ) (bs : List BegunAt) → AreApart number bs → filter (λ tx. not (is_tx number tx)) (txs_at place bs) ≡ txs_at place bs
left_apart place number [] all = refl
left_apart place number (b ∷ bs) all = elim (b.place == place) as (λ t. filter (λ tx. not (is_tx number tx)) (if t then b.tx ∷ txs_at place bs else txs_at place bs) ≡ (if t then b.tx ∷ txs_at place bs else txs_at place bs)) [
  | true ↦ ap (λ t. if not t then b.tx ∷ filter (λ tx. not (is_tx number tx)) (txs_at place bs) else filter (λ tx. not (is_tx number tx)) (txs_at place bs)) all.0 ∙ ap (λ txs. b.tx ∷ txs) (left_apart place number bs all.1)
  | false ↦ left_apart place number bs all.1
]

pub shown_started : (number : ℕ) (bs : List BegunAt) → AreApart number bs → started_where number (map shown_begun bs) ≡ map shown_begun bs
shown_started number [] all = refl
shown_started number (b ∷ bs) all = ap (λ t. (if t then record (shown_begun b) { started = true } else shown_begun b) ∷ started_where number (map shown_begun bs)) all.0 ∙ ap (λ us. shown_begun b ∷ us) (shown_started number bs all.1)

pub shown_left : (number : ℕ) (bs : List BegunAt) → AreApart number bs → other_drawn number (map shown_begun bs) ≡ map shown_begun bs
shown_left number [] all = refl
shown_left number (b ∷ bs) all = ap (λ t. if not t then shown_begun b ∷ other_drawn number (map shown_begun bs) else other_drawn number (map shown_begun bs)) all.0 ∙ ap (λ us. shown_begun b ∷ us) (shown_left number bs all.1)

abbrev pub as_started : BegunAt → BegunAt
as_started b = record b { tx = record b.tx { started = true } }

pub begun_started : (done : List BegunAt) (b : BegunAt) (bs : List BegunAt) → map as_begun (done ++ as_started b ∷ bs) ≡ map as_begun (done ++ b ∷ bs)
begun_started [] b bs = refl
begun_started (d ∷ done) b bs = ap (λ l. as_begun d ∷ l) (begun_started done b bs)

pub drawn_started : (first next : ℕ) (done : List BegunAt) (b : BegunAt) (bs : List BegunAt) → AreDrawn first (map shown_begun (done ++ b ∷ bs)) next → AreDrawn first (map shown_begun (done ++ as_started b ∷ bs)) next
drawn_started first next [] b bs d = (d.0, d.1)
drawn_started first next (x ∷ done) b bs d = (d.0, drawn_started (first + 1) next done b bs d.1)

-- ---- the one that runs
no_turns : (running : Option RunningTx) (number : ℕ) → is_running running number ≡ false → turns_so_far running number ≡ []
no_turns None number out = refl
no_turns (Some t) number out = ap (λ b. if b then t.turns else []) out

own_body : (running : Option RunningTx) (b : BegunAt) → is_running running b.tx.number ≡ false → body_so_far running b ≡ b.tx.body
own_body None b out = refl
own_body (Some t) b out = ap (λ s. if s then t.body else b.tx.body) out

told_idle : (running : Option RunningTx) (number : ℕ) → is_running running number ≡ false → told_so_far running number ≡ nothing_told
told_idle running number out = λ i. record { started = out i; left = None; turns = no_turns running number out i }

waits_idle : (order : List DeskStep) (acts : List (List Act)) (running other : Option RunningTx) (b : BegunAt) → is_running running b.tx.number ≡ false → is_running other b.tx.number ≡ false
    → IsWaiting order acts running b → IsWaiting order acts other b
waits_idle order acts running other b out also w = record {
  told = w.told ∙ told_idle running b.tx.number out ∙ sym (told_idle other b.tx.number also);
  started = w.started ∙ out ∙ sym also;
  body = own_body other b also;
}

-- of another number
not_running : (running : Option RunningTx) (first : BegunAt) (rest : List BegunAt) (number : ℕ) → IsFirstWaiting running (first ∷ rest) → (number == first.tx.number) ≡ false → is_running running number ≡ false
not_running None first rest number is out = refl
not_running (Some t) first rest number is out = unequal t.number number (λ e. no (sym out ∙ ap (λ n. number == n) (is ∙ e) ∙ equal_self number))
  where
    no : false ≡ true → ⊥
    no k = cc

module _ (r end : DeskRun) (all : List (List Act)) (place : ℕ) (own acts : List Act) (has : slice_get all place ≡ Some own) (made : MadeAtOnce (place + 1) r acts end) where
  abbrev pub acts_after : List (List Act)
  acts_after = slice_set all place (own ++ acts)

  order_is : end.order ≡ r.order ++ steps_of acts
  order_is = ap (λ (q : DeskRun). q.order) (made_order (place + 1) r end acts made)

  pub told_at : (at number : ℕ) → IsSilent number acts → told_of end.order (acts_at acts_after at) number ≡ told_of r.order (acts_at all at) number
  told_at at number silent = ap (λ ts. told_of ts (acts_at acts_after at) number) order_is ∙ told_kept r.order all place at number own acts has silent

  pub finished_still : (bs : List BegunAt) (es : List Entry) → AllByRecursion (λ (b : BegunAt). IsSilent b.tx.number acts) bs → AreFinishedAs r.order all bs es → AreFinishedAs end.order acts_after bs es
  finished_still [] [] silent are = tt
  finished_still [] (e ∷ es) silent are = absurd are
  finished_still (b ∷ bs) [] silent are = absurd are
  finished_still (b ∷ bs) (e ∷ es) silent are = (record { number = are.0.number; body = are.0.body; told = told_at b.place b.tx.number silent.0 ∙ are.0.told }, finished_still bs es silent.1 are.1)

  waiting_still : (running : Option RunningTx) (bs : List BegunAt) → AllByRecursion (λ (b : BegunAt). IsSilent b.tx.number acts) bs → AllByRecursion (IsWaiting r.order all running) bs → AllByRecursion (IsWaiting end.order acts_after running) bs
  waiting_still running [] silent are = tt
  waiting_still running (b ∷ bs) silent are = (record { told = told_at b.place b.tx.number silent.0 ∙ are.0.told; started = are.0.started; body = are.0.body }, waiting_still running bs silent.1 are.1)

  -- ---- a task or an event
  module _ (running : Option RunningTx) (done waiting : List BegunAt) (h : HasBegun r all running done waiting)
      (tame : AllByRecursion (λ a. is_tame a ≡ true) acts) (fresh : AllByRecursion (λ (tx : ClientTx). tx.started ≡ false) (txs_begun acts)) (draws : Draws (desk_run r) (map (shown_tx (place + 1)) (txs_begun acts)) (desk_run end)) where
    abbrev new : List BegunAt
    new = map (begun_at place) (txs_begun acts)

    all_tame : (bs : List BegunAt) → AllByRecursion (λ (b : BegunAt). IsSilent b.tx.number acts) bs
    all_tame [] = tt
    all_tame (b ∷ bs) = (tame_silent b.tx.number acts tame, all_tame bs)

    new_shown : (txs : List ClientTx) → map shown_begun (map (begun_at place) txs) ≡ map (shown_tx (place + 1)) txs
    new_shown [] = refl
    new_shown (tx ∷ txs) = ap (λ us. shown_tx (place + 1) tx ∷ us) (new_shown txs)

    new_begun : (txs : List ClientTx) → AllByRecursion (λ (tx : ClientTx). tx.started ≡ false) txs → map as_begun (map (begun_at place) txs) ≡ map (begun_at place) txs
    new_begun [] all_fresh = refl
    new_begun (tx ∷ txs) all_fresh = λ i. begun_at place (record tx { started = sym all_fresh.0 i }) ∷ new_begun txs all_fresh.1 i

    next : ℕ
    next = (desk_run r).board.scopes.next

    abbrev numbers_new : AreDrawn (desk_run r).board.scopes.next (map shown_begun new) (desk_run end).board.scopes.next
    numbers_new = subst (λ us. AreDrawn (desk_run r).board.scopes.next us (desk_run end).board.scopes.next) (sym (new_shown (txs_begun acts))) draws.numbers

    ahead_of : (number : ℕ) → (desk_run r).board.scopes.next ≤ number → is_running running number ≡ false
    ahead_of number le = by_waiting waiting running h.first (all_below 1 (desk_run r).board.scopes.next (done ++ waiting) h.numbers)
      where
        last_below : (ds ws : List BegunAt) → AllByRecursion (λ (b : BegunAt). (1 ≤ b.tx.number) × (b.tx.number < (desk_run r).board.scopes.next)) (ds ++ ws) → AllByRecursion (λ (b : BegunAt). (1 ≤ b.tx.number) × (b.tx.number < (desk_run r).board.scopes.next)) ws
        last_below [] ws below = below
        last_below (d ∷ ds) ws below = last_below ds ws below.1

        far : (a b n : ℕ) → a ≡ b → a < n → n ≤ number → b ≢ number
        far a b n same less more e = omega (arith, same, less, more, e)

        by_waiting : (ws : List BegunAt) (t : Option RunningTx) → IsFirstWaiting t ws → AllByRecursion (λ (b : BegunAt). (1 ≤ b.tx.number) × (b.tx.number < (desk_run r).board.scopes.next)) (done ++ ws) → is_running t number ≡ false
        by_waiting ws None first below = refl
        by_waiting [] (Some t) first below = absurd first
        by_waiting (w ∷ ws) (Some t) first below = unequal t.number number (far w.tx.number t.number (desk_run r).board.scopes.next first (last_below done (w ∷ ws) below).0.1 le)

    each_new : (first last : ℕ) (txs : List ClientTx) → (desk_run r).board.scopes.next ≤ first → AllByRecursion (λ (tx : ClientTx). tx.started ≡ false) txs → AreDrawn first (map shown_begun (map (begun_at place) txs)) last
        → AllByRecursion (IsWaiting end.order acts_after running) (map (begun_at place) txs)
    each_new first last [] le all_fresh drawn = tt
    each_new first last (tx ∷ txs) le all_fresh drawn =
        let is : tx.number ≡ first = drawn.0 in
        let above : (desk_run r).board.scopes.next ≤ tx.number = omega (arith, le, is) in
        let idle = ahead_of tx.number above in (
          record {
            told = told_at place tx.number (tame_silent tx.number acts tame) ∙ h.ahead place tx.number above ∙ sym (told_idle running tx.number idle);
            started = all_fresh.0 ∙ sym idle;
            body = own_body running (begun_at place tx) idle;
          },
          each_new (first + 1) last txs (omega (arith, le)) all_fresh.1 drawn.1,
        )

    first_still : (t : Option RunningTx) (ws more : List BegunAt) → IsFirstWaiting t ws → IsFirstWaiting t (ws ++ more)
    first_still None ws more first = tt
    first_still (Some t) [] more first = absurd first
    first_still (Some t) (w ∷ ws) more first = first

    grown_from : (first last : ℕ) (bs : List BegunAt) → AreDrawn first (map shown_begun bs) last → first ≤ last
    grown_from first last [] d = omega (arith, d)
    grown_from first last (b ∷ bs) d = let k = grown_from (first + 1) last bs d.1 in omega (arith, k)

    pub begun_grows : HasBegun end acts_after running done (waiting ++ new)
    begun_grows =
        let together : (done ++ waiting) ++ new ≡ done ++ (waiting ++ new) = append_assoc done waiting new in
        record {
          all = subst (IsPermutation (begun_from 0 acts_after)) (ap (λ bs. map as_begun (done ++ waiting) ++ bs) (sym (new_begun (txs_begun acts) fresh)) ∙ sym (map-append as_begun (done ++ waiting) new) ∙ ap (map as_begun) together)
              (IsPermutation-trans (begun_from 0 acts_after) (begun_from 0 all ++ new) (map as_begun (done ++ waiting) ++ new)
              (subst (λ n. IsPermutation (begun_from 0 acts_after) (begun_from 0 all ++ map (begun_at n) (txs_begun acts))) (let k : 0 + place ≡ place = omega arith in k) (begun_more 0 place all own acts has))
              (IsPermutation-append_left new (begun_from 0 all) (map as_begun (done ++ waiting)) h.all));
          numbers = subst (λ bs. AreDrawn 1 bs (desk_run end).board.scopes.next) (sym (map-append shown_begun (done ++ waiting) new) ∙ ap (map shown_begun) together)
              (drawn_join 1 (desk_run r).board.scopes.next (desk_run end).board.scopes.next (map shown_begun (done ++ waiting)) (map shown_begun new) h.numbers numbers_new);
          unfinished = draws.unfinished ∙ ap (λ us. us ++ map (shown_tx (place + 1)) (txs_begun acts)) h.unfinished ∙ ap (λ us. map shown_begun waiting ++ us) (sym (new_shown (txs_begun acts))) ∙ sym (map-append shown_begun waiting new);
          each = all_both (IsWaiting end.order acts_after running) waiting new (waiting_still running waiting (all_tame waiting) h.each) (each_new (desk_run r).board.scopes.next (desk_run end).board.scopes.next (txs_begun acts) (omega arith) fresh numbers_new);
          ahead = λ at number le. told_at at number (tame_silent number acts tame) ∙ h.ahead at number (let k = grown_from (desk_run r).board.scopes.next (desk_run end).board.scopes.next new numbers_new in omega (arith, k, le));
          first = first_still running waiting new h.first;
        }

  -- ---- the first that waits starts, has a turn, or leaves
  -- the acts are of its number alone
  module _ (running : Option RunningTx) (done rest : List BegunAt) (b : BegunAt) (h : HasBegun r all running done (b ∷ rest)) (here : b.place ≡ place)
      (none : txs_begun acts ≡ []) (others : (number : ℕ) → (number == b.tx.number) ≡ false → IsSilent number acts) where
    parts : (mid : ℕ) × ((AreDrawn 1 (map shown_begun done) mid) × (AreDrawn mid (map shown_begun (b ∷ rest)) (desk_run r).board.scopes.next))
    parts = drawn_both 1 (desk_run r).board.scopes.next done (b ∷ rest) h.numbers

    pub rest_apart : AreApart b.tx.number rest
    rest_apart = apart_behind parts.0 (desk_run r).board.scopes.next b rest parts.1.1

    pub done_apart : AreApart b.tx.number done
    done_apart = apart_before 1 parts.0 (desk_run r).board.scopes.next b done rest parts.1.0 parts.1.1

    pub apart_silent : (bs : List BegunAt) → AreApart b.tx.number bs → AllByRecursion (λ (x : BegunAt). IsSilent x.tx.number acts) bs
    apart_silent [] apart = tt
    apart_silent (x ∷ bs) apart = (others x.tx.number apart.0, apart_silent bs apart.1)

    -- the others wait as before
    pub rest_waits : (other : Option RunningTx) → IsFirstWaiting other (b ∷ rest) → AllByRecursion (IsWaiting end.order acts_after other) rest
    rest_waits other first = each rest rest_apart (waiting_still running rest (apart_silent rest rest_apart) h.each.1)
      where
        each : (bs : List BegunAt) → AreApart b.tx.number bs → AllByRecursion (IsWaiting end.order acts_after running) bs → AllByRecursion (IsWaiting end.order acts_after other) bs
        each [] apart are = tt
        each (x ∷ bs) apart are =
            (waits_idle end.order acts_after running other x (not_running running b rest x.tx.number h.first apart.0) (not_running other b rest x.tx.number first apart.0) are.0, each bs apart.1 are.1)

    pub still_ahead : (desk_run end).board.scopes.next ≡ (desk_run r).board.scopes.next → IsAhead end.order acts_after (desk_run end).board.scopes.next
    still_ahead same at number le =
        told_at at number (others number (unequal number b.tx.number (far number b.tx.number (desk_run r).board.scopes.next (desk_run end).board.scopes.next below same le)))
        ∙ h.ahead at number (lower (desk_run r).board.scopes.next (desk_run end).board.scopes.next number same le)
      where
        below : b.tx.number < (desk_run r).board.scopes.next
        below = (all_below parts.0 (desk_run r).board.scopes.next (b ∷ rest) parts.1.1).0.1

        far : (n k next later : ℕ) → k < next → later ≡ next → later ≤ n → n ≢ k
        far n k next later less is above e = omega (arith, less, is, above, e)

        lower : (next later n : ℕ) → later ≡ next → later ≤ n → next ≤ n
        lower next later n is above = omega (arith, is, above)

    pub all_begun : IsPermutation (begun_from 0 acts_after) (map as_begun (done ++ b ∷ rest))
    all_begun = IsPermutation-trans (begun_from 0 acts_after) (begun_from 0 all) (map as_begun (done ++ b ∷ rest))
        (subst (λ l. IsPermutation (begun_from 0 acts_after) l) (ap (λ txs. begun_from 0 all ++ map (begun_at (0 + place)) txs) none ∙ append-nil (begun_from 0 all)) (begun_more 0 place all own acts has)) h.all

    -- what is told of it behind its client's acts
    own_there : acts_at all b.place ≡ own
    own_there = ap acts_where (ap (slice_get all) here ∙ has)

    after_there : acts_at acts_after b.place ≡ own ++ acts
    after_there = ap acts_where (ap (slice_get acts_after) here ∙ set_same all place own (own ++ acts) has)

    pub told_own : told_of r.order own b.tx.number ≡ told_so_far running b.tx.number
    told_own = ap (λ l. told_of r.order l b.tx.number) (sym own_there) ∙ h.each.0.told

    pub told_now : (started : Bool) (left : Option (Outcome × Option SchemaData)) (turns : List (List Note))
        → (is_started r.order b.tx.number || list_any (is_start_of b.tx.number) (steps_of acts)) ≡ started → leaving_of (steps_of acts) b.tx.number ≡ left → turns_of b.tx.number acts ≡ turns
        → told_of end.order (acts_at acts_after b.place) b.tx.number ≡ record { started = started; left = left; turns = turns_so_far running b.tx.number ++ turns }
    told_now started left turns is_so left_so turns_so =
        ap (λ ts. told_of ts (acts_at acts_after b.place) b.tx.number) order_is ∙ ap (λ l. told_of (r.order ++ steps_of acts) l b.tx.number) after_there ∙ (λ i. record {
          started = (any_append (is_start_of b.tx.number) r.order (steps_of acts) ∙ is_so) i;
          left = (leaving_first b.tx.number r.order (steps_of acts) (ap (λ (t : ToldTx). t.left) told_own) ∙ left_so) i;
          turns = (turns_both b.tx.number own acts ∙ ap (λ ts. ts ++ turns_of b.tx.number acts) (ap (λ (t : ToldTx). t.turns) told_own) ∙ ap (λ ts. turns_so_far running b.tx.number ++ ts) turns_so) i;
        })
      where
        any_append : {X : Type 0} (p : X → Bool) (xs ys : List X) → list_any p (xs ++ ys) ≡ (list_any p xs || list_any p ys)
        any_append p [] ys = refl
        any_append p (x ∷ xs) ys = ap (λ t. p x || t) (any_append p xs ys) ∙ assoc (p x) (list_any p xs) (list_any p ys)
          where
            assoc : (a c d : Bool) → (a || (c || d)) ≡ ((a || c) || d)
            assoc true c d = refl
            assoc false c d = refl
