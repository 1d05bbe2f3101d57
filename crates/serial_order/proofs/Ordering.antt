-- Transactions whose scopes don't conflict can't tell which of them came first.
--     swap_pair             one after the other, and the other way round
--     into_place, out_of_place      a transaction among those that rise, run where its number says
--     all_by_number, serial_by_number, serial_from_number           all of them
--     items_of_committed    those that didn't commit leave nothing
use Rattle.std.proofs.Common.{◌≡◌, ◌<◌, nat_lt, Bool, true, false, ◌&&◌, if◌then◌else◌, List, [], ◌∷◌, inl, inr, refl, sym, ◌∙◌, ap, subst, arith}
use Rattle.std.specs.Bool.{MatchBool}
use Rattle.std.specs.List.{AllByRecursion}
use Rattle.std.proofs.lemmas.Bool.{cases_Bool, ltb-true}
use Rattle.item_changes.specs.Items.{Items}
use Rattle.item_changes.specs.Effects.{applied_all}
use Rattle.item_changes.specs.Scopes.{Scope, scopes_conflict, part_of}
use Rattle.item_changes.proofs.Laws.{outside_all, swap_all}
use Rattle.machine_laws.specs.Machine.{Reacts, Writes}
use Rattle.serial_order.specs.FinishEntries.{FinishEntry, scope_of_entry, did_commit, changes_kept}
use Rattle.serial_order.specs.SerialRuns.{RunsOn, NeverStarts, RunsAlone, IsSerial, items_after}
use Rattle.serial_order.specs.NumberOrder.{both_run, IsInOrder, placed_by_number, by_number, committed_of}
use Rattle.serial_order.proofs.Leaving.{kept_none, kept_within}

-- ---- the test of two
both_of : (a b c : Bool) → a ≡ true → b ≡ true → (a && (b && c)) ≡ c
both_of a b c p q = ap (λ x. x && (b && c)) p ∙ ap (λ x. x && c) q

both_back : (a b c d : Bool) → c ≡ d → (a && (b && c)) ≡ (b && (a && d))
both_back true true c d e = e
both_back true false c d e = refl
both_back false true c d e = refl
both_back false false c d e = refl

module _ {D L : Type 0} (reacts : Reacts D) (writes : Writes D L) (either_way : (a b : Scope) → scopes_conflict a b ≡ scopes_conflict b a) where
  both_run_back : (e f : FinishEntry D L) → both_run e f ≡ both_run f e
  both_run_back e f = both_back e.started f.started (scopes_conflict (scope_of_entry e) (scope_of_entry f)) (scopes_conflict (scope_of_entry f) (scope_of_entry e)) (either_way (scope_of_entry e) (scope_of_entry f))

  abbrev Entry : Type 0
  Entry = FinishEntry D L

  abbrev left : Items → Entry → Items
  left items e = applied_all items (changes_kept e)

  -- a transaction sees of the items the part of its scope alone
  runs_by : (b : Bool) (e : Entry) (items more : Items) → (b ≡ true → part_of (scope_of_entry e) items ≡ part_of (scope_of_entry e) more)
      → MatchBool b (RunsOn reacts writes (part_of (scope_of_entry e) items) e.body e.turns e.changes e.kept e.by_host e.outcome) (NeverStarts reacts writes e.body e.turns e.changes e.kept e.by_host e.outcome)
      → MatchBool b (RunsOn reacts writes (part_of (scope_of_entry e) more) e.body e.turns e.changes e.kept e.by_host e.outcome) (NeverStarts reacts writes e.body e.turns e.changes e.kept e.by_host e.outcome)
  runs_by true e items more same r = subst (λ part. RunsOn reacts writes part e.body e.turns e.changes e.kept e.by_host e.outcome) (same refl) r
  runs_by false e items more same r = r

  undisturbed : (e f : Entry) (items at : Items) → both_run e f ≡ false → RunsAlone reacts writes at e → f.started ≡ true → part_of (scope_of_entry f) (left items e) ≡ part_of (scope_of_entry f) items
  undisturbed e f items at apart r ran = elim (cases_Bool e.started) [
    | inl is ↦ outside_all (scope_of_entry e) (scope_of_entry f) items (changes_kept e) (sym (both_of e.started f.started (scopes_conflict (scope_of_entry e) (scope_of_entry f)) is ran) ∙ apart) (kept_within reacts writes at e r)
    | inr out ↦ ap (λ ds. part_of (scope_of_entry f) (applied_all items ds)) (kept_none reacts writes at e out r)
  ]

  same_left : (e f : Entry) (items at then_ : Items) → both_run e f ≡ false → RunsAlone reacts writes at e → RunsAlone reacts writes then_ f → left (left items e) f ≡ left (left items f) e
  same_left e f items at then_ apart r s = elim (cases_Bool e.started) [
    | inr out ↦ ap (λ ds. applied_all (applied_all items ds) (changes_kept f)) (kept_none reacts writes at e out r) ∙ sym (ap (λ ds. applied_all (left items f) ds) (kept_none reacts writes at e out r))
    | inl is ↦ elim (cases_Bool f.started) [
      | inr out ↦ ap (λ ds. applied_all (left items e) ds) (kept_none reacts writes then_ f out s) ∙ sym (ap (λ ds. applied_all (applied_all items ds) (changes_kept e)) (kept_none reacts writes then_ f out s))
      | inl ran ↦ swap_all (scope_of_entry e) (scope_of_entry f) items (changes_kept e) (changes_kept f) (sym (both_of e.started f.started (scopes_conflict (scope_of_entry e) (scope_of_entry f)) is ran) ∙ apart) (kept_within reacts writes at e r) (kept_within reacts writes then_ f s)
    ]
  ]

  record Swapped (items : Items) (e f : Entry) : Type 0 where
    pub first : RunsAlone reacts writes items f
    pub second : RunsAlone reacts writes (left items f) e
    pub same : left (left items e) f ≡ left (left items f) e

  swap_pair : (items : Items) (e f : Entry) → both_run e f ≡ false → RunsAlone reacts writes items e → RunsAlone reacts writes (left items e) f → Swapped items e f
  swap_pair items e f apart r s =
      let first = runs_by f.started f (left items e) items (undisturbed e f items items apart r) s in
      record {
        first = first;
        second = runs_by e.started e items (left items f) (λ is. sym (undisturbed f e items items (sym (both_run_back e f) ∙ apart) first is)) r;
        same = same_left e f items items (left items e) apart r s;
      }

  -- ---- one into its place, and out of it
  abbrev After : Entry → Entry → Type 0
  After e f = both_run e f ≡ true → e.number < f.number

  can_pass : (e f : Entry) → After e f → nat_lt f.number e.number ≡ true → both_run e f ≡ false
  can_pass e f after less = elim (cases_Bool (both_run e f)) [
    | inl both ↦ let above : e.number < f.number = after both in let below = ltb-true f.number e.number less in absurd (omega arith)
    | inr apart ↦ apart
  ]

  record Placed (items : Items) (placed : List Entry) (e : Entry) (fs : List Entry) : Type 0 where
    pub serial : IsSerial reacts writes items placed
    pub same : items_after items placed ≡ items_after (left items e) fs

  into_place : (items : Items) (e : Entry) (fs : List Entry) → AllByRecursion (After e) fs → RunsAlone reacts writes items e → IsSerial reacts writes (left items e) fs → Placed items (placed_by_number e fs) e fs
  into_place items e [] all r s = record { serial = (r, tt); same = refl }
  into_place items e (f ∷ fs) all r s = elim (cases_Bool (nat_lt f.number e.number)) [
    | inr out ↦ subst (λ b. Placed items (if b then f ∷ placed_by_number e fs else e ∷ f ∷ fs) e (f ∷ fs)) (sym out) (record { serial = (r, s); same = refl })
    | inl less ↦
        let sw = swap_pair items e f (can_pass e f all.0 less) r s.0 in
        let more = into_place (left items f) e fs all.1 sw.second (subst (λ i. IsSerial reacts writes i fs) sw.same s.1) in
        subst (λ b. Placed items (if b then f ∷ placed_by_number e fs else e ∷ f ∷ fs) e (f ∷ fs)) (sym less) (record { serial = (sw.first, more.serial); same = more.same ∙ sym (ap (λ i. items_after i fs) sw.same) })
  ]

  -- the one that stood first is run first again
  out_of_place : (items : Items) (e : Entry) (fs : List Entry) → AllByRecursion (After e) fs → IsSerial reacts writes items (placed_by_number e fs) → IsSerial reacts writes items (e ∷ fs)
  out_of_place items e [] all s = s
  out_of_place items e (f ∷ fs) all s = elim (cases_Bool (nat_lt f.number e.number)) [
    | inr out ↦ subst (λ b. IsSerial reacts writes items (if b then f ∷ placed_by_number e fs else e ∷ f ∷ fs)) out s
    | inl less ↦
        let t = subst (λ b. IsSerial reacts writes items (if b then f ∷ placed_by_number e fs else e ∷ f ∷ fs)) less s in
        let rest = out_of_place (left items f) e fs all.1 t.1 in
        let sw = swap_pair items f e (sym (both_run_back e f) ∙ can_pass e f all.0 less) t.0 rest.0 in
        (sw.first, (sw.second, subst (λ i. IsSerial reacts writes i fs) sw.same rest.1))
  ]

  -- ---- what holds of all holds of them by number
  all_placed : (P : Entry → Type 0) (e : Entry) (fs : List Entry) → P e → AllByRecursion P fs → AllByRecursion P (placed_by_number e fs)
  all_placed P e [] p all = (p, tt)
  all_placed P e (f ∷ fs) p all = elim (nat_lt f.number e.number) as (λ b. AllByRecursion P (if b then f ∷ placed_by_number e fs else e ∷ f ∷ fs)) [
    | true ↦ (all.0, all_placed P e fs p all.1)
    | false ↦ (p, all)
  ]

  pub all_by_number : (P : Entry → Type 0) (es : List Entry) → AllByRecursion P es → AllByRecursion P (by_number es)
  all_by_number P [] all = tt
  all_by_number P (e ∷ es) all = all_placed P e (by_number es) all.0 (all_by_number P es all.1)

  -- ---- all of them
  pub serial_by_number : (items : Items) (es : List Entry) → IsInOrder es → IsSerial reacts writes items es → IsSerial reacts writes items (by_number es) × (items_after items es ≡ items_after items (by_number es))
  serial_by_number items [] order s = (tt, refl)
  serial_by_number items (e ∷ es) order s =
      let rest = serial_by_number (left items e) es order.1 s.1 in
      let placed = into_place items e (by_number es) (all_by_number (After e) es order.0) s.0 rest.0 in
      (placed.serial, rest.1 ∙ sym placed.same)

  pub serial_from_number : (items : Items) (es : List Entry) → IsInOrder es → IsSerial reacts writes items (by_number es) → IsSerial reacts writes items es
  serial_from_number items [] order s = tt
  serial_from_number items (e ∷ es) order s =
      let out = out_of_place items e (by_number es) (all_by_number (After e) es order.0) s in
      (out.0, serial_from_number (left items e) es order.1 out.1)

-- ---- what they leave
of_outcome : {D L : Type 0} (items : Items) (e : FinishEntry D L) (es : List (FinishEntry D L)) (b : Bool) → did_commit e.outcome ≡ b
    → ((more : Items) → items_after more es ≡ items_after more (committed_of es)) → items_after (applied_all items (if b then e.changes else [])) es ≡ items_after items (if b then e ∷ committed_of es else committed_of es)
of_outcome items e es true is rest = rest (applied_all items e.changes) ∙ ap (λ b. items_after (applied_all items (if b then e.changes else [])) (committed_of es)) (sym is)
of_outcome items e es false is rest = rest items

pub items_of_committed : {D L : Type 0} (items : Items) (es : List (FinishEntry D L)) → items_after items es ≡ items_after items (committed_of es)
items_of_committed items [] = refl
items_of_committed items (e ∷ es) = of_outcome items e es (did_commit e.outcome) refl (λ more. items_of_committed more es)
