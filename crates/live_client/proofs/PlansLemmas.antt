-- Lists of calls, and fronts and states whose handlers are plain data themselves.
--     all_end, all_rest, all_first      what holds of each item of a list
--     placed_next, placed_none          calls in order
--     front_same            a front whose handlers are seen as they are
--     reacts_so                         a handler did what its plan says
use Rattle.std.proofs.Common.{◌≡◌, List, [], ◌∷◌, ◌++◌, map, drop, slice_get, Option, Some, None, option_map, refl, sym, ◌∙◌, ap, subst}
use Rattle.std.specs.List.{AllByRecursion}
use Rattle.idb_calls.specs.declared.calls.Call.{Call}
use Rattle.idb_calls.specs.declared.events.Event.{Event}
use Rattle.request_lists.specs.declared.handlers.HandlerEnd.{HandlerEnd}
use Rattle.request_lists.specs.declared.entries.FrontCursor.{FrontCursor}
use Rattle.request_lists.specs.declared.entries.ListEntry.{ListEntry}
use Rattle.request_lists.specs.declared.entries.ListEntry.TheVariants.{Request, Turn, Change}
use Rattle.request_lists.specs.Fronts.{Front, front_map, cursor_map, entry_map}
use Rattle.live_client.specs.Plans.{Plan, asked_one, asked_all, asked_turn, same_plan, PlanReacts}

-- ---- lists
module _ {A : Type 0} (P : A → Type 0) where
  pub all_end : (xs : List A) (x : A) → AllByRecursion P xs → P x → AllByRecursion P (xs ++ x ∷ [])
  all_end [] x a p = (p, tt)
  all_end (y ∷ ys) x a p = (a.0, all_end ys x a.1 p)

  pub all_rest : (xs : List A) → AllByRecursion P xs → AllByRecursion P (drop 1 xs)
  all_rest [] a = tt
  all_rest (x ∷ xs) a = a.1

  pub all_first : (xs : List A) (x : A) → AllByRecursion P xs → slice_get xs 0 ≡ Some x → P x
  all_first [] x a at = cc
  all_first (y ∷ ys) x a at = let e : y ≡ x = cc in subst P e a.0

module _ {A D : Type 0} (make : A → D) where
  pub placed_next : (rs : List (Call × A)) (r : Call × A) (front mid : Front D) → slice_get rs 0 ≡ Some r → mid ≡ asked_one front r.0 (make r.1) → asked_all make (drop 1 rs) mid ≡ asked_all make rs front
  placed_next [] r front mid at is = cc
  placed_next (s ∷ rs) r front mid at is = let e : r ≡ s = cc in ap (asked_all make rs) (is ∙ ap (λ (t : Call × A). asked_one front t.0 (make t.1)) e)

  pub placed_none : (rs : List (Call × A)) (front : Front D) → slice_get rs 0 ≡ None → asked_all make rs front ≡ front
  placed_none [] front at = refl
  placed_none (r ∷ rs) front at = cc

-- ---- handlers seen as they are
seen_same : (o : Option Plan) → option_map same_plan o ≡ o
seen_same None = refl
seen_same (Some h) = refl

cursors_same : (cs : List (FrontCursor Plan)) → map (cursor_map same_plan) cs ≡ cs
cursors_same [] = refl
cursors_same (c ∷ cs) = ap (λ h. record c { handler = h } ∷ map (cursor_map same_plan) cs) (seen_same c.handler) ∙ ap (λ ds. c ∷ ds) (cursors_same cs)

entry_same : (entry : ListEntry Plan) → entry_map same_plan entry ≡ entry
entry_same (Request request call handler) = refl
entry_same (Turn cursor call) = refl
entry_same (Change call) = refl

entries_same : (entries : List (ListEntry Plan)) → map (entry_map same_plan) entries ≡ entries
entries_same [] = refl
entries_same (e ∷ es) = ap (λ d. d ∷ map (entry_map same_plan) es) (entry_same e) ∙ ap (λ ds. e ∷ ds) (entries_same es)

pub front_same : (front : Front Plan) → front_map same_plan front ≡ front
front_same front = ap (λ cs. record front { cursors = cs; waiting = map (entry_map same_plan) front.waiting }) (cursors_same front.cursors) ∙ ap (λ es. record front { waiting = es }) (entries_same front.waiting)

pub reacts_so : (plan after : Plan) (front last : Front Plan) (event : Event) (how : HandlerEnd) → after ≡ record plan { turns = drop 1 plan.turns } → last ≡ asked_turn (slice_get plan.turns 0) front → how ≡ plan.ends
    → PlanReacts plan (front_map same_plan front) event after (front_map same_plan last) how
reacts_so plan after front last event how left placed ends = (left, front_same last ∙ placed ∙ ap (asked_turn (slice_get plan.turns 0)) (sym (front_same front)), ends)
