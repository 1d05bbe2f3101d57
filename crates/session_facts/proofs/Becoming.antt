-- What the calls of a body leave of its front.
--     SameMode              its mode, and that it hasn't committed;  becomes_same: through its calls
--     left_same             so as its body left it
--     aborted_left          what may not begin was aborted
use Rattle.std.proofs.Common.{◌≡◌, true, false, not, ◌&&◌, if◌then◌else◌, inl, inr, refl, sym, ◌∙◌, ap, subst}
use Rattle.std.specs.Prelude.{⊤}
use Rattle.std.proofs.lemmas.Bool.{cases_Bool}
use Rattle.idb_calls.specs.declared.calls.Call.{Call}
use Rattle.idb_calls.specs.declared.calls.Call.TheVariants.{Add, Put, Get, GetKey, Count, GetAll, GetAllKeys, Delete, Clear, OpenCursor, OpenKeyCursor, Continue, ContinuePrimaryKey, Advance, Update, DeleteHere}
use Rattle.request_lists.specs.Fronts.{Front, new_front, is_upgrade_mode, is_finished_phase}
use Rattle.request_lists.specs.Placing.{Becomes, Stays, Places, Changes, Commits, Aborts, after_call, after_rest, after_throw, at_rest}
use Rattle.request_lists.specs.declared.entries.Phase.{Phase}
use Rattle.request_lists.specs.declared.entries.Phase.TheVariants as phase
use Rattle.serial_order.specs.FinishEntries.{ScriptedBody, Scripted, front_left}
use Rattle.serial_order.specs.SerialRuns.{is_aborted_phase}
use Rattle.script_handlers.specs.Handling.{Script}
use Rattle.client_machine.specs.ClientSteps.{is_going, may_begin}

abbrev IsOpenPhase : Phase → Type 0
IsOpenPhase phase.Active = ⊤
IsOpenPhase phase.Inactive = ⊤
IsOpenPhase phase.Committing = ⊤
IsOpenPhase phase.Committed = ⊥
IsOpenPhase (phase.Aborted error) = ⊤

pub record SameMode {D : Type 0} (front last : Front D) : Type 0 where
  pub mode : last.mode ≡ front.mode
  pub going_on : IsOpenPhase last.phase

rest_open : (p : Phase) → IsOpenPhase p → IsOpenPhase (at_rest p)
rest_open phase.Active unended = tt
rest_open phase.Inactive unended = tt
rest_open phase.Committing unended = tt
rest_open phase.Committed unended = unended
rest_open (phase.Aborted error) unended = tt

module _ {D : Type 0} where
  -- ---- calls
  call_same : (call : Call) (handler : D) (front : Front D) → ((after_call call handler front).mode ≡ front.mode) × ((after_call call handler front).phase ≡ front.phase)
  call_same (Add store value key) handler front = (refl, refl)
  call_same (Put store value key) handler front = (refl, refl)
  call_same (Get target query) handler front = (refl, refl)
  call_same (GetKey target query) handler front = (refl, refl)
  call_same (Count target query) handler front = (refl, refl)
  call_same (GetAll target query count) handler front = (refl, refl)
  call_same (GetAllKeys target query count) handler front = (refl, refl)
  call_same (Delete store query) handler front = (refl, refl)
  call_same (Clear store) handler front = (refl, refl)
  call_same (OpenCursor target query direction) handler front = (refl, refl)
  call_same (OpenKeyCursor target query direction) handler front = (refl, refl)
  call_same (Continue cursor key) handler front = (refl, refl)
  call_same (ContinuePrimaryKey cursor key primary) handler front = (refl, refl)
  call_same (Advance cursor count) handler front = (refl, refl)
  call_same (Update cursor value) handler front = (refl, refl)
  call_same (DeleteHere cursor) handler front = (refl, refl)

  pub becomes_same : (front last : Front D) → Becomes front last → IsOpenPhase front.phase → SameMode front last
  becomes_same front _ Stays unended = record { mode = refl; going_on = unended }
  becomes_same front _ (Places mid last call handler b c i) unended =
      let s = becomes_same front mid b unended in
      let same = call_same call handler mid in
      record { mode = ap (λ (f : Front D). f.mode) i.front ∙ same.0 ∙ s.mode; going_on = subst IsOpenPhase (sym (ap (λ (f : Front D). f.phase) i.front ∙ same.1)) s.going_on }
  becomes_same front _ (Changes mid last call b i) unended =
      let s = becomes_same front mid b unended in
      record { mode = ap (λ (f : Front D). f.mode) i.front ∙ s.mode; going_on = subst IsOpenPhase (sym (ap (λ (f : Front D). f.phase) i.front)) s.going_on }
  becomes_same front _ (Commits mid last b i) unended =
      let s = becomes_same front mid b unended in
      record { mode = ap (λ (f : Front D). f.mode) i.front ∙ s.mode; going_on = subst IsOpenPhase (sym (ap (λ (f : Front D). f.phase) i.front)) tt }
  becomes_same front _ (Aborts mid last b i) unended =
      let s = becomes_same front mid b unended in
      record { mode = ap (λ (f : Front D). f.mode) i.front ∙ s.mode; going_on = subst IsOpenPhase (sym (ap (λ (f : Front D). f.phase) i.front)) tt }

  -- ---- as the body left it
  rested : (front last : Front D) → SameMode front last → SameMode front (after_rest last)
  rested front last s = record { mode = s.mode; going_on = rest_open last.phase s.going_on }

  thrown : (front last : Front D) → SameMode front last → SameMode front (after_throw last)
  thrown front last s = elim (cases_Bool (is_upgrade_mode last.mode && not (is_finished_phase last.phase))) [
    | inl is ↦ rw is (record { mode = s.mode; going_on = tt })
    | inr out ↦ rw out (rested front last s)
  ]

  pub left_same : (body : ScriptedBody D) → Becomes (new_front body.mode body.schema body.names) body.front → SameMode (new_front {D = D} body.mode body.schema body.names) (front_left body)
  left_same body b =
      let front : Front D = new_front body.mode body.schema body.names in
      let s = becomes_same front body.front b tt in
      elim body.threw as (λ t. SameMode front (if t then after_throw body.front else after_rest body.front)) [
        | true ↦ thrown front body.front s
        | false ↦ rested front body.front s
      ]

not_going : (p : Phase) → IsOpenPhase p → is_going p ≡ false → is_aborted_phase p ≡ true
not_going phase.Active unended out = cc
not_going phase.Inactive unended out = cc
not_going phase.Committing unended out = cc
not_going phase.Committed unended out = absurd unended
not_going (phase.Aborted error) unended out = refl

pub aborted_left : (body : ScriptedBody Script) → Becomes (new_front body.mode body.schema body.names) body.front → may_begin (Scripted body) ≡ false → is_aborted_phase (front_left body).phase ≡ true
aborted_left body b out = not_going (front_left body).phase (left_same body b).going_on out
