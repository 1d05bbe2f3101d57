-- The clients of a session by their places.
--     seat_at               the client of a place
--     all_stay              the desk has moved, and no client
--     seats_changed         one client has moved, and the desk
use Rattle.std.proofs.Common.{◌≡◌, ◌≢◌, ℕ, zero, suc, ◌+◌, ◌≤◌, List, [], ◌∷◌, slice_get, slice_set, Some, refl, sym, ◌∙◌, subst, arith}
use Rattle.idb_desk.specs.Steps.{DeskRun}
use Rattle.script_statements.specs.declared.script.Client.{Client}
use Rattle.client_ties.specs.Acts.{Act}
use Rattle.session_states.specs.Sessions.{SeatNow}
use Rattle.session_states.specs.Telling.{BegunAt}
use Rattle.session_states.specs.UnderWay.{IsSeatOf, AreSeats}

some_same : {X : Type 0} {x y : X} → Some x ≡ Some y → x ≡ y
some_same e = cc

pub record SeatAt (first : ℕ) (r : DeskRun) (waiting : List BegunAt) (scripts : List Client) (acts : List (List Act)) (place : ℕ) (seat : SeatNow) : Type 0 where
  pub script : Client
  pub own : List Act
  pub script_at : slice_get scripts place ≡ Some script
  pub own_at : slice_get acts place ≡ Some own
  pub is : IsSeatOf script (first + place) r waiting seat own

pub seat_at : (first : ℕ) (r : DeskRun) (waiting : List BegunAt) (scripts : List Client) (seats : List SeatNow) (acts : List (List Act)) (place : ℕ) (seat : SeatNow)
    → AreSeats first r waiting scripts seats acts → slice_get seats place ≡ Some seat → SeatAt first r waiting scripts acts place seat
seat_at first r waiting scripts [] acts place seat are e = cc
seat_at first r waiting [] (s ∷ ss) acts place seat are e = absurd are
seat_at first r waiting (c ∷ cs) (s ∷ ss) [] place seat are e = absurd are
seat_at first r waiting (c ∷ cs) (s ∷ ss) (a ∷ more) zero seat are e = record {
  script = c;
  own = a;
  script_at = refl;
  own_at = refl;
  is = subst (λ n. IsSeatOf c n r waiting seat a) (let k : first ≡ first + 0 = omega arith in k) (subst (λ x. IsSeatOf c first r waiting x a) (some_same e) are.0);
}
seat_at first r waiting (c ∷ cs) (s ∷ ss) (a ∷ more) (suc place) seat are e =
    let h = seat_at (first + 1) r waiting cs ss more place seat are.1 e in
    record {
      script = h.script;
      own = h.own;
      script_at = h.script_at;
      own_at = h.own_at;
      is = subst (λ n. IsSeatOf h.script n r waiting seat h.own) (let k : (first + 1) + place ≡ first + suc place = omega arith in k) h.is;
    }

-- each other client stays in its place
abbrev pub OthersStay : DeskRun → List BegunAt → DeskRun → List BegunAt → ℕ → Type 0
OthersStay r waiting end later place = (script : Client) (at : ℕ) (seat : SeatNow) (acts : List Act) → at ≢ place → IsSeatOf script at r waiting seat acts → IsSeatOf script at end later seat acts

pub all_stay : (first : ℕ) (r end : DeskRun) (waiting later : List BegunAt) (scripts : List Client) (seats : List SeatNow) (acts : List (List Act))
    → ((script : Client) (at : ℕ) (seat : SeatNow) (own : List Act) → first ≤ at → IsSeatOf script at r waiting seat own → IsSeatOf script at end later seat own)
    → AreSeats first r waiting scripts seats acts → AreSeats first end later scripts seats acts
all_stay first r end waiting later [] [] [] stays are = tt
all_stay first r end waiting later [] [] (a ∷ more) stays are = absurd are
all_stay first r end waiting later [] (s ∷ ss) acts stays are = absurd are
all_stay first r end waiting later (c ∷ cs) [] acts stays are = absurd are
all_stay first r end waiting later (c ∷ cs) (s ∷ ss) [] stays are = absurd are
all_stay first r end waiting later (c ∷ cs) (s ∷ ss) (a ∷ more) stays are =
    (stays c first s a (omega arith) are.0, all_stay (first + 1) r end waiting later cs ss more (λ script at seat own le is. stays script at seat own (omega (arith, le)) is) are.1)

pub seats_changed : (first : ℕ) (r end : DeskRun) (waiting later : List BegunAt) (scripts : List Client) (seats : List SeatNow) (acts : List (List Act)) (place : ℕ) (script : Client) (seat : SeatNow) (own : List Act)
    → AreSeats first r waiting scripts seats acts → slice_get scripts place ≡ Some script
    → IsSeatOf script (first + place) end later seat own → OthersStay r waiting end later (first + place)
    → AreSeats first end later scripts (slice_set seats place seat) (slice_set acts place own)
seats_changed first r end waiting later [] seats acts place script seat own are e is stay = cc
seats_changed first r end waiting later (c ∷ cs) [] acts place script seat own are e is stay = absurd are
seats_changed first r end waiting later (c ∷ cs) (s ∷ ss) [] place script seat own are e is stay = absurd are
seats_changed first r end waiting later (c ∷ cs) (s ∷ ss) (a ∷ more) zero script seat own are e is stay =
    let at : first + 0 ≡ first = omega arith in (
      subst (λ x. IsSeatOf x first end later seat own) (sym (some_same e)) (subst (λ n. IsSeatOf script n end later seat own) at is),
      all_stay (first + 1) r end waiting later cs ss more (λ x n s2 o le is2. stay x n s2 o (λ same. no n le (same ∙ at)) is2) are.1,
    )
  where
    no : (n : ℕ) → first + 1 ≤ n → n ≡ first → ⊥
    no n le same = omega (arith, le, same)
seats_changed first r end waiting later (c ∷ cs) (s ∷ ss) (a ∷ more) (suc place) script seat own are e is stay =
    let at : first + suc place ≡ (first + 1) + place = omega arith in (
      stay c first s a (no place) are.0,
      seats_changed (first + 1) r end waiting later cs ss more place script seat own are.1 e (subst (λ n. IsSeatOf script n end later seat own) at is)
          (λ x n s2 o out is2. stay x n s2 o (λ same. out (same ∙ at)) is2),
    )
  where
    no : (p : ℕ) → first ≢ first + suc p
    no p same = omega (arith, same)
