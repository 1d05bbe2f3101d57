-- A number that no unfinished transaction has.
use Rattle.std.proofs.Common.{◌≡◌, ℕ, Bool, true, false, not, ◌||◌, filter, List, [], ◌∷◌, None, ap, refl}
use Rattle.std.specs.List.{find, list_any}
use Rattle.scope_desk.specs.declared.tickets.Ticket.{Ticket}
use Rattle.scope_desk.specs.Starts.{Scopes, is_numbered, finished}

either_false : (a b : Bool) → a || b ≡ false → (a ≡ false) × (b ≡ false)
either_false true b e = cc
either_false false b e = (refl, e)

pub none_found : (number : ℕ) (ts : List Ticket) → list_any (is_numbered number) ts ≡ false → find (is_numbered number) ts ≡ None
none_found number [] e = refl
none_found number (t ∷ ts) e =
    let h = either_false (is_numbered number t) (list_any (is_numbered number) ts) e in
    rw h.0 (none_found number ts h.1)

all_stay : (number : ℕ) (ts : List Ticket) → list_any (is_numbered number) ts ≡ false → filter (λ t. not (is_numbered number t)) ts ≡ ts
all_stay number [] e = refl
all_stay number (t ∷ ts) e =
    let h = either_false (is_numbered number t) (list_any (is_numbered number) ts) e in
    rw h.0 (ap (λ us. t ∷ us) (all_stay number ts h.1))

pub none_finished : (s : Scopes) (number : ℕ) → list_any (is_numbered number) s.unfinished ≡ false → finished s number ≡ s
none_finished s number e = ap (λ (us : List Ticket). record { unfinished = us; next = s.next }) (all_stay number s.unfinished e)
