-- What each move leaves to do.
--     seat_less             less is left to a session where one of its clients has less left
use Rattle.std.proofs.Common.{◌≡◌, ℕ, zero, suc, ◌+◌, ◌<◌, List, [], ◌∷◌, slice_get, slice_set, Some, ap, arith}
use Rattle.office_moves.specs.Measures.{left_to}
use Rattle.session_driver.specs.declared.seats.Seat.{Seat}
use Rattle.session_driver.specs.Measures.{seats_left}

seat_moved : (seats : List Seat) (place : ℕ) (old new : Seat) → slice_get seats place ≡ Some old → seats_left (slice_set seats place new) + left_to old.client old.notes ≡ seats_left seats + left_to new.client new.notes
seat_moved [] place old new at = absurd cc
seat_moved (s ∷ ss) zero old new at =
    let here : s ≡ old = cc in
    swapped (left_to new.client new.notes) (left_to s.client s.notes) (left_to old.client old.notes) (seats_left ss) (ap (λ (x : Seat). left_to x.client x.notes) here)
  where
    swapped : (n m o r : ℕ) → m ≡ o → (n + r) + o ≡ (m + r) + n
    swapped n m o r e = omega (arith, e)
seat_moved (s ∷ ss) (suc place) old new at = behind (left_to s.client s.notes) (seats_left (slice_set ss place new)) (seats_left ss) (left_to old.client old.notes) (left_to new.client new.notes) (seat_moved ss place old new at)
  where
    behind : (h a b o n : ℕ) → a + o ≡ b + n → (h + a) + o ≡ (h + b) + n
    behind h a b o n e = omega (arith, e)

pub seat_less : (seats : List Seat) (place : ℕ) (old new : Seat) (room left : ℕ) → slice_get seats place ≡ Some old → left_to new.client new.notes + left < left_to old.client old.notes + room → seats_left (slice_set seats place new) + left < seats_left seats + room
seat_less seats place old new room left at less = over (seats_left (slice_set seats place new)) (seats_left seats) (left_to old.client old.notes) (left_to new.client new.notes) room left (seat_moved seats place old new at) less
  where
    over : (a b o n r l : ℕ) → a + o ≡ b + n → n + l < o + r → a + l < b + r
    over a b o n r l e less = omega (arith, e, less)
