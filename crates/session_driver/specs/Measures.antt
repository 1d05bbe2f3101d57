-- What is left to do: by it each loop of a driver goes down.
--     seats_left            what is left to all clients
--     session_left          the same, with the room for the transactions that finish
use Rattle.std.specs.Prelude.{ℕ, ◌+◌, List, [], ◌∷◌}
use Rattle.office_moves.specs.Measures.{left_to, room_left}
use Rattle.session_driver.specs.declared.seats.Seat.{Seat}

abbrev pub seats_left : List Seat → ℕ
seats_left [] = 0
seats_left (s ∷ ss) = left_to s.client s.notes + seats_left ss

abbrev pub session_left : List Seat → List ℕ → ℕ
session_left seats finish = seats_left seats + room_left finish
