-- The rule of a driver without threads: whose turn it is.
--     is_ready              the client has a task, or an event that it hasn't taken
--     next_move             the least client that is ready; else the least transaction that isn't finished; else nothing is left
--     IsChosen              the client of this place is ready, or where a number is named that transaction of it is due
use Rattle.std.specs.Prelude.{◌≡◌, ℕ, Bool, List, slice_get, Option, Some, None, position}
use Rattle.idb_desk.specs.Desks.{DeskState}
use Rattle.idb_desk.specs.Steps.{DeskRun}
use Rattle.client_ties.specs.Unfinished.{least_of}
use Rattle.office_moves.specs.Moving.{has_work, IsMoveOf}
use Rattle.session_driver.specs.declared.choosing.NextMove.{NextMove}
use Rattle.session_driver.specs.declared.choosing.NextMove.TheVariants as move
use Rattle.session_driver.specs.declared.seats.Seat.{Seat}

abbrev pub is_ready : DeskState → Seat → Bool
is_ready d s = has_work d s.client

abbrev pub move_of : Option ℕ → Option ℕ → NextMove
move_of (Some place) least = move.Client place
move_of None (Some number) = move.Transaction number
move_of None None = move.Nothing

abbrev pub next_move : DeskState → List Seat → NextMove
next_move d seats = move_of (position (is_ready d) seats) (least_of d)

pub record IsChosen (r : DeskRun) (seats : List Seat) (place : ℕ) (number : Option ℕ) : Type 0 where
  pub seat : Seat
  pub seat_at : slice_get seats place ≡ Some seat
  pub due : IsMoveOf r seat.client number
