use Rattle.std.proofs.Common.{◌≡◌, length, map}
use Rattle.session_states.specs.Sessions.{fresh_seats}
use Rattle.session_driver.specs.Seats.{seat_seen, script_of_seat}
use Rattle.session_driver.proofs.seats.seats_of.Given as goal

abbrev pub invariant-loop-script : goal.invariant-loop-script
invariant-loop-script l = record {
  seats : map seat_seen l.seats.items ≡ fresh_seats 1 l.yielded;
  scripts : map script_of_seat l.seats.items ≡ l.yielded;
  number : l.number ≡ length l.yielded;
}
