-- What other crates may cite of clients that sit at a desk.
--     seat_begins, seat_counted, seat_taken, seat_asked, seat_later, seat_others, seat_drew, seat_given, seat_started, seat_finished, seat_alike
pub use Rattle.client_seats.proofs.Seats.{seat_begins, seat_counted, seat_taken, seat_asked, seat_later, seat_others, seat_drew, seat_given, seat_started, seat_finished, seat_alike}
