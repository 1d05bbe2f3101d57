use Rattle.client_seats.proofs.Seats.{seat_begins, seat_counted, seat_taken, seat_asked, seat_later, seat_others, seat_drew, seat_given, seat_started, seat_finished, seat_alike}
use Rattle.client_seats.proofs.laws_of_seats.seat_laws.Goals as goal

pub returns-clause-begins : goal.returns-clause-begins
returns-clause-begins c = seat_begins

pub returns-clause-counted : goal.returns-clause-counted
returns-clause-counted c = seat_counted

pub returns-clause-taken : goal.returns-clause-taken
returns-clause-taken c = seat_taken

pub returns-clause-asked : goal.returns-clause-asked
returns-clause-asked c = seat_asked

pub returns-clause-later : goal.returns-clause-later
returns-clause-later c = seat_later

pub returns-clause-others : goal.returns-clause-others
returns-clause-others c = seat_others

pub returns-clause-drew : goal.returns-clause-drew
returns-clause-drew c = seat_drew

pub returns-clause-given : goal.returns-clause-given
returns-clause-given c = seat_given

pub returns-clause-started : goal.returns-clause-started
returns-clause-started c = seat_started

pub returns-clause-finished : goal.returns-clause-finished
returns-clause-finished c = seat_finished

pub returns-clause-alike : goal.returns-clause-alike
returns-clause-alike c = seat_alike
