use Rattle.std.proofs.Common.{rules, List, insert, ap, subst, sym, ◌∙◌, None}
use Rattle.script_statements.specs.declared.script.Client.{Client}
use Rattle.office_moves.specs.Offices.{OfficeState}
use Rattle.office_moves.specs.Moving.{IsMoveOf}
use Rattle.office_moves.specs.Scenes.{done_of_book, scene_of, StandsOn}
use Rattle.session_driver.specs.declared.seats.Seat.{Seat}
use Rattle.session_driver.proofs.Driving.{chosen_within, chosen_seat, chosen_due, seat_sits, stands_there, client_back, less_left}
use Rattle.session_driver.proofs.Stopping.{stopped_driving, stopped_move, stopped_behind}
use Rattle.session_driver.proofs.Stopping.{at_err}
use Rattle.session_driver.proofs.driver.move_client.Goals as goal

pub remove-seat-requires : goal.remove-seat-requires
remove-seat-requires g c = chosen_within c.args.desk c.args.seats.now.items c.args.place c.args.number _ c.args.seats.now.ok.0 c.requires.chosen

pub new-office-requires : goal.new-office-requires
new-office-requires g c =
    seat_sits c.args.of.now.value c.args.desk c.args.seats.now.items (done_of_book c.args.book.now) c.args.databases.now c.args.place c.remove-seat.result c.requires.driving
    (chosen_seat c.args.desk c.args.seats.now.items c.args.place c.args.number _ c.remove-seat.result c.args.seats.now.ok.0 c.requires.chosen c.remove-seat.ensures.value)

pub make_move-requires-clause-due : goal.make_move-requires-clause-due
make_move-requires-clause-due g c κs within =
    subst (λ (o : OfficeState). IsMoveOf o.run o.client c.args.number) (sym c.new-office.ensures)
    (chosen_due c.args.desk c.args.seats.now.items c.args.place c.args.number c.remove-seat.result c.requires.chosen
    (chosen_seat c.args.desk c.args.seats.now.items c.args.place c.args.number _ c.remove-seat.result c.args.seats.now.ok.0 c.requires.chosen c.remove-seat.ensures.value))

pub make_move-requires-clause-on : goal.make_move-requires-clause-on
make_move-requires-clause-on g c κs within =
    subst (λ (o : OfficeState). StandsOn None (scene_of o c.remove-seat.result.notes (done_of_book c.args.book.now) c.args.databases.now))
    (sym (c.new-office.ensures ∙ ap (λ (a : Client). record { blocks = a.blocks; client = c.remove-seat.result.client; run = c.args.desk }) c.in_ok-again.ensures))
    (stands_there c.args.of.now.value c.args.desk c.args.seats.now.items (done_of_book c.args.book.now) c.args.databases.now c.args.place c.remove-seat.result c.requires.driving
    (chosen_seat c.args.desk c.args.seats.now.items c.args.place c.args.number _ c.remove-seat.result c.args.seats.now.ok.0 c.requires.chosen c.remove-seat.ensures.value))

pub put_back-requires : goal.put_back-requires
put_back-requires g c = let within = chosen_within c.args.desk c.args.seats.now.items c.args.place c.args.number _ c.args.seats.now.ok.0 c.requires.chosen in search rules

pub returns-clause-driving : goal.returns-clause-driving
returns-clause-driving g c =
    client_back c.args.seats.now.items c.put_back.new.seats.items c.args.place c.remove-seat.result c.make_move.new.office c.make_move.new.notes c.into_parts-desk.result.1
    (chosen_seat c.args.desk c.args.seats.now.items c.args.place c.args.number _ c.remove-seat.result c.args.seats.now.ok.0 c.requires.chosen c.remove-seat.ensures.value) c.into_parts-desk.ensures.client
    (c.in_ok-put_back.ensures ∙ ap (λ (xs : List Seat). insert xs c.args.place (record { script = c.remove-seat.result.script; client = c.into_parts-desk.result.1; notes = c.make_move.new.notes })) c.remove-seat.ensures.items)
    c.args.of.now.value c.args.desk (done_of_book c.args.book.now) (done_of_book c.make_move.new.book) c.args.databases.now c.make_move.new.databases c.new-office.result c.into_parts-desk.result.0 c.requires.driving
    (c.new-office.ensures ∙ ap (λ (a : Client). record { blocks = a.blocks; client = c.remove-seat.result.client; run = c.args.desk }) c.in_ok-again.ensures)
    c.in_ok-make_move.ensures.leads c.into_parts-desk.ensures.desk

pub returns-clause-less : goal.returns-clause-less
returns-clause-less g c =
    less_left c.args.seats.now.items c.put_back.new.seats.items c.args.place c.remove-seat.result c.make_move.new.office c.make_move.new.notes c.into_parts-desk.result.1
    (chosen_seat c.args.desk c.args.seats.now.items c.args.place c.args.number _ c.remove-seat.result c.args.seats.now.ok.0 c.requires.chosen c.remove-seat.ensures.value) c.into_parts-desk.ensures.client
    (c.in_ok-put_back.ensures ∙ ap (λ (xs : List Seat). insert xs c.args.place (record { script = c.remove-seat.result.script; client = c.into_parts-desk.result.1; notes = c.make_move.new.notes })) c.remove-seat.ensures.items)
    (done_of_book c.args.book.now) (done_of_book c.make_move.new.book) c.args.desk c.new-office.result
    (c.new-office.ensures ∙ ap (λ (a : Client). record { blocks = a.blocks; client = c.remove-seat.result.client; run = c.args.desk }) c.in_ok-again.ensures)
    c.in_ok-make_move.ensures.less

-- where want of memory stops it
pub returns-in_err-again-clause-stops : goal.returns-in_err-again-clause-stops
returns-in_err-again-clause-stops g c = at_err c.from_residual.result (stopped_driving c.interruption_laws.ensures.between c.args.of.now.value c.args.desk c.args.seats.now.items (done_of_book c.args.book.now) c.args.databases.now c.requires.driving)

pub returns-in_err-make_move-clause-stops : goal.returns-in_err-make_move-clause-stops
returns-in_err-make_move-clause-stops g c = at_err c.from_residual-in_err-make_move.result (stopped_move c.interruption_laws.ensures.between c.args.of.now.value c.args.desk c.args.seats.now.items (done_of_book c.args.book.now) c.args.databases.now c.requires.driving c.args.place c.remove-seat.result c.new-office.result
    (chosen_seat c.args.desk c.args.seats.now.items c.args.place c.args.number _ c.remove-seat.result c.args.seats.now.ok.0 c.requires.chosen c.remove-seat.ensures.value)
    (c.new-office.ensures ∙ ap (λ (a : Client). record { blocks = a.blocks; client = c.remove-seat.result.client; run = c.args.desk }) c.in_ok-again.ensures)
    c.interruption_laws.ensures.at_end (done_of_book c.make_move.new.book) c.make_move.ensures.goes.opening c.in_err-make_move.ensures.stops)

pub returns-in_err-put_back-clause-stops : goal.returns-in_err-put_back-clause-stops
returns-in_err-put_back-clause-stops g c = at_err c.from_residual-in_err-put_back.result (stopped_behind c.interruption_laws.ensures.between c.args.of.now.value c.args.desk c.args.seats.now.items (done_of_book c.args.book.now) c.args.databases.now c.requires.driving c.args.place c.remove-seat.result c.new-office.result
    (chosen_seat c.args.desk c.args.seats.now.items c.args.place c.args.number _ c.remove-seat.result c.args.seats.now.ok.0 c.requires.chosen c.remove-seat.ensures.value)
    (c.new-office.ensures ∙ ap (λ (a : Client). record { blocks = a.blocks; client = c.remove-seat.result.client; run = c.args.desk }) c.in_ok-again.ensures)
    c.make_move.new.office c.make_move.new.notes (done_of_book c.make_move.new.book) c.make_move.new.databases c.in_ok-make_move.ensures.leads)
