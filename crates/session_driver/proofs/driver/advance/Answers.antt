use Rattle.std.proofs.Common.{List, subst, sym, ap, ◌∙◌}
use Rattle.idb_desk.specs.Steps.{desk_run}
use Rattle.session_driver.specs.declared.seats.Seat.{Seat}
use Rattle.session_driver.specs.Choosing.{next_move}
use Rattle.office_moves.specs.Scenes.{done_of_book}
use Rattle.session_driver.specs.Seats.{IsDriving}
use Rattle.session_driver.proofs.Driving.{client_chosen}
use Rattle.session_driver.proofs.driver.advance.Goals as goal

pub move_client-requires-clause-chosen : goal.move_client-requires-clause-chosen
move_client-requires-clause-chosen g c κs within = client_chosen c.args.desk c.args.seats.now.items c.in-Client.place
    (ap (next_move (desk_run c.args.desk)) (sym c.as_slice.ensures.value) ∙ sym c.next_move.ensures.next ∙ c.in-Client.is)

pub place_of-place-requires-clause-driving : goal.place_of-place-requires-clause-driving
place_of-place-requires-clause-driving g c =
    (done_of_book c.args.book.now, (c.args.databases.now, subst (λ (ss : List Seat). IsDriving c.args.of.now.value c.args.desk ss (done_of_book c.args.book.now) c.args.databases.now) (sym c.as_slice-in-Transaction.ensures.value) c.requires.driving))
