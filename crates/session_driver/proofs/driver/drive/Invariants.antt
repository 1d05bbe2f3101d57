use Rattle.std.proofs.Common.{◌≡◌, true}
use Rattle.office_moves.specs.Running.{BookGoesOn}
use Rattle.office_moves.specs.Scenes.{done_of_book, is_open_end}
use Rattle.session_driver.specs.Measures.{session_left}
use Rattle.session_driver.specs.Seats.{IsDriving}
use Rattle.session_driver.proofs.driver.drive.Given as goal

abbrev pub invariant-moves : goal.invariant-moves
invariant-moves g l = record {
  driving : IsDriving l.of.value l.desk l.seats.items (done_of_book l.book) l.databases;
  opened : is_open_end l.book.end ≡ true;
  goes : BookGoesOn g.D.Disk.shows l.initial.book l.book;
}

abbrev pub decreases-moves : goal.decreases-moves
decreases-moves g l = session_left l.seats.items l.book.finished
