use Rattle.office_moves.specs.Scenes.{done_of_book}
use Rattle.session_driver.proofs.Driving.{ends_so}
use Rattle.session_driver.proofs.driver.drive.Goals as goal

pub returns-then-not-goes-clause-end : goal.returns-then-not-goes-clause-end
returns-then-not-goes-clause-end g c = ends_so c.in_ok-last.last c.advance.new.seats.items (done_of_book c.advance.new.book) c.advance.new.databases (c.in_ok-last.ensures.end c.if-not-goes.true)
