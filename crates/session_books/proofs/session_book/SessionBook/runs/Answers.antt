use Rattle.session_books.specs.Seen.{commits_seen, end_seen}
use Rattle.session_books.proofs.Answered.{images_now}
use Rattle.session_books.proofs.session_book.SessionBook.runs.Goals as goal

pub returns-clause-images : goal.returns-clause-images
returns-clause-images g c =
    let s = c.self.inside in
    images_now g.D.Disk.shows s.opening.value (commits_seen s.commits.items) (end_seen s.ended) s.book.finished s.book c.args.self.now c.self.view_is c.self.invariant c.book_laws.ensures.images c.failed.ensures.images
