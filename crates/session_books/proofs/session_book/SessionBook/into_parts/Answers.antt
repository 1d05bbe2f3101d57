use Rattle.session_books.specs.Seen.{commits_seen, end_seen}
use Rattle.session_books.proofs.Answered.{images_of}
use Rattle.session_books.proofs.session_book.SessionBook.into_parts.Goals as goal

pub returns-clause-images : goal.returns-clause-images
returns-clause-images g c =
    let s = c.self.inside in
    images_of g.D.Disk.shows s.opening.value (commits_seen s.commits.items) (end_seen s.ended) s.book.finished s.book c.args.self c.self.view_is c.self.invariant c.book_laws.ensures.images c.into_parts.result.0 c.into_parts.ensures.images
