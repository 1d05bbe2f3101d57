use Rattle.session_books.specs.Seen.{commits_seen, end_seen}
use Rattle.session_books.proofs.Answered.{keeps_noted}
use Rattle.session_books.proofs.session_book.SessionBook.note.Goals as goal

pub invariant_of-self : goal.invariant_of-self
invariant_of-self g c =
    let s = c.self.inside in
    keeps_noted g.D.Disk.shows s.opening.value (commits_seen s.commits.items) (end_seen s.ended) s.book.finished _ c.args.trace.now s.book _ c.finish.result c.self.invariant c.finish.ensures.answer c.requires
