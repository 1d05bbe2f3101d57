use Rattle.std.proofs.Common.{◌≡◌, ap, ◌∙◌}
use Rattle.log_history.specs.Kept.{Dropped}
use Rattle.session_books.specs.States.{SessionBookState}
use Rattle.session_books.specs.Seen.{commits_seen, end_seen}
use Rattle.session_books.proofs.Answered.{keeps_after_flush, call_moments}
use Rattle.session_books.proofs.session_book.SessionBook.flush.Goals as goal

pub invariant_of-self : goal.invariant_of-self
invariant_of-self g c =
    let s = c.self.inside in
    let runs : end_seen s.ended ≡ Dropped = ap (λ (b : SessionBookState g.row.D.Denot). b.end) c.self.view_is ∙ c.requires.runs in
    keeps_after_flush g.D.Disk.shows s.opening.value (commits_seen s.commits.items) (end_seen s.ended) s.book.finished s.book c.self.invariant runs
    c.book_laws.ensures.flush c.flush.result c.in-Sealed.is c.flush.new.self c.flush.new.self.finished c.flush.ensures.answer

pub returns-in-Sealed-clause-any_moment : goal.returns-in-Sealed-clause-any_moment
returns-in-Sealed-clause-any_moment g c =
    let s = c.self.inside in
    call_moments g.D.Disk.shows s.opening.value (commits_seen s.commits.items) (end_seen s.ended) s.book.finished s.book c.args.self.now c.self.view_is c.self.invariant c.requires.runs
    c.book_laws.ensures.images g.met.D.Disk.only_now c.failed.ensures.images c.book_laws.ensures.within_flush c.flush.result c.flush.new.self c.flush.ensures.answer c.flush.ensures.any_moment

pub returns-in-DiskFault-clause-any_moment : goal.returns-in-DiskFault-clause-any_moment
returns-in-DiskFault-clause-any_moment g c =
    let s = c.self.inside in
    call_moments g.D.Disk.shows s.opening.value (commits_seen s.commits.items) (end_seen s.ended) s.book.finished s.book c.args.self.now c.self.view_is c.self.invariant c.requires.runs
    c.book_laws.ensures.images g.met.D.Disk.only_now c.failed.ensures.images c.book_laws.ensures.within_flush c.flush.result c.flush.new.self c.flush.ensures.answer c.flush.ensures.any_moment

pub returns-in-NoMemory-clause-any_moment : goal.returns-in-NoMemory-clause-any_moment
returns-in-NoMemory-clause-any_moment g c =
    let s = c.self.inside in
    call_moments g.D.Disk.shows s.opening.value (commits_seen s.commits.items) (end_seen s.ended) s.book.finished s.book c.args.self.now c.self.view_is c.self.invariant c.requires.runs
    c.book_laws.ensures.images g.met.D.Disk.only_now c.failed.ensures.images c.book_laws.ensures.within_flush c.flush.result c.flush.new.self c.flush.ensures.answer c.flush.ensures.any_moment
