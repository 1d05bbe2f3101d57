use Rattle.std.proofs.Common.{◌≡◌, ◌⊎◌, inl, inr, true, [], ◌∷◌, ◌++◌, ap, ◌∙◌}
use Rattle.log_history.specs.Batching.{commit_of}
use Rattle.log_history.specs.Kept.{Dropped}
use Rattle.tx_book.specs.declared.answers.Finish.{Finish}
use Rattle.tx_book.specs.declared.answers.Finish.TheVariants as answer
use Rattle.session_books.specs.States.{SessionBookState, commits_apply}
use Rattle.session_books.specs.Entering.{is_commit}
use Rattle.session_books.specs.Seen.{commits_seen, end_seen}
use Rattle.session_books.proofs.Answered.{keeps_after, enter_moments}
use Rattle.session_books.proofs.session_book.SessionBook.enter.Goals as goal

undoubted : (r : Finish) → (r ≡ answer.Sealed) ⊎ ((r ≡ answer.Waiting) ⊎ (r ≡ answer.Noted)) → r ≡ answer.DiskFault → ⊥
undoubted r (inl e) doubt = absurd cc
undoubted r (inr (inl e)) doubt = absurd cc
undoubted r (inr (inr e)) doubt = absurd cc

pub invariant_of-self : goal.invariant_of-self
invariant_of-self g c =
    let s = c.self.inside in
    let runs : end_seen s.ended ≡ Dropped = ap (λ (b : SessionBookState g.row.D.Denot). b.end) c.self.view_is ∙ c.requires.runs in
    let applies : is_commit c.args.trace.now ≡ true → commits_apply s.opening.value (commits_seen s.commits.items ++ commit_of c.args.trace.now ∷ []) ≡ true =
    λ is. ap (λ (b : SessionBookState g.row.D.Denot). commits_apply b.opening (b.commits ++ commit_of c.args.trace.now ∷ [])) c.self.view_is ∙ c.requires.applies is in
    keeps_after g.D.Disk.shows s.opening.value (commits_seen s.commits.items) (end_seen s.ended) s.book.finished s.book c.self.invariant runs c.args.trace.now applies
    c.book_laws.ensures.finish c.enter_in.result (undoubted c.enter_in.result c.in-Sealed.is) c.enter_in.new.book (commits_seen c.enter_in.new.commits.items) c.enter_in.new.book.finished
    c.enter_in.ensures.answer c.enter_in.ensures.noted

pub returns-in-Sealed-clause-any_moment : goal.returns-in-Sealed-clause-any_moment
returns-in-Sealed-clause-any_moment g c =
    let s = c.self.inside in
    enter_moments g.D.Disk.shows s.opening.value (commits_seen s.commits.items) (end_seen s.ended) s.book.finished s.book c.args.self.now c.self.view_is c.self.invariant c.requires.runs
    c.book_laws.ensures.images g.met.D.Disk.only_now c.failed.ensures.images c.args.trace.now c.requires.applies c.book_laws.ensures.within_finish c.kept_laws.ensures.prefix
    c.enter_in.result c.enter_in.new.book c.enter_in.ensures.answer c.enter_in.ensures.any_moment

pub returns-in-DiskFault-clause-any_moment : goal.returns-in-DiskFault-clause-any_moment
returns-in-DiskFault-clause-any_moment g c =
    let s = c.self.inside in
    enter_moments g.D.Disk.shows s.opening.value (commits_seen s.commits.items) (end_seen s.ended) s.book.finished s.book c.args.self.now c.self.view_is c.self.invariant c.requires.runs
    c.book_laws.ensures.images g.met.D.Disk.only_now c.failed.ensures.images c.args.trace.now c.requires.applies c.book_laws.ensures.within_finish c.kept_laws.ensures.prefix
    c.enter_in.result c.enter_in.new.book c.enter_in.ensures.answer c.enter_in.ensures.any_moment

pub returns-in-NoMemory-clause-any_moment : goal.returns-in-NoMemory-clause-any_moment
returns-in-NoMemory-clause-any_moment g c =
    let s = c.self.inside in
    enter_moments g.D.Disk.shows s.opening.value (commits_seen s.commits.items) (end_seen s.ended) s.book.finished s.book c.args.self.now c.self.view_is c.self.invariant c.requires.runs
    c.book_laws.ensures.images g.met.D.Disk.only_now c.failed.ensures.images c.args.trace.now c.requires.applies c.book_laws.ensures.within_finish c.kept_laws.ensures.prefix
    c.enter_in.result c.enter_in.new.book c.enter_in.ensures.answer c.enter_in.ensures.any_moment
