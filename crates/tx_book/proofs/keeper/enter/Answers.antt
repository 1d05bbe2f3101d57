use Rattle.std.proofs.Common.{[], ◌∷◌}
use Rattle.log_history.specs.Batching.{commit_of}
use Rattle.log_history.specs.Kept.{Dropped, FailedCommit}
use Rattle.tx_book.specs.declared.answers.Finish.TheVariants as answer
use Rattle.tx_book.proofs.KeeperLemmas.{ended}
use Rattle.tx_book.proofs.keeper.enter.Goals as goal

pub returns-in-Sealed : goal.returns-in-Sealed
returns-in-Sealed g c = λ opening commits f.
    (commit_of c.args.trace.now ∷ [], c.book_laws.ensures.finish opening commits c.args.trace.now answer.Sealed c.args.book.now c.finish.new.self f c.in-Sealed.ensures.answer)

pub returns-in-Waiting : goal.returns-in-Waiting
returns-in-Waiting g c = λ opening commits f.
    (commit_of c.args.trace.now ∷ [], c.book_laws.ensures.finish opening commits c.args.trace.now answer.Waiting c.args.book.now c.finish.new.self f c.in-Waiting.ensures.answer)

pub returns-in-DiskFault : goal.returns-in-DiskFault
returns-in-DiskFault g c = λ opening commits f.
    ended g.D.Disk.shows opening commits (FailedCommit (commit_of c.args.trace.now)) c.finish.new.self.log
    (c.book_laws.ensures.finish opening commits c.args.trace.now answer.DiskFault c.args.book.now c.finish.new.self f c.in-DiskFault.ensures.answer)

pub returns-in-NoMemory : goal.returns-in-NoMemory
returns-in-NoMemory g c = λ opening commits f.
    ended g.D.Disk.shows opening commits Dropped c.finish.new.self.log
    (c.book_laws.ensures.finish opening commits c.args.trace.now answer.NoMemory c.args.book.now c.finish.new.self f c.in-NoMemory.ensures.answer)
