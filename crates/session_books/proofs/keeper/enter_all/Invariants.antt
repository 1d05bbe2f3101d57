-- So far all have finished, and the session runs still.
use Rattle.std.proofs.Common.{◌≡◌, take}
use Rattle.log_history.specs.Kept.{Dropped}
use Rattle.session_books.specs.Keeping.{commits_after}
use Rattle.session_books.proofs.keeper.enter_all.Given as goal

abbrev pub invariant-loop-trace : goal.invariant-loop-trace
invariant-loop-trace g l = record {
  opening : l.book.opening ≡ l.fn.book.opening;
  commits : l.book.commits ≡ commits_after l.fn.book.commits (take l.trace-index l.traces);
  runs : l.book.end ≡ Dropped;
}
