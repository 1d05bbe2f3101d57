-- So far the session runs still.
use Rattle.std.proofs.Common.{true, List}
use Rattle.item_changes.specs.Items.{Items}
use Rattle.log_history.specs.Batching.{Commit}
use Rattle.log_history.specs.Kept.{Dropped}
use Rattle.tx_book.specs.Follows.{FollowsCommits}
use Rattle.tx_book.specs.Keeper.{KeepsEntering}
use Rattle.tx_book.proofs.keeper.enter_all.Given as goal

abbrev pub invariant-loop-trace : goal.invariant-loop-trace
invariant-loop-trace g l = (opening : Items) (commits : List Commit) → FollowsCommits g.D.Disk.shows opening commits Dropped l.fn.book.log → KeepsEntering g.D.Disk.shows opening commits true l.book.log
