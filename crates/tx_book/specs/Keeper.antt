-- What a keeper, the least layer above a book, says of it.
--     KeepsEntering          after more commits the session runs still, or it may have ended
--     GivesKept              the batches give the items after so many commits as may be kept
use Rattle.std.specs.Prelude.{◌≡◌, ℕ, Bool, true, false, List, ◌++◌, Ok}
use Rattle.std.specs.Option.{ForSome}
use Rattle.disk_trait.specs.Disk.{DiskView}
use Rattle.item_changes.specs.Items.{Items}
use Rattle.log_history.specs.Replayed.{replayed}
use Rattle.log_history.specs.Batching.{Commit}
use Rattle.log_history.specs.Kept.{End, Dropped, with_doubt, MayKeep, kept}
use Rattle.tx_book.specs.Books.{BookLog, book_batches}
use Rattle.tx_book.specs.Follows.{FollowsCommits}

abbrev pub KeepsEntering : {D : Type 0} → (D → DiskView) → Items → List Commit → Bool → BookLog D → Type 0
KeepsEntering shows opening commits true log = (more : List Commit) × FollowsCommits shows opening (commits ++ more) Dropped log
KeepsEntering shows opening commits false log = (more : List Commit) × (end : End) × FollowsCommits shows opening (commits ++ more) end log

abbrev pub GivesKept : {D : Type 0} → (D → DiskView) → Items → List Commit → End → BookLog D → Type 0
GivesKept shows opening commits end log =
    ForSome (book_batches shows log) (λ batches. (n : ℕ) × MayKeep commits end n × (replayed batches ≡ Ok (kept opening (with_doubt commits end) n)))
