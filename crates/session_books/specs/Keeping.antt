-- What a keeper, the least layer above a session's book, says of it.
--     commits_after         the commits, once these transactions have finished
--     HasEntered            the first of the transactions are entered, and no others
--     IsKeptOf              an image is found as the opening with so many of the first transactions' commits as may be kept
--     IsBlank               a book that was just opened, on no databases
--     MakesDatabase         a transaction that committed a new database of this name
use Rattle.std.specs.Prelude.{◌≡◌, ℕ, true, List, [], ◌∷◌, take, fold}
use Rattle.std.specs.FinMap as finite
use Rattle.disk_trait.specs.Areas.{Areas}
use Rattle.idb_calls.specs.Deltas.{Version}
use Rattle.idb_calls.specs.declared.traces.TxTrace.{TxTrace}
use Rattle.item_changes.specs.Items.{Name, Items}
use Rattle.log_history.specs.Batching.{Commit}
use Rattle.log_history.specs.Kept.{End, Dropped}
use Rattle.tx_book.specs.Follows.{IsFoundKept}
use Rattle.session_books.specs.States.{SessionBookState}
use Rattle.session_books.specs.Entering.{is_commit, commits_with}

abbrev pub commits_after : List Commit → List TxTrace → List Commit
commits_after commits traces = fold commits_with commits traces

pub record HasEntered {D : Type 0} (traces : List TxTrace) (old new : SessionBookState D) : Type 0 where
  pub number : ℕ
  pub opening : new.opening ≡ old.opening
  pub commits : new.commits ≡ commits_after old.commits (take number traces)

abbrev pub IsKeptOf : Items → List Commit → List TxTrace → Areas → Type 0
IsKeptOf opening commits traces image = (n : ℕ) × (end : End) × IsFoundKept opening (commits_after commits (take n traces)) end image

pub record IsBlank {D : Type 0} (book : SessionBookState D) : Type 0 where
  pub opening : book.opening ≡ finite.empty
  pub commits : book.commits ≡ []
  pub end : book.end ≡ Dropped

pub record MakesDatabase (name : Name) (trace : TxTrace) : Type 0 where
  pub commit : is_commit trace ≡ true
  pub changes : trace.deltas ≡ Version name 1 ∷ []
