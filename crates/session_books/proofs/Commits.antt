-- Commits among transactions, and what a session's book keeps.
use Rattle.std.proofs.Common.{◌≡◌, ◌⊎◌, inl, inr, ℕ, Bool, true, false, not, ◌&&◌, List, [], ◌∷◌, ◌++◌, Option, Some, Ok, refl, sym, ap, subst, ◌∙◌}
use Rattle.std.specs.Option.{ForSome}
use Rattle.std.proofs.lemmas.List.{map-append}
use Rattle.disk_trait.specs.Disk.{DiskView}
use Rattle.gate_areas.specs.declared.live.LiveArea.{LiveArea}
use Rattle.idb_calls.specs.declared.traces.TxTrace.{TxTrace}
use Rattle.item_changes.specs.Items.{Items}
use Rattle.log_history.specs.Replayed.{replayed}
use Rattle.log_history.specs.Batching.{Commit, commit_of}
use Rattle.log_history.specs.Kept.{End, Dropped, FailedCommit, with_doubt}
use Rattle.tx_book.specs.Books.{BookLog, fresh, book_batches}
use Rattle.tx_book.specs.Entries.{has_committed, only_reads, IsCommit, IsNoted}
use Rattle.tx_book.specs.Follows.{FollowsCommits}
use Rattle.session_books.specs.States.{numbers_of, commits_apply, HadCause, IsSessionBook}
use Rattle.session_books.specs.Entering.{is_commit, commits_with, end_within}

-- ---- a commit, or none
pub commit_is : (t : TxTrace) → IsCommit t → is_commit t ≡ true
commit_is t c = rw (c.committed, c.may_write) refl

none_of : (a b : Bool) → (a ≡ false) ⊎ (b ≡ true) → (a && not b) ≡ false
none_of false b e = refl
none_of true true e = refl
none_of true false (inl e) = absurd cc
none_of true false (inr e) = absurd cc

pub with_commit : (commits : List Commit) (t : TxTrace) → is_commit t ≡ true → commits_with commits t ≡ commits ++ commit_of t ∷ []
with_commit commits t is = rw is refl

pub with_none : (commits : List Commit) (t : TxTrace) → is_commit t ≡ false → commits_with commits t ≡ commits
with_none commits t is = rw is refl

pub within_commit : (t : TxTrace) → is_commit t ≡ true → end_within t ≡ FailedCommit (commit_of t)
within_commit t is = rw is refl

pub within_none : (t : TxTrace) → is_commit t ≡ false → end_within t ≡ Dropped
within_none t is = rw is refl

pub one_number_more : (old new : List ℕ) (commits : List Commit) (t : TxTrace) → old ≡ numbers_of commits → new ≡ old ++ t.number ∷ [] → new ≡ numbers_of (commits ++ commit_of t ∷ [])
one_number_more old new commits t was is = is ∙ ap (λ (l : List ℕ). l ++ t.number ∷ []) was ∙ sym (map-append (λ (c : Commit). c.logged.number) commits (commit_of t ∷ []))

-- ---- what the book keeps, of commits and an end that are known
pub keeps_so : {D : Type 0} (shows : D → DiskView) (opening : Items) (commits noted : List Commit) (end seen : End) (finished : List ℕ) (log : BookLog D) (committed : List ℕ)
    → noted ≡ commits → seen ≡ end → FollowsCommits shows opening commits end log → commits_apply opening (with_doubt commits end) ≡ true → committed ≡ numbers_of commits → HadCause commits end
    → IsSessionBook shows (record { opening = opening; commits = noted; end = seen; finished = finished; log = log }) committed
keeps_so shows opening commits noted end seen finished log committed noted_is seen_is follows applies numbers cause = record {
  follows = subst (λ (cs : List Commit). FollowsCommits shows opening cs seen log) (sym noted_is) (subst (λ (e : End). FollowsCommits shows opening commits e log) (sym seen_is) follows);
  applies = ap (λ (cs : List Commit). commits_apply opening (with_doubt cs seen)) noted_is ∙ ap (λ (e : End). commits_apply opening (with_doubt commits e)) seen_is ∙ applies;
  numbers = numbers ∙ ap numbers_of (sym noted_is);
  cause = subst (λ (cs : List Commit). HadCause cs seen) (sym noted_is) (subst (λ (e : End). HadCause commits e) (sym seen_is) cause);
}
