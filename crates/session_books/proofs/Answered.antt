-- A session's book after each answer of the book below it: what it keeps, and what is found of a moment within the call.
use Rattle.std.proofs.Common.{◌≡◌, ◌⊎◌, inl, inr, ℕ, ◌≤◌, true, false, List, [], ◌∷◌, ◌++◌, length, Option, Some, None, refl, sym, ap, subst, ◌∙◌}
use Rattle.disk_trait.specs.Areas.{Areas}
use Rattle.disk_trait.specs.Disk.{DiskView, EachImage, LeavesOnly}
use Rattle.idb_calls.specs.declared.traces.TxTrace.{TxTrace}
use Rattle.item_changes.specs.Items.{Items}
use Rattle.log_history.specs.Batching.{Commit, commit_of, batch_payload, sealed}
use Rattle.log_history.specs.Kept.{End, Dropped, Flushed, FailedFlush, with_doubt, MayKeep}
use Rattle.tx_book.specs.Answers.{FinishIs, FlushIs}
use Rattle.tx_book.specs.Books.{BookState, IsFoundOr, IsFoundSo}
use Rattle.tx_book.specs.Entries.{has_committed, batch_with}
use Rattle.tx_book.specs.Follows.{FollowsCommits, FollowsFinish, FollowsFlush, IsFoundKept}
use Rattle.tx_book.specs.declared.answers.Finish.{Finish}
use Rattle.tx_book.specs.declared.answers.Finish.TheVariants as answer
use Rattle.tx_book.specs.declared.answers.Flush.{Flush}
use Rattle.tx_book.specs.declared.answers.Flush.TheVariants as flush
use Rattle.session_books.specs.States.{SessionBookState, commits_apply, IsSessionBook}
use Rattle.session_books.specs.Entering.{is_commit, end_within}
use Rattle.session_books.specs.Seen.{noted_commits}
use Rattle.session_books.proofs.Commits.{commit_is, one_number_more, keeps_so}
use Rattle.session_books.proofs.Moments.{FindsKept, each_kept, FindsWithinFinish, FindsWithinFlush, follows_now, apply_now, commit_moments, flush_moments, still_within, still_at_flush}

both_ways : {X : Type 0} (o : Option X) (x : X) → o ≡ Some x → o ≡ None → ⊥
both_ways None x some none = absurd cc
both_ways (Some y) x some none = absurd cc

module _ {D : Type 0} (shows : D → DiskView) (opening : Items) (commits : List Commit) (end : End) (finished : List ℕ) (old : BookState D)
    (keeps : IsSessionBook shows (record { opening = opening; commits = commits; end = end; finished = finished; log = old.log }) old.committed) (runs : end ≡ Dropped) where
  abbrev was : SessionBookState D
  was = record { opening = opening; commits = commits; end = end; finished = finished; log = old.log }

  pub follows : FollowsCommits shows opening commits Dropped old.log
  follows = follows_now shows (record { opening = opening; commits = commits; end = end; finished = finished; log = old.log }) old.committed keeps runs

  apply : commits_apply opening commits ≡ true
  apply = apply_now shows (record { opening = opening; commits = commits; end = end; finished = finished; log = old.log }) old.committed keeps runs

  pub faultless : old.log.failed ≡ None
  faultless = follows.faultless

  -- ---- a transaction is entered
  module _ (t : TxTrace) (applies : is_commit t ≡ true → commits_apply opening (commits ++ commit_of t ∷ []) ≡ true) where
    pub keeps_after : (finish : (o : Items) (cs : List Commit) (trace : TxTrace) (r : Finish) (before after : BookState D)
        → FollowsCommits shows o cs Dropped before.log → FinishIs shows trace before r after → FollowsFinish shows o cs trace r after.log)
        → (r : Finish) → (r ≡ answer.DiskFault → ⊥) → (new : BookState D) (noted : List Commit) (later : List ℕ) → FinishIs shows t old r new → noted ≡ noted_commits t r commits
        → IsSessionBook shows (record { opening = opening; commits = noted; end = end; finished = later; log = new.log }) new.committed
    keeps_after finish answer.Sealed undoubted new noted later is noted_is = keeps_so shows opening (commits ++ commit_of t ∷ []) noted Dropped end later new.log new.committed noted_is runs
        (finish opening commits t answer.Sealed old new follows is) (applies (commit_is t is.0.commit)) (one_number_more old.committed new.committed commits t keeps.numbers is.2.committed) tt
    keeps_after finish answer.Waiting undoubted new noted later is noted_is = keeps_so shows opening (commits ++ commit_of t ∷ []) noted Dropped end later new.log new.committed noted_is runs
        (finish opening commits t answer.Waiting old new follows is) (applies (commit_is t is.0.commit)) (one_number_more old.committed new.committed commits t keeps.numbers is.1.committed) tt
    keeps_after finish answer.Noted undoubted new noted later is noted_is = keeps_so shows opening commits noted Dropped end later new.log new.committed noted_is runs
        (finish opening commits t answer.Noted old new follows is) apply (is.2.committed ∙ keeps.numbers) tt
    keeps_after finish answer.DiskFault undoubted new noted later is noted_is = absurd (undoubted refl)
    keeps_after finish (answer.Faulted seen) undoubted new noted later is noted_is = absurd (both_ways old.log.failed seen is.0.failed faultless)
    keeps_after finish answer.NoMemory undoubted new noted later is noted_is = keeps_so shows opening commits noted Dropped end later new.log new.committed noted_is runs
        (finish opening commits t answer.NoMemory old new follows is) apply (ap (λ (b : BookState D). b.committed) is ∙ keeps.numbers) tt

    pub moments_of_enter : FindsKept shows → FindsWithinFinish shows → sealed commits ≤ length commits
        → ((image : Areas) → (shows old.log.disk).left_since (shows old.log.disk).moment image → (shows old.log.disk).may_leave image) → EachImage (shows old.log.disk) (IsFoundSo shows old.log)
        → (r : Finish) (new : BookState D) → FinishIs shows t old r new → LeavesOnly (shows old.log.disk) (shows new.log.disk) (IsFoundOr shows (batch_payload (batch_with t old.log.waiting)) old.log)
        → LeavesOnly (shows old.log.disk) (shows new.log.disk) (IsFoundKept opening commits (end_within t))
    moments_of_enter finds within few only_now images answer.Sealed new is moments = commit_moments shows was old.committed keeps runs t new.log.disk within is.0.commit is.0.fits (applies (commit_is t is.0.commit)) moments
    moments_of_enter finds within few only_now images answer.Waiting new is moments = commit_moments shows was old.committed keeps runs t new.log.disk within is.0.commit is.0.fits (applies (commit_is t is.0.commit)) moments
    moments_of_enter finds within few only_now images answer.DiskFault new is moments = commit_moments shows was old.committed keeps runs t new.log.disk within is.0.commit is.0.fits (applies (commit_is t is.0.commit)) moments
    moments_of_enter finds within few only_now images answer.Noted new is moments = still_within shows was old.committed keeps runs new.log.disk (ap (λ l. l.disk) is.1) only_now finds images t few
    moments_of_enter finds within few only_now images (answer.Faulted seen) new is moments = still_within shows was old.committed keeps runs new.log.disk (ap (λ l. l.disk) is.1) only_now finds images t few
    moments_of_enter finds within few only_now images answer.NoMemory new is moments = still_within shows was old.committed keeps runs new.log.disk (ap (λ (b : BookState D). b.log.disk) is) only_now finds images t few

  -- ---- the book is flushed
  pub keeps_after_flush : (flushes : (o : Items) (cs : List Commit) (r : Flush) (before after : BookState D)
      → FollowsCommits shows o cs Dropped before.log → FlushIs shows before r after → FollowsFlush shows o cs r after.log)
      → (r : Flush) → (r ≡ flush.Sealed) ⊎ (r ≡ flush.Nothing) → (new : BookState D) (later : List ℕ) → FlushIs shows old r new
      → IsSessionBook shows (record { opening = opening; commits = commits; end = Flushed; finished = later; log = new.log }) new.committed
  keeps_after_flush flushes flush.Sealed either new later is = record { follows = flushes opening commits flush.Sealed old new follows is; applies = apply; numbers = ap (λ (b : BookState D). b.committed) is.2 ∙ keeps.numbers; cause = tt }
  keeps_after_flush flushes flush.Nothing either new later is = record { follows = flushes opening commits flush.Nothing old new follows is; applies = apply; numbers = ap (λ (b : BookState D). b.committed) is.2 ∙ keeps.numbers; cause = tt }
  keeps_after_flush flushes flush.DiskFault (inl e) new later is = absurd cc
  keeps_after_flush flushes flush.DiskFault (inr e) new later is = absurd cc
  keeps_after_flush flushes (flush.Faulted seen) (inl e) new later is = absurd cc
  keeps_after_flush flushes (flush.Faulted seen) (inr e) new later is = absurd cc
  keeps_after_flush flushes flush.NoMemory (inl e) new later is = absurd cc
  keeps_after_flush flushes flush.NoMemory (inr e) new later is = absurd cc

  pub moments_of_call : FindsKept shows → FindsWithinFlush shows
      → ((image : Areas) → (shows old.log.disk).left_since (shows old.log.disk).moment image → (shows old.log.disk).may_leave image) → EachImage (shows old.log.disk) (IsFoundSo shows old.log)
      → (r : Flush) (new : BookState D) → FlushIs shows old r new → LeavesOnly (shows old.log.disk) (shows new.log.disk) (IsFoundOr shows (batch_payload old.log.waiting) old.log)
      → LeavesOnly (shows old.log.disk) (shows new.log.disk) (IsFoundKept opening commits FailedFlush)
  moments_of_call finds within only_now images flush.Sealed new is moments = flush_moments shows was old.committed keeps runs new.log.disk within is.0 moments
  moments_of_call finds within only_now images flush.DiskFault new is moments = flush_moments shows was old.committed keeps runs new.log.disk within is.0 moments
  moments_of_call finds within only_now images flush.Nothing new is moments = still_at_flush shows was old.committed keeps runs new.log.disk (ap (λ (b : BookState D). b.log.disk) is.2) only_now finds images
  moments_of_call finds within only_now images (flush.Faulted seen) new is moments = still_at_flush shows was old.committed keeps runs new.log.disk (ap (λ (b : BookState D). b.log.disk) is.1) only_now finds images
  moments_of_call finds within only_now images flush.NoMemory new is moments = still_at_flush shows was old.committed keeps runs new.log.disk (ap (λ (b : BookState D). b.log.disk) is) only_now finds images

-- one that aborted is noted
no : {Y : Type 0} → true ≡ false → Y
no e = cc

log_and_commits : {D : Type 0} (shows : D → DiskView) (t : TxTrace) (old new : BookState D) (r : Finish) → FinishIs shows t old r new → has_committed t.outcome ≡ false → (new.log ≡ old.log) × (new.committed ≡ old.committed)
log_and_commits shows t old new answer.Sealed is out = no (sym is.0.commit.committed ∙ out)
log_and_commits shows t old new answer.Waiting is out = no (sym is.0.commit.committed ∙ out)
log_and_commits shows t old new answer.Noted is out = (is.1, is.2.committed)
log_and_commits shows t old new answer.DiskFault is out = no (sym is.0.commit.committed ∙ out)
log_and_commits shows t old new (answer.Faulted seen) is out = no (sym is.0.committed ∙ out)
log_and_commits shows t old new answer.NoMemory is out = (ap (λ (b : BookState _). b.log) is, ap (λ (b : BookState _). b.committed) is)

pub keeps_noted : {D : Type 0} (shows : D → DiskView) (opening : Items) (commits : List Commit) (end : End) (finished later : List ℕ) (t : TxTrace) (old new : BookState D) (r : Finish)
    → IsSessionBook shows (record { opening = opening; commits = commits; end = end; finished = finished; log = old.log }) old.committed → FinishIs shows t old r new → has_committed t.outcome ≡ false
    → IsSessionBook shows (record { opening = opening; commits = commits; end = end; finished = later; log = new.log }) new.committed
keeps_noted shows opening commits end finished later t old new r keeps is out =
    let same = log_and_commits shows t old new r is out in
    record {
      follows = subst (λ l. FollowsCommits shows opening commits end l) (sym same.0) keeps.follows;
      applies = keeps.applies;
      numbers = same.1 ∙ keeps.numbers;
      cause = keeps.cause;
    }

-- the same of the book as it is seen
module _ {D : Type 0} (shows : D → DiskView) (opening : Items) (commits : List Commit) (end : End) (finished : List ℕ) (old : BookState D) (now : SessionBookState D)
    (seen : record { opening = opening; commits = commits; end = end; finished = finished; log = old.log } ≡ now)
    (keeps : IsSessionBook shows (record { opening = opening; commits = commits; end = end; finished = finished; log = old.log }) old.committed) (finds : FindsKept shows) where
  pub images_of : (disk : D) → EachImage (shows disk) (IsFoundSo shows old.log) → EachImage (shows disk) (IsFoundKept now.opening now.commits now.end)
  images_of disk images = subst (λ (b : SessionBookState D). EachImage (shows disk) (IsFoundKept b.opening b.commits b.end)) seen
      (each_kept shows (record { opening = opening; commits = commits; end = end; finished = finished; log = old.log }) old.committed keeps finds disk images)

  pub images_now : EachImage (shows old.log.disk) (IsFoundSo shows old.log) → EachImage (shows now.log.disk) (IsFoundKept now.opening now.commits now.end)
  images_now images = subst (λ (b : SessionBookState D). EachImage (shows b.log.disk) (IsFoundKept now.opening now.commits now.end)) seen (images_of old.log.disk images)

module _ {D : Type 0} (shows : D → DiskView) (opening : Items) (commits : List Commit) (end : End) (finished : List ℕ) (old : BookState D) (now : SessionBookState D)
    (seen : record { opening = opening; commits = commits; end = end; finished = finished; log = old.log } ≡ now)
    (keeps : IsSessionBook shows (record { opening = opening; commits = commits; end = end; finished = finished; log = old.log }) old.committed) (runs : now.end ≡ Dropped)
    (finds : FindsKept shows) (only_now : (disk : D) (image : Areas) → (shows disk).left_since (shows disk).moment image → (shows disk).may_leave image)
    (images : EachImage (shows old.log.disk) (IsFoundSo shows old.log)) where
  runs_there : end ≡ Dropped
  runs_there = ap (λ (b : SessionBookState D). b.end) seen ∙ runs

  pub enter_moments : (t : TxTrace) → (is_commit t ≡ true → commits_apply now.opening (now.commits ++ commit_of t ∷ []) ≡ true) → FindsWithinFinish shows
      → ((cs : List Commit) (e : End) (n : ℕ) → MayKeep cs e n → n ≤ length (with_doubt cs e)) → (r : Finish) (new : BookState D) → FinishIs shows t old r new
      → (old.log.failed ≡ None → LeavesOnly (shows old.log.disk) (shows new.log.disk) (IsFoundOr shows (batch_payload (batch_with t old.log.waiting)) old.log))
      → LeavesOnly (shows now.log.disk) (shows new.log.disk) (IsFoundKept now.opening now.commits (end_within t))
  enter_moments t applies within prefix r new is moments =
      subst (λ (b : SessionBookState D). LeavesOnly (shows b.log.disk) (shows new.log.disk) (IsFoundKept b.opening b.commits (end_within t))) seen
      (moments_of_enter shows opening commits end finished old keeps runs_there t (λ commit. ap (λ (b : SessionBookState D). commits_apply b.opening (b.commits ++ commit_of t ∷ [])) seen ∙ applies commit)
      finds within (prefix commits Dropped (sealed commits) refl) (only_now old.log.disk) images r new is (moments (faultless shows opening commits end finished old keeps runs_there)))

  pub call_moments : FindsWithinFlush shows → (r : Flush) (new : BookState D) → FlushIs shows old r new
      → (old.log.failed ≡ None → LeavesOnly (shows old.log.disk) (shows new.log.disk) (IsFoundOr shows (batch_payload old.log.waiting) old.log))
      → LeavesOnly (shows now.log.disk) (shows new.log.disk) (IsFoundKept now.opening now.commits FailedFlush)
  call_moments within r new is moments =
      subst (λ (b : SessionBookState D). LeavesOnly (shows b.log.disk) (shows new.log.disk) (IsFoundKept b.opening b.commits FailedFlush)) seen
      (moments_of_call shows opening commits end finished old keeps runs_there finds within (only_now old.log.disk) images r new is (moments (faultless shows opening commits end finished old keeps runs_there)))
