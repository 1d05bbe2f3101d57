-- What is found of an image at rest, and within a call.
use Rattle.std.proofs.Common.{◌≡◌, inl, ℕ, ◌≤◌, Bool, true, false, List, [], ◌∷◌, ◌++◌, length, Option, Some, None, is_some, Ok, refl, sym, ap, subst, ◌∙◌, arith}
use Rattle.std.proofs.lemmas.List.{take-append-le}
use Rattle.disk_trait.specs.Areas.{Areas}
use Rattle.disk_trait.specs.Disk.{DiskView, EachImage, LeavesOnly}
use Rattle.disk_trait.proofs.Laws.{begins, widens}
use Rattle.idb_calls.specs.declared.traces.TxTrace.{TxTrace}
use Rattle.item_changes.specs.Items.{Items}
use Rattle.record_bytes.specs.Records.{AreRecords}
use Rattle.log_history.specs.Replayed.{after_records}
use Rattle.log_history.specs.Batching.{Commit, commit_of, records_of_commits, batch_payload, sealed}
use Rattle.log_history.specs.Kept.{End, Dropped, FailedCommit, FailedFlush, with_doubt, MayKeep, applied_commits}
use Rattle.tx_book.specs.Books.{BookLog, IsFoundOr, IsFoundSo}
use Rattle.tx_book.specs.Entries.{IsCommit, batch_with}
use Rattle.tx_book.specs.Follows.{FollowsCommits, IsFoundKept}
use Rattle.session_books.specs.States.{SessionBookState, commits_apply, IsSessionBook}
use Rattle.session_books.specs.Entering.{is_commit, end_within}
use Rattle.session_books.proofs.Commits.{commit_is, within_commit, within_none}

pub given : {X : Type 0} (o : Option X) → is_some o ≡ true → (x : X) × (o ≡ Some x)
given None e = absurd cc
given (Some x) e = (x, refl)

-- an image of a book at rest, and one of a moment within a call, with an end as if the call met a fault
module _ (opening : Items) (commits : List Commit) (image : Areas) (k : IsFoundKept opening commits Dropped image) where
  pub as_at_flush : IsFoundKept opening commits FailedFlush image
  as_at_flush = record { number = k.number; may_keep = inl k.may_keep; found_so = k.found_so }

  as_at_commit : (c : Commit) → sealed commits ≤ length commits → IsFoundKept opening commits (FailedCommit c) image
  as_at_commit c few = record {
    number = k.number;
    may_keep = inl k.may_keep;
    found_so = k.found_so ∙ ap (λ (cs : List Commit). Ok (applied_commits opening cs)) (sym (take-append-le k.number commits (c ∷ []) (omega (arith, k.may_keep, few))));
  }

  pub as_within : (t : TxTrace) → sealed commits ≤ length commits → IsFoundKept opening commits (end_within t) image
  as_within t few = by_test (is_commit t) refl
    where
      by_test : (b : Bool) → is_commit t ≡ b → IsFoundKept opening commits (end_within t) image
      by_test true is = subst (λ (e : End). IsFoundKept opening commits e image) (sym (within_commit t is)) (as_at_commit (commit_of t) few)
      by_test false is = subst (λ (e : End). IsFoundKept opening commits e image) (sym (within_none t is)) k

module _ {D : Type 0} (shows : D → DiskView) where
  -- what the laws of a book say of images
  abbrev pub FindsKept : Type 0
  FindsKept = (opening now : Items) (commits : List Commit) (end : End) (log : BookLog D) (image : Areas) → FollowsCommits shows opening commits end log
      → after_records opening (records_of_commits (with_doubt commits end)) ≡ Some now → IsFoundSo shows log image → IsFoundKept opening commits end image

  abbrev pub FindsWithinFinish : Type 0
  FindsWithinFinish = (opening now : Items) (commits : List Commit) (trace : TxTrace) (log : BookLog D) (image : Areas) → FollowsCommits shows opening commits Dropped log
      → AreRecords (records_of_commits (batch_with trace log.waiting)) → after_records opening (records_of_commits (commits ++ commit_of trace ∷ [])) ≡ Some now
      → IsFoundOr shows (batch_payload (batch_with trace log.waiting)) log image → IsFoundKept opening commits (FailedCommit (commit_of trace)) image

  abbrev pub FindsWithinFlush : Type 0
  FindsWithinFlush = (opening now : Items) (commits : List Commit) (log : BookLog D) (image : Areas) → FollowsCommits shows opening commits Dropped log
      → AreRecords (records_of_commits log.waiting) → after_records opening (records_of_commits commits) ≡ Some now
      → IsFoundOr shows (batch_payload log.waiting) log image → IsFoundKept opening commits FailedFlush image

  module _ (s : SessionBookState D) (committed : List ℕ) (keeps : IsSessionBook shows s committed) where
    pub each_kept : FindsKept → (disk : D) → EachImage (shows disk) (IsFoundSo shows s.log) → EachImage (shows disk) (IsFoundKept s.opening s.commits s.end)
    each_kept finds disk images image left =
        let now = given (after_records s.opening (records_of_commits (with_doubt s.commits s.end))) keeps.applies in
        finds s.opening now.0 s.commits s.end s.log image keeps.follows now.1 (images image left)

    -- as long as it runs
    module _ (runs : s.end ≡ Dropped) where
      pub follows_now : FollowsCommits shows s.opening s.commits Dropped s.log
      follows_now = subst (λ (e : End). FollowsCommits shows s.opening s.commits e s.log) runs keeps.follows

      pub apply_now : commits_apply s.opening s.commits ≡ true
      apply_now = ap (λ (e : End). commits_apply s.opening (with_doubt s.commits e)) (sym runs) ∙ keeps.applies

      each_now : FindsKept → EachImage (shows s.log.disk) (IsFoundSo shows s.log) → EachImage (shows s.log.disk) (IsFoundKept s.opening s.commits Dropped)
      each_now finds images = subst (λ (e : End). EachImage (shows s.log.disk) (IsFoundKept s.opening s.commits e)) runs (each_kept finds s.log.disk images)

      -- a batch was written, or a commit waits
      pub commit_moments : (t : TxTrace) (new : D) → FindsWithinFinish → IsCommit t → AreRecords (records_of_commits (batch_with t s.log.waiting))
          → commits_apply s.opening (s.commits ++ commit_of t ∷ []) ≡ true
          → LeavesOnly (shows s.log.disk) (shows new) (IsFoundOr shows (batch_payload (batch_with t s.log.waiting)) s.log)
          → LeavesOnly (shows s.log.disk) (shows new) (IsFoundKept s.opening s.commits (end_within t))
      commit_moments t new finds commit fits applies moments =
          let now = given (after_records s.opening (records_of_commits (s.commits ++ commit_of t ∷ []))) applies in
          subst (λ (e : End). LeavesOnly (shows s.log.disk) (shows new) (IsFoundKept s.opening s.commits e)) (sym (within_commit t (commit_is t commit)))
          (widens moments (λ image p. finds s.opening now.0 s.commits t s.log image follows_now fits now.1 p))

      pub flush_moments : (new : D) → FindsWithinFlush → AreRecords (records_of_commits s.log.waiting)
          → LeavesOnly (shows s.log.disk) (shows new) (IsFoundOr shows (batch_payload s.log.waiting) s.log)
          → LeavesOnly (shows s.log.disk) (shows new) (IsFoundKept s.opening s.commits FailedFlush)
      flush_moments new finds fits moments =
          let now = given (after_records s.opening (records_of_commits s.commits)) apply_now in
          widens moments (λ image p. finds s.opening now.0 s.commits s.log image follows_now fits now.1 p)

      -- the disk was not touched
      module _ (new : D) (same : new ≡ s.log.disk) (only_now : (image : Areas) → (shows s.log.disk).left_since (shows s.log.disk).moment image → (shows s.log.disk).may_leave image)
          (finds : FindsKept) (images : EachImage (shows s.log.disk) (IsFoundSo shows s.log)) where
        still : (P : Areas → Type 0) → ((image : Areas) → IsFoundKept s.opening s.commits Dropped image → P image) → LeavesOnly (shows s.log.disk) (shows new) P
        still P wider = subst (λ (d : D). LeavesOnly (shows s.log.disk) (shows d) P) (sym same) (begins only_now (λ image left. wider image (each_now finds images image left)))

        pub still_within : (t : TxTrace) → sealed s.commits ≤ length s.commits → LeavesOnly (shows s.log.disk) (shows new) (IsFoundKept s.opening s.commits (end_within t))
        still_within t few = still (IsFoundKept s.opening s.commits (end_within t)) (λ image k. as_within s.opening s.commits image k t few)

        pub still_at_flush : LeavesOnly (shows s.log.disk) (shows new) (IsFoundKept s.opening s.commits FailedFlush)
        still_at_flush = still (IsFoundKept s.opening s.commits FailedFlush) (as_at_flush s.opening s.commits)
