-- What a book follows, from answer to answer, and what is found of its images.
use Rattle.std.proofs.Common.{◌≡◌, ◌⊎◌, inl, inr, ⊎_elim, ℕ, ◌+◌, Bool, true, false, List, [], ◌∷◌, ◌++◌, length, take, Option, Some, None, option_map, Result, Ok, Err, refl, sym, ap, subst, ◌∙◌, append_assoc, arith}
use Rattle.std.specs.Option.{ForSome}
use Rattle.std.specs.FinMap as finite
use Rattle.std.proofs.lemmas.List.{append-nil, map-append, length-append, take_all}
use Rattle.std.proofs.Math.Seq.{take-append_seam}
use Rattle.disk_trait.specs.Areas.{Areas}
use Rattle.disk_trait.specs.Disk.{DiskView}
use Rattle.gate_areas.specs.Sealed.{BatchList}
use Rattle.gate_areas.specs.Found.{found_of}
use Rattle.gate_areas.specs.LiveBatches.{live_found}
use Rattle.gate_areas.specs.declared.live.LiveArea.{LiveArea}
use Rattle.gate_log.specs.Content.{with_batch, HasBatches, IsFoundAs, IsBeforeOrAfter}
use Rattle.gate_log.proofs.Laws.{have_of, have_more}
use Rattle.value_bytes.specs.Steps.{◌>>=◌}
use Rattle.idb_calls.specs.declared.traces.TxTrace.{TxTrace}
use Rattle.item_changes.specs.Items.{Items}
use Rattle.record_bytes.specs.declared.records.LogRecord.{LogRecord}
use Rattle.record_bytes.specs.Records.{AreRecords}
use Rattle.record_bytes.specs.Spelling.{batch_spelling}
use Rattle.log_history.specs.Replayed.{replayed, replayed_on, after_record, after_records}
use Rattle.log_history.specs.Found.{found, found_by, in_area}
use Rattle.log_history.specs.Batching.{Commit, commit_of, records_of_commits, batch_payload, Batched, batched, batched_if, ends_batch, with_commit, commits_in, sealed}
use Rattle.log_history.specs.Kept.{End, Dropped, Flushed, FailedCommit, FailedFlush, FailedCheckpoint, with_doubt, MayKeep, applied_commits, kept}
use Rattle.tx_book.specs.Books.{BookLog, BookState, fresh, book_batches, with_payload, IsFoundOr, IsFoundBy, IsFoundSo}
use Rattle.tx_book.specs.Entries.{batch_with, is_last}
use Rattle.tx_book.specs.Answers.{FinishIs, FlushIs}
use Rattle.tx_book.specs.Follows.{GivesBatches, in_log, waits_at, lost_at, FollowsCommits, FollowsFinish, FollowsFlush, IsFoundKept}
use Rattle.tx_book.specs.declared.answers.Finish.{Finish}
use Rattle.tx_book.specs.declared.answers.Finish.TheVariants as answer
use Rattle.tx_book.specs.declared.answers.Flush.{Flush}
use Rattle.tx_book.specs.declared.answers.Flush.TheVariants as flush
use Rattle.tx_book.proofs.Faults.{not_both}

-- ---- records, one after the other
bind_some : {A B : Type 0} (o : Option A) (f : A → Option B) (y : B) → (o >>= f) ≡ Some y → (x : A) × (o ≡ Some x) × (f x ≡ Some y)
bind_some None f y e = absurd cc
bind_some (Some x) f y e = (x, refl, e)

after_then : (items more : Items) (xs ys : List LogRecord) → after_records items (xs ++ ys) ≡ Some more → (mid : Items) × (after_records items xs ≡ Some mid) × (after_records mid ys ≡ Some more)
after_then items more [] ys e = (items, refl, e)
after_then items more (x ∷ xs) ys e =
    let step = bind_some (after_record items x) (λ next. after_records next (xs ++ ys)) more e in
    let rest = after_then step.0 more xs ys step.2 in
    (rest.0, ap (λ o. o >>= λ next. after_records next xs) step.1 ∙ rest.1, rest.2)

records_both : (xs ys : List Commit) → records_of_commits (xs ++ ys) ≡ records_of_commits xs ++ records_of_commits ys
records_both xs ys = map-append (λ (c : Commit). c.logged) xs ys

commits_then : (items more : Items) (xs ys : List Commit) → after_records items (records_of_commits (xs ++ ys)) ≡ Some more
    → (mid : Items) × (after_records items (records_of_commits xs) ≡ Some mid) × (after_records mid (records_of_commits ys) ≡ Some more)
commits_then items more xs ys e = after_then items more (records_of_commits xs) (records_of_commits ys) (subst (λ (rs : List LogRecord). after_records items rs ≡ Some more) (records_both xs ys) e)

commits_in_last : (batches : List (List Commit)) (batch : List Commit) → commits_in (batches ++ batch ∷ []) ≡ commits_in batches ++ batch
commits_in_last [] batch = append-nil batch
commits_in_last (b ∷ batches) batch = ap (λ cs. b ++ cs) (commits_in_last batches batch) ∙ sym (append_assoc b (commits_in batches) batch)

-- ---- the laws that hold of batches
pub record Laws : Type 0 where
  pub one_more_commit : (commits : List Commit) (c : Commit) → batched (commits ++ c ∷ []) ≡ with_commit (batched commits) c
  pub all : (commits : List Commit) → commits_in (batched commits).ended ++ (batched commits).waiting ≡ commits
  pub both : (items : Result Items ℕ) (front rest : BatchList) → replayed_on items (front ++ rest) ≡ replayed_on (replayed_on items front) rest
  pub one_more_batch : (items more : Items) (gate : ℕ) (rs : List LogRecord) → AreRecords rs → after_records items rs ≡ Some more → replayed_on (Ok items) ((gate, batch_spelling rs) ∷ []) ≡ Ok more
  pub made : (items more : Items) (commits : List Commit) → after_records items (records_of_commits commits) ≡ Some more → applied_commits items commits ≡ more

module _ (laws : Laws) where
  replayed_more : (mid more : Items) (gate : ℕ) (cs : List Commit) → AreRecords (records_of_commits cs) → after_records mid (records_of_commits cs) ≡ Some more
      → (batches : BatchList) → replayed batches ≡ Ok mid → replayed (batches ++ (gate, batch_payload cs) ∷ []) ≡ Ok more
  replayed_more mid more gate cs fits apply batches is =
      laws.both (Ok finite.empty) batches ((gate, batch_payload cs) ∷ [])
      ∙ ap (λ r. replayed_on r ((gate, batch_payload cs) ∷ [])) is
      ∙ laws.one_more_batch mid more gate (records_of_commits cs) fits apply

  -- ---- one batch more
  gives_with : {D : Type 0} (shows : D → DiskView) (old : BookLog D) (cs : List Commit) (mid more : Items) → AreRecords (records_of_commits cs) → after_records mid (records_of_commits cs) ≡ Some more
      → GivesBatches shows old mid → ForSome (with_payload shows (batch_payload cs) old) (λ batches. replayed batches ≡ Ok more)
  gives_with shows old cs mid more fits apply gives =
      have_more (old.live.gate, batch_payload cs) (book_batches shows old) (λ batches. replayed batches ≡ Ok mid) (λ batches. replayed batches ≡ Ok more) gives
      (replayed_more mid more old.live.gate cs fits apply)

  -- the log's batches hold these commits, and now one batch more of these
  gives_sealed : {D : Type 0} (shows : D → DiskView) (opening : Items) (old new : BookLog D) (front cs : List Commit) → AreRecords (records_of_commits cs)
      → book_batches shows new ≡ with_payload shows (batch_payload cs) old → ((items : Items) → after_records opening (records_of_commits front) ≡ Some items → GivesBatches shows old items)
      → (items : Items) → after_records opening (records_of_commits (front ++ cs)) ≡ Some items → GivesBatches shows new items
  gives_sealed shows opening old new front cs fits batches gives items apply =
      let step = commits_then opening items front cs apply in
      subst (λ (content : Option BatchList). ForSome content (λ bs. replayed bs ≡ Ok items)) (sym batches)
      (gives_with shows old cs step.0 items fits step.2 (gives step.0 step.1))

  -- a commit that ends its batch, and one that doesn't
  cut_at : (commits : List Commit) (c : Commit) (waiting : List Commit) (last : Bool) → waiting ≡ (batched commits).waiting → ends_batch c (waiting ++ c ∷ []) ≡ last
      → batched (commits ++ c ∷ []) ≡ batched_if last (batched commits).ended (waiting ++ c ∷ [])
  cut_at commits c waiting last is ends =
      laws.one_more_commit commits c
      ∙ ap (λ (w : List Commit). batched_if (ends_batch c (w ++ c ∷ [])) (batched commits).ended (w ++ c ∷ [])) (sym is)
      ∙ ap (λ (b : Bool). batched_if b (batched commits).ended (waiting ++ c ∷ [])) ends

  pub follows_finish : {D : Type 0} (shows : D → DiskView) (opening : Items) (commits : List Commit) (trace : TxTrace) (result : Finish) (old new : BookState D)
      → FollowsCommits shows opening commits Dropped old.log → FinishIs shows trace old result new → FollowsFinish shows opening commits trace result new.log
  follows_finish shows opening commits trace answer.Sealed old new f is =
      let c = commit_of trace in
      let cut = cut_at commits c old.log.waiting true f.waiting is.0.last in
      let front = commits_in (batched commits).ended in
      let ended : commits_in (batched (commits ++ c ∷ [])).ended ≡ front ++ batch_with trace old.log.waiting = ap (λ (b : Batched). commits_in b.ended) cut ∙ commits_in_last (batched commits).ended (batch_with trace old.log.waiting) in
      record {
        gives = λ items apply. gives_sealed shows opening old.log new.log front (batch_with trace old.log.waiting) is.0.fits is.1.batches f.gives items
            (subst (λ (cs : List Commit). after_records opening (records_of_commits cs) ≡ Some items) ended apply);
        waiting = is.1.waiting ∙ sym (ap (λ (b : Batched). b.waiting) cut);
        lost = is.1.lost;
        fits = λ batch none. absurd cc;
        faultless = is.1.failed;
      }
  follows_finish shows opening commits trace answer.Waiting old new f is =
      let c = commit_of trace in
      let cut = cut_at commits c old.log.waiting false f.waiting is.0.not_last in
      let same : book_batches shows new.log ≡ book_batches shows old.log = ap (book_batches shows) is.0.waiting in
      record {
        gives = λ items apply. subst (λ (content : Option BatchList). ForSome content (λ bs. replayed bs ≡ Ok items)) (sym same)
            (f.gives items (subst (λ (b : Batched). after_records opening (records_of_commits (commits_in b.ended)) ≡ Some items) cut apply));
        waiting = ap (λ (l : BookLog _). l.waiting) is.0.waiting ∙ sym (ap (λ (b : Batched). b.waiting) cut);
        lost = ap (λ (l : BookLog _). l.lost) is.0.waiting ∙ f.lost;
        fits = λ batch none. absurd cc;
        faultless = ap (λ (l : BookLog _). l.failed) is.0.waiting ∙ f.faultless;
      }
  follows_finish shows opening commits trace answer.Noted old new f is = subst (FollowsCommits shows opening commits Dropped) (sym is.1) f
  follows_finish shows opening commits trace answer.DiskFault old new f is = record {
    gives = λ items apply. subst (λ (content : Option BatchList). ForSome content (λ bs. replayed bs ≡ Ok items)) (sym is.1.batches) (f.gives items apply);
    waiting = is.1.waiting;
    lost = is.1.lost ∙ ap (λ (w : List Commit). Some (batch_payload (w ++ commit_of trace ∷ []))) f.waiting;
    fits = λ batch some. subst (λ (cs : List Commit). AreRecords (records_of_commits cs)) (ap (λ (w : List Commit). w ++ commit_of trace ∷ []) f.waiting ∙ just some) is.0.fits;
    faultless = tt;
  }
    where
      just : {X : Type 0} {x y : X} → Some x ≡ Some y → x ≡ y
      just e = cc
  follows_finish shows opening commits trace (answer.Faulted seen) old new f is = not_both old.log.failed seen is.0.failed f.faultless
  follows_finish shows opening commits trace answer.NoMemory old new f is = subst (λ (b : BookState _). FollowsCommits shows opening commits Dropped b.log) (sym is) f

  pub follows_flush : {D : Type 0} (shows : D → DiskView) (opening : Items) (commits : List Commit) (result : Flush) (old new : BookState D)
      → FollowsCommits shows opening commits Dropped old.log → FlushIs shows old result new → FollowsFlush shows opening commits result new.log
  follows_flush shows opening commits flush.Sealed old new f is =
      let whole : commits_in (batched commits).ended ++ old.log.waiting ≡ commits = ap (λ (w : List Commit). commits_in (batched commits).ended ++ w) f.waiting ∙ laws.all commits in
      record {
        gives = λ items apply. gives_sealed shows opening old.log new.log (commits_in (batched commits).ended) old.log.waiting is.0 is.1.batches f.gives items
            (subst (λ (cs : List Commit). after_records opening (records_of_commits cs) ≡ Some items) (sym whole) apply);
        waiting = is.1.waiting;
        lost = is.1.lost;
        fits = λ batch none. absurd cc;
        faultless = is.1.failed;
      }
  follows_flush shows opening commits flush.Nothing old new f is =
      let whole : commits_in (batched commits).ended ≡ commits =
      sym (append-nil (commits_in (batched commits).ended)) ∙ ap (λ (w : List Commit). commits_in (batched commits).ended ++ w) (sym is.1 ∙ f.waiting) ∙ laws.all commits in
      subst (λ (b : BookState _). FollowsCommits shows opening commits Flushed b.log) (sym is.2)
      (record {
        gives = λ items apply. f.gives items (subst (λ (cs : List Commit). after_records opening (records_of_commits cs) ≡ Some items) (sym whole) apply);
        waiting = is.1;
        lost = f.lost;
        fits = λ batch none. absurd cc;
        faultless = f.faultless;
      })
  follows_flush shows opening commits flush.DiskFault old new f is = record {
    gives = λ items apply. subst (λ (content : Option BatchList). ForSome content (λ bs. replayed bs ≡ Ok items)) (sym is.1.batches) (f.gives items apply);
    waiting = is.1.waiting;
    lost = is.1.lost ∙ ap (λ (w : List Commit). Some (batch_payload w)) f.waiting;
    fits = λ batch some. subst (λ (cs : List Commit). AreRecords (records_of_commits cs)) (f.waiting ∙ just some) is.0;
    faultless = tt;
  }
    where
      just : {X : Type 0} {x y : X} → Some x ≡ Some y → x ≡ y
      just e = cc
  follows_flush shows opening commits (flush.Faulted seen) old new f is = not_both old.log.failed seen is.0 f.faultless
  follows_flush shows opening commits flush.NoMemory old new f is = subst (λ (b : BookState _). FollowsCommits shows opening commits Dropped b.log) (sym is) f

  -- ---- images
  -- a prefix of the commits, as the items that it gives
  kept_front : (opening now : Items) (front rest whole : List Commit) → front ++ rest ≡ whole → after_records opening (records_of_commits whole) ≡ Some now
      → (mid : Items) × (after_records opening (records_of_commits front) ≡ Some mid) × (kept opening whole (length front) ≡ mid)
  kept_front opening now front rest whole is apply =
      let step = commits_then opening now front rest (subst (λ (cs : List Commit). after_records opening (records_of_commits cs) ≡ Some now) (sym is) apply) in (
        step.0,
        step.1,
        ap (applied_commits opening) (ap (take (length front)) (sym is) ∙ take-append_seam front rest) ∙ laws.made opening step.0 front step.1,
      )

  found_gives : (live : LiveArea) (content : Option BatchList) (image : Areas) (items : Items) → ForSome content (λ batches. replayed batches ≡ Ok items) → IsFoundAs live content image → found image ≡ Ok items
  found_gives live None image items gives is = absurd cc
  found_gives live (Some batches) image items gives is =
      let same : live_found live batches ≡ found_of image = cc in
      ap found_by (sym same) ∙ ap (in_area live.area) (gives batches refl)

  kept_at : (opening : Items) (commits : List Commit) (end : End) (image : Areas) (n : ℕ) (mid : Items) → MayKeep commits end n → kept opening (with_doubt commits end) n ≡ mid → found image ≡ Ok mid → IsFoundKept opening commits end image
  kept_at opening commits end image n mid may is found_so = record { number = n; may_keep = may; found_so = found_so ∙ ap Ok (sym is) }

  -- found as the batches that have ended
  kept_ended : {D : Type 0} (shows : D → DiskView) (opening now : Items) (commits : List Commit) (end : End) (rest : List Commit) (log : BookLog D) (image : Areas)
      → commits_in (batched commits).ended ++ rest ≡ with_doubt commits end → MayKeep commits end (sealed commits)
      → ((items : Items) → after_records opening (records_of_commits (commits_in (batched commits).ended)) ≡ Some items → GivesBatches shows log items)
      → after_records opening (records_of_commits (with_doubt commits end)) ≡ Some now → IsFoundAs log.live (book_batches shows log) image → IsFoundKept opening commits end image
  kept_ended shows opening now commits end rest log image whole may gives apply is =
      let front = kept_front opening now (commits_in (batched commits).ended) rest (with_doubt commits end) whole apply in
      kept_at opening commits end image (sealed commits) front.0 may front.2
      (found_gives log.live (book_batches shows log) image front.0 (gives front.0 front.1) is)

  -- found as these, or with the last batch, too
  kept_either : {D : Type 0} (shows : D → DiskView) (opening now : Items) (commits : List Commit) (end : End) (rest : List Commit) (log : BookLog D) (image : Areas)
      → commits_in (batched commits).ended ++ rest ≡ with_doubt commits end → MayKeep commits end (sealed commits) → MayKeep commits end (length (with_doubt commits end)) → AreRecords (records_of_commits rest)
      → ((items : Items) → after_records opening (records_of_commits (commits_in (batched commits).ended)) ≡ Some items → GivesBatches shows log items)
      → after_records opening (records_of_commits (with_doubt commits end)) ≡ Some now → IsFoundOr shows (batch_payload rest) log image → IsFoundKept opening commits end image
  kept_either shows opening now commits end rest log image whole may may_all fits gives apply either =
      let step = commits_then opening now (commits_in (batched commits).ended) rest (subst (λ (cs : List Commit). after_records opening (records_of_commits cs) ≡ Some now) (sym whole) apply) in
      let all = kept_front opening now (with_doubt commits end) [] (with_doubt commits end) (append-nil (with_doubt commits end)) apply in
      let same : kept opening (with_doubt commits end) (length (with_doubt commits end)) ≡ now =
      ap (applied_commits opening) (take_all (length (with_doubt commits end)) (with_doubt commits end) (omega arith)) ∙ laws.made opening now (with_doubt commits end) apply in
      ⊎_elim
      (λ is. kept_ended shows opening now commits end rest log image whole may gives apply is)
      (λ is. kept_at opening commits end image (length (with_doubt commits end)) now may_all same
      (found_gives log.live (with_payload shows (batch_payload rest) log) image now (gives_with shows log rest step.0 now fits step.2 (gives step.0 step.1)) is))
      either

  -- during a call that enters a commit, and during a flush
  pub moments_of_finish : {D : Type 0} (shows : D → DiskView) (opening now : Items) (commits : List Commit) (trace : TxTrace) (log : BookLog D) (image : Areas)
      → FollowsCommits shows opening commits Dropped log → AreRecords (records_of_commits (batch_with trace log.waiting)) → after_records opening (records_of_commits (commits ++ commit_of trace ∷ [])) ≡ Some now
      → IsFoundOr shows (batch_payload (batch_with trace log.waiting)) log image → IsFoundKept opening commits (FailedCommit (commit_of trace)) image
  moments_of_finish shows opening now commits trace log image f fits apply is =
      kept_either shows opening now commits (FailedCommit (commit_of trace)) (batch_with trace log.waiting) log image
      (sym (append_assoc (commits_in (batched commits).ended) log.waiting (commit_of trace ∷ []))
      ∙ ap (λ (w : List Commit). (commits_in (batched commits).ended ++ w) ++ commit_of trace ∷ []) f.waiting ∙ ap (λ (cs : List Commit). cs ++ commit_of trace ∷ []) (laws.all commits))
      (inl refl) (inr (length-append commits (commit_of trace ∷ []))) fits f.gives apply is

  pub moments_of_flush : {D : Type 0} (shows : D → DiskView) (opening now : Items) (commits : List Commit) (log : BookLog D) (image : Areas)
      → FollowsCommits shows opening commits Dropped log → AreRecords (records_of_commits log.waiting) → after_records opening (records_of_commits commits) ≡ Some now
      → IsFoundOr shows (batch_payload log.waiting) log image → IsFoundKept opening commits FailedFlush image
  moments_of_flush shows opening now commits log image f fits apply is =
      kept_either shows opening now commits FailedFlush log.waiting log image
      (ap (λ (w : List Commit). commits_in (batched commits).ended ++ w) f.waiting ∙ laws.all commits) (inl refl) (inr refl) fits f.gives apply is

  pub images_kept : {D : Type 0} (shows : D → DiskView) (opening now : Items) (commits : List Commit) (end : End) (log : BookLog D) (image : Areas)
      → FollowsCommits shows opening commits end log → after_records opening (records_of_commits (with_doubt commits end)) ≡ Some now → IsFoundSo shows log image → IsFoundKept opening commits end image
  images_kept shows opening now commits Dropped log image f apply is =
      kept_ended shows opening now commits Dropped (batched commits).waiting log image (laws.all commits) refl f.gives apply (subst (λ lost. IsFoundBy shows lost log image) f.lost is)
  images_kept shows opening now commits Flushed log image f apply is =
      kept_at opening commits Flushed image (length commits) now refl
      (ap (applied_commits opening) (take_all (length commits) commits (omega arith)) ∙ laws.made opening now commits apply)
      (found_gives log.live (book_batches shows log) image now (f.gives now apply) (subst (λ lost. IsFoundBy shows lost log image) f.lost is))
  images_kept shows opening now commits (FailedCommit c) log image f apply is =
      kept_either shows opening now commits (FailedCommit c) ((batched commits).waiting ++ c ∷ []) log image
      (sym (append_assoc (commits_in (batched commits).ended) (batched commits).waiting (c ∷ [])) ∙ ap (λ (cs : List Commit). cs ++ c ∷ []) (laws.all commits))
      (inl refl) (inr (length-append commits (c ∷ []))) (f.fits ((batched commits).waiting ++ c ∷ []) refl) f.gives apply (subst (λ lost. IsFoundBy shows lost log image) f.lost is)
  images_kept shows opening now commits FailedFlush log image f apply is =
      kept_either shows opening now commits FailedFlush (batched commits).waiting log image (laws.all commits)
      (inl refl) (inr refl) (f.fits (batched commits).waiting refl) f.gives apply (subst (λ lost. IsFoundBy shows lost log image) f.lost is)
  images_kept shows opening now commits FailedCheckpoint log image f apply is =
      kept_ended shows opening now commits FailedCheckpoint (batched commits).waiting log image (laws.all commits) refl f.gives apply (subst (λ lost. IsFoundBy shows lost log image) f.lost is)

-- ---- the opening
pub follows_fresh : {D : Type 0} (shows : D → DiskView) (opening : Items) (disk : D) (live : LiveArea) (batches : BatchList)
    → HasBatches (book_batches shows (fresh disk live)) batches → replayed batches ≡ Ok opening → FollowsCommits shows opening [] Dropped (fresh disk live)
follows_fresh shows opening disk live batches has gives = record {
  gives = λ items none. let same : opening ≡ items = cc in
      have_of (book_batches shows (fresh disk live)) (λ bs. replayed bs ≡ Ok items) batches has (gives ∙ ap Ok same);
  waiting = refl;
  lost = refl;
  fits = λ batch none. absurd cc;
  faultless = refl;
}
