-- What a keeper says of its book, from the clauses of one call.
use Rattle.std.proofs.Common.{◌≡◌, ℕ, Bool, true, false, List, [], ◌∷◌, ◌++◌, Option, Some, None, Result, Ok, Err, refl, sym, ap, subst, ◌∙◌, append_assoc}
use Rattle.std.specs.Prelude.{is_some, option_map}
use Rattle.std.specs.FinMap as finite
use Rattle.std.proofs.lemmas.List.{append-nil}
use Rattle.disk_trait.specs.declared.area.Area.{Area}
use Rattle.disk_trait.specs.Areas.{Areas}
use Rattle.disk_trait.specs.Disk.{DiskView, WhereTold, EachImage}
use Rattle.gate_areas.specs.Sealed.{BatchList}
use Rattle.gate_areas.specs.Found.{Found, Nothing, Live, Damaged, found_of, meaning_of, batches_in}
use Rattle.gate_areas.specs.LiveBatches.{live_batches}
use Rattle.gate_log.specs.Content.{HasBatches}
use Rattle.idb_calls.specs.declared.traces.TxTrace.{TxTrace}
use Rattle.item_changes.specs.Items.{Items}
use Rattle.log_history.specs.Replayed.{replayed}
use Rattle.log_history.specs.Found.{found, found_by, in_area}
use Rattle.log_history.specs.Batching.{Commit, commit_of}
use Rattle.log_history.specs.Kept.{End, Dropped, with_doubt, kept}
use Rattle.tx_book.specs.Books.{BookLog, book_batches, IsFoundSo}
use Rattle.tx_book.specs.Follows.{FollowsCommits, FollowsFinish, IsFoundKept}
use Rattle.tx_book.specs.Keeper.{KeepsEntering, GivesKept}

-- no commit more, or one
none_more : {D : Type 0} (shows : D → DiskView) (opening : Items) (commits : List Commit) (end : End) (log : BookLog D) → FollowsCommits shows opening commits end log → FollowsCommits shows opening (commits ++ []) end log
none_more shows opening commits end log f = subst (λ (cs : List Commit). FollowsCommits shows opening cs end log) (sym (append-nil commits)) f

pub noted : {D : Type 0} (shows : D → DiskView) (opening : Items) (commits : List Commit) (log : BookLog D) → FollowsCommits shows opening commits Dropped log → KeepsEntering shows opening commits true log
noted shows opening commits log f = ([], none_more shows opening commits Dropped log f)

pub ended : {D : Type 0} (shows : D → DiskView) (opening : Items) (commits : List Commit) (end : End) (log : BookLog D) → FollowsCommits shows opening commits end log → KeepsEntering shows opening commits false log
ended shows opening commits end log f = ([], end, none_more shows opening commits end log f)

-- more after more
pub goes_further : {D : Type 0} (shows : D → DiskView) (opening : Items) (commits more : List Commit) (on : Bool) (log : BookLog D) → KeepsEntering shows opening (commits ++ more) on log → KeepsEntering shows opening commits on log
goes_further shows opening commits more true log g = (more ++ g.0, subst (λ (cs : List Commit). FollowsCommits shows opening cs Dropped log) (append_assoc commits more g.0) g.1)
goes_further shows opening commits more false log g = (more ++ g.0, g.1, subst (λ (cs : List Commit). FollowsCommits shows opening cs g.1 log) (append_assoc commits more g.0) g.2)

-- ---- the log that is opened again
in_area_ok : (area : Area) (r : Result Items ℕ) (items : Items) → in_area area r ≡ Ok items → r ≡ Ok items
in_area_ok area (Ok more) items e = cc
in_area_ok area (Err place) items e = absurd cc

replays_found : (f : Found) (batches : BatchList) (items : Items) → meaning_of f ≡ Ok batches → found_by f ≡ Ok items → replayed batches ≡ Ok items
replays_found Nothing batches items means gives =
    let none : [] ≡ batches = cc in
    let empty : finite.empty ≡ items = cc in
    subst (λ (bs : BatchList). replayed bs ≡ Ok items) none (ap Ok empty)
replays_found (Live area generation others) batches items means gives =
    let same : others ≡ batches = cc in
    subst (λ (bs : BatchList). replayed bs ≡ Ok items) same (in_area_ok area (replayed others) items gives)
replays_found (Damaged area place) batches items means gives = absurd cc

told_before : (before after : Option Areas) → is_some after ≡ is_some before → {X : Type 0} (f : Areas → X) (x : X) → option_map f after ≡ Some x → (areas : Areas) × (before ≡ Some areas)
told_before (Some areas) after told f x is = (areas, refl)
told_before None None told f x is = absurd cc
told_before None (Some areas) told f x is = absurd cc

pub reopened : {D : Type 0} (shows : D → DiskView) (opening : Items) (commits : List Commit) (end : End) (disk : D) (new : BookLog D) (batches : BatchList)
    → ((image : Areas) → (shows disk).may_leave image → IsFoundKept opening commits end image)
    → ((areas : Areas) → (shows disk).reads ≡ Some areas → (shows disk).may_leave areas)
    → is_some (shows new.disk).reads ≡ is_some (shows disk).reads
    → WhereTold (shows disk) (λ areas. batches_in areas ≡ Ok batches) → HasBatches (book_batches shows new) batches
    → GivesKept shows opening commits end new
reopened shows opening commits end disk new batches images an_image told same has = λ found_now is.
    let was = told_before (shows disk).reads (shows new.disk).reads told (live_batches new.live) found_now is in
    let k = images was.0 (an_image was.0 was.1) in
    let same_batches : found_now ≡ batches = has found_now is in (
      k.number,
      k.may_keep,
      subst (λ (bs : BatchList). replayed bs ≡ Ok (kept opening (with_doubt commits end) k.number)) (sym same_batches)
          (replays_found (found_of was.0) batches (kept opening (with_doubt commits end) k.number) (same was.0 was.1) k.found_so),
    )
