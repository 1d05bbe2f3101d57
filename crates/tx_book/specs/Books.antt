-- What a book is.
--     BookLog                the log as a book has it: its disk and its live area, the count of faults that was seen when an append
--                           failed, the commits that wait for the end of their batch, and the payload of the batch that failed
--     BookState              a book: its log, and the numbers of the transactions that finished, and of the commits among them
--     fresh                  a log that was just opened: nothing waits, and nothing failed
--     book_batches           the batches of its log: those that it was opened with, and each that was sealed since; none are told
--                           where the disk tells nothing of its content
--     with_payload           these with one batch more, of this payload, at the log's last gate
--     IsFoundOr              an image is found as the batches of the log, or as these with one of this payload
--     IsFoundSo              an image is found as the batches of the log or, where one failed, as these or as these with that one
--     IsLogKept, IsBook      what a book keeps of its log;  and with it, how few commits wait
use Rattle.std.specs.Prelude.{◌≡◌, ℕ, ◌-◌, ◌^◌, ◌<◌, List, [], Option, Some, None}
use Rattle.disk_trait.specs.Areas.{Areas}
use Rattle.disk_trait.specs.Disk.{DiskView, EachImage}
use Rattle.gate_areas.specs.Sealed.{BatchList}
use Rattle.gate_areas.specs.declared.live.LiveArea.{LiveArea}
use Rattle.gate_log.specs.Content.{batches_told, with_batch, IsFoundAs, IsBeforeOrAfter}
use Rattle.log_history.specs.Batching.{Commit, IsBelowLimits}

pub record BookLog (D : Type 0) : Type 0 where
  pub disk : D
  pub live : LiveArea
  pub failed : Option ℕ
  pub waiting : List Commit
  pub lost : Option (List ℕ)

pub record BookState (D : Type 0) : Type 0 where
  pub log : BookLog D
  pub finished : List ℕ
  pub committed : List ℕ

abbrev pub fresh : {D : Type 0} → D → LiveArea → BookLog D
fresh disk live = record { disk = disk; live = live; failed = None; waiting = []; lost = None }

abbrev pub book_batches : {D : Type 0} → (D → DiskView) → BookLog D → Option BatchList
book_batches shows log = batches_told (shows log.disk) log.live

abbrev pub with_payload : {D : Type 0} → (D → DiskView) → List ℕ → BookLog D → Option BatchList
with_payload shows payload log = with_batch (log.live.gate, payload) (book_batches shows log)

abbrev pub IsFoundOr : {D : Type 0} → (D → DiskView) → List ℕ → BookLog D → Areas → Type 0
IsFoundOr shows payload log image = IsBeforeOrAfter log.live (book_batches shows log) (log.live.gate, payload) image

-- by the payload that failed
abbrev pub IsFoundBy : {D : Type 0} → (D → DiskView) → Option (List ℕ) → BookLog D → Areas → Type 0
IsFoundBy shows None log image = IsFoundAs log.live (book_batches shows log) image
IsFoundBy shows (Some payload) log image = IsFoundOr shows payload log image

abbrev pub IsFoundSo : {D : Type 0} → (D → DiskView) → BookLog D → Areas → Type 0
IsFoundSo shows log image = IsFoundBy shows log.lost log image

-- a payload is lost only in a log that failed; each batch takes nine bytes and more below the limit, so that no count of them wraps
pub record IsLogKept {D : Type 0} (shows : D → DiskView) (log : BookLog D) : Type 0 where
  pub limit : log.live.gate < 2 ^ 63 - 1
  pub images : EachImage (shows log.disk) (IsFoundSo shows log)
  pub faultless : log.failed ≡ None → log.lost ≡ None

-- the commits that wait have not ended their batch
pub record IsBook {D : Type 0} (shows : D → DiskView) (book : BookState D) : Type 0 where
  pub kept : IsLogKept shows book.log
  pub below : IsBelowLimits book.log.waiting
