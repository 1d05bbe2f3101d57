-- The words for a log.
use Rattle.std.specs.Prelude.{◌≡◌, ℕ, Option, None, Result, Ok, Err}
use Rattle.disk_trait.specs.declared.area.Area.{Area}
use Rattle.disk_trait.specs.Disk.{DiskView}
use Rattle.gate_areas.specs.Sealed.{BatchList}
use Rattle.gate_areas.specs.LiveBatches.{EndBy}
use Rattle.gate_areas.specs.declared.live.LiveArea.{LiveArea}
use Rattle.gate_log.specs.Content.{batches_told, HasBatches}
use Rattle.gate_log.specs.declared.error.LogError.{LogError}
use Rattle.gate_log.specs.declared.log.GateLog.{GateLog}

-- its disk
abbrev pub disk_of : {D : Type 0} {d : _} → GateLog D d → D
disk_of log = log.disk

-- the area that it writes to, with its generation and the place of its last gate
abbrev pub live_of : {D : Type 0} {d : _} → GateLog D d → LiveArea
live_of log = log.live

abbrev pub live_area : {D : Type 0} {d : _} → GateLog D d → Area
live_area log = log.live.area

abbrev pub generation_of : {D : Type 0} {d : _} → GateLog D d → ℕ
generation_of log = log.live.generation

-- the place of its last gate, which is that of the next batch
abbrev pub last_gate : {D : Type 0} {d : _} → GateLog D d → ℕ
last_gate log = log.live.gate

-- the count of faults that was seen when an append or a switch failed; None until then
abbrev pub failed_at : {D : Type 0} {d : _} → GateLog D d → Option ℕ
failed_at log = log.seen

-- The log's batches: those that it was opened with, and each one since whose append answered Ok. None: its disk tells
-- nothing of its content, and the clauses on content claim nothing.
abbrev pub content_of : {D : Type 0} {d : _} → (D → DiskView) → GateLog D d → Option BatchList
content_of shows log = batches_told (shows log.disk) log.live

-- a log that was just made, in this area, with this generation and these batches
pub record IsNew {D : Type 0} {d : _} (shows : D → DiskView) (area : Area) (generation : ℕ) (batches : BatchList) (log : GateLog D d) : Type 0 where
  pub has : HasBatches (content_of shows log) batches
  pub in_area : live_area log ≡ area
  pub of_generation : generation_of log ≡ generation
  pub faultless : failed_at log ≡ None
  pub bounded : EndBy (last_gate log) batches

-- the disk after a call that makes a log of it or gives it back
abbrev pub disk_after : {D : Type 0} {d : _} → Result (GateLog D d) (LogError × D) → D
disk_after (Ok log) = log.disk
disk_after (Err error) = error.1

-- the same of a call that opens a log
abbrev pub disk_opened : {D X : Type 0} {d : _} → Result (GateLog D d × X) (LogError × D) → D
disk_opened (Ok opened) = opened.0.disk
disk_opened (Err error) = error.1
