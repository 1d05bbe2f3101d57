-- What a recovery gives.
--     recover_error_of      an error of the log, as a recovery hands it on
--     collect_error_as      an error of reading batches, as a look hands it on
--     disk_recovered        the disk after a recovery
--     GivesItems            a log and its databases: those that the batches give that were read
--     SameAnswer            the same is found in both areas, and a recovery gives the same
use Rattle.std.specs.Prelude.{◌≡◌, ◌⊎◌, [], Result, Ok, Err}
use Rattle.disk_trait.specs.declared.area.Area.TheVariants.{Zero}
use Rattle.disk_trait.specs.Areas.{Areas}
use Rattle.disk_trait.specs.Disk.{DiskView, WhereTold}
use Rattle.gate_areas.specs.Sealed.{BatchList}
use Rattle.gate_areas.specs.Found.{Nothing, Live, found_of}
use Rattle.gate_areas.specs.LiveBatches.{EndBy}
use Rattle.gate_areas.specs.declared.collecting.CollectError.{CollectError}
use Rattle.gate_areas.specs.declared.collecting.CollectError.TheVariants as collect
use Rattle.gate_log.specs.Content.{HasBatches}
use Rattle.gate_log.specs.Log.{live_of, last_gate, content_of}
use Rattle.gate_log.specs.Opened.{FoundAs}
use Rattle.gate_log.specs.declared.error.LogError.{LogError}
use Rattle.gate_log.specs.declared.error.LogError.TheVariants as log
use Rattle.gate_log.specs.declared.log.GateLog.{GateLog}
use Rattle.item_changes.specs.Items.{Items}
use Rattle.log_history.specs.Replayed.{replayed}
use Rattle.log_history.specs.Found.{found}
use Rattle.idb_recovery.specs.declared.error.RecoverError.{RecoverError}
use Rattle.idb_recovery.specs.declared.error.RecoverError.TheVariants as error
use Rattle.idb_recovery.specs.declared.recovery.Opened.{Opened}

abbrev pub recover_error_of : LogError → RecoverError
recover_error_of log.DiskFault = error.DiskFault
recover_error_of (log.Damaged area place) = error.Damaged area place
recover_error_of log.NoMemory = error.NoMemory

abbrev pub collect_error_as : CollectError → RecoverError
collect_error_as collect.DiskFault = error.DiskFault
collect_error_as collect.NoMemory = error.NoMemory

abbrev pub disk_recovered : {D T R W d : _} → Result (Opened D T R W d) (RecoverError × D) → D
disk_recovered (Ok opened) = opened.log.disk
disk_recovered (Err error) = error.1

-- The batches were read, of what reads gave where they tell it; they are the log's, and they give these databases.
pub record GivesItems {D : Type 0} {d : _} (shows : D → DiskView) (old : DiskView) (log : GateLog D d) (items : Items) : Type 0 where
  pub batches : BatchList
  pub gives : replayed batches ≡ Ok items
  pub found : WhereTold old (λ areas. FoundAs (live_of log) batches (found_of areas))
  pub has : HasBatches (content_of shows log) batches
  pub bounded : EndBy (last_gate log) batches

-- The same is found in both areas; or nothing was, and now the empty log of area 0. A recovery gives the same of them.
pub record SameAnswer (before after : Areas) : Type 0 where
  pub areas : (found_of after ≡ found_of before) ⊎ ((found_of before ≡ Nothing) × (found_of after ≡ Live Zero 1 []))
  pub items : found after ≡ found before
