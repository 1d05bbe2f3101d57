-- An error of a reading, as the log hands it on.
use Rattle.gate_areas.specs.declared.collecting.CollectError.{CollectError}
use Rattle.gate_areas.specs.declared.collecting.CollectError.TheVariants as read
use Rattle.gate_log.specs.declared.error.LogError.{LogError}
use Rattle.gate_log.specs.declared.error.LogError.TheVariants as error

abbrev pub log_error_of : CollectError → LogError
log_error_of read.DiskFault = error.DiskFault
log_error_of read.NoMemory = error.NoMemory
