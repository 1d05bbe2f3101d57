-- What a stop says of what caused it.
--     stop_of_recovery      why a session wasn't opened
use Rattle.idb_recovery.specs.declared.error.RecoverError.{RecoverError}
use Rattle.idb_recovery.specs.declared.error.RecoverError.TheVariants as error
use Rattle.script_runner.specs.declared.stops.Stop.{Stop}
use Rattle.script_runner.specs.declared.stops.Stop.TheVariants as stop

abbrev pub stop_of_recovery : RecoverError → Stop
stop_of_recovery error.DiskFault = stop.DiskFault
stop_of_recovery (error.Damaged area place) = stop.Damaged area place
stop_of_recovery error.NoMemory = stop.NoMemory
