-- How the parts of a book are seen.
--     disk_in, live_there, failed_in  of the place where its log is: the disk, the live area, and the count of faults when it failed
--     log_held               all of it
use Rattle.std.specs.Prelude.{ℕ, List, Option, Some, None}
use Rattle.gate_areas.specs.declared.live.LiveArea.{LiveArea}
use Rattle.gate_log.specs.Log.{disk_of, live_of, failed_at}
use Rattle.tx_book.specs.declared.place.Place.{Place}
use Rattle.tx_book.specs.declared.place.Place.TheVariants as place
use Rattle.tx_book.specs.declared.held.Held.{Held}
use Rattle.tx_book.specs.Waiting.{relaxed}
use Rattle.tx_book.specs.Books.{BookLog}

abbrev pub disk_in : {D : Type 0} {d : _} → Place D d → D
disk_in (place.Open log) = disk_of log
disk_in (place.Fallen fallen) = fallen.disk

abbrev pub live_there : {D : Type 0} {d : _} → Place D d → LiveArea
live_there (place.Open log) = live_of log
live_there (place.Fallen fallen) = fallen.live

abbrev pub failed_in : {D : Type 0} {d : _} → Place D d → Option ℕ
failed_in (place.Open log) = failed_at log
failed_in (place.Fallen fallen) = Some fallen.seen

abbrev pub log_held : {D : Type 0} {d : _} → Held D d → BookLog D
log_held held = record { disk = disk_in held.place; live = live_there held.place; failed = failed_in held.place; waiting = relaxed held.waiting; lost = held.lost }
