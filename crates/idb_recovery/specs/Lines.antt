-- What a look shows of the areas of a disk.
--     tx_number_of          the number of a record's transaction
--     batch_line_of         a batch: the place of its gate, the length of its payload, and the numbers of its transactions
--     lines_beside          the lines of an area, where these batches are of one of them
--     lines_in              the lines of an area: those of the batches, if it is the live one
--     area_found            what is shown of an area: that it is blank, or its generation and its lines
use Rattle.std.specs.Prelude.{ℕ, List, [], length, map}
use Rattle.disk_trait.specs.declared.area.Area.{Area}
use Rattle.disk_trait.specs.declared.area.Area.TheVariants.{Zero, One}
use Rattle.disk_trait.specs.Areas.{Areas, area_of}
use Rattle.gate_areas.specs.Sealed.{Sealed, Blank, Open, Fault, sealed_of}
use Rattle.gate_areas.specs.Found.{Found, Nothing, Live, Damaged, found_of}
use Rattle.record_bytes.specs.declared.records.LogRecord.{LogRecord}
use Rattle.log_history.specs.Replayed.{records_of_payload}
use Rattle.idb_recovery.specs.declared.lines.BatchLine.{BatchLine}
use Rattle.idb_recovery.specs.declared.lines.AreaFound.{AreaFound}
use Rattle.idb_recovery.specs.declared.lines.AreaFound.TheVariants as area

abbrev pub tx_number_of : LogRecord → ℕ
tx_number_of r = r.number

abbrev pub batch_line_of : ℕ × List ℕ → BatchLine
batch_line_of batch = record { place = batch.0; length = length batch.1; numbers = map tx_number_of (records_of_payload batch.1) }

abbrev pub lines_beside : (here live : Area) → List BatchLine → List BatchLine
lines_beside Zero Zero lines = lines
lines_beside Zero One lines = []
lines_beside One Zero lines = []
lines_beside One One lines = lines

abbrev pub lines_in : Area → Found → List BatchLine
lines_in here Nothing = []
lines_in here (Live live generation batches) = lines_beside here live (map batch_line_of batches)
lines_in here (Damaged damaged place) = []

-- a disk with a fault in an area is not shown
abbrev pub area_shown : List BatchLine → Sealed → AreaFound
area_shown lines Blank = area.Blank
area_shown lines (Open generation batches) = area.Open generation lines
area_shown lines (Fault place) = area.Blank

abbrev pub area_found : Area → Areas → AreaFound
area_found here areas = area_shown (lines_in here (found_of areas)) (sealed_of (area_of here areas))
