-- What a status says: whether something was written, the number that the program ends with, and its line.
--     IsUnwritten           no session began, and nothing was written
--     number_of             the number
--     number_of_area        that of an area
--     line_of               the line on standard error; where the report is written there is none
use Rattle.std.specs.Prelude.{ℕ, List, [], ◌++◌, codes, decimal, ⊤}
use Rattle.disk_trait.specs.declared.area.Area.{Area}
use Rattle.disk_trait.specs.declared.area.Area.TheVariants.{Zero, One}
use Rattle.script_runner.specs.declared.status.Status.{Status}
use Rattle.script_runner.specs.declared.status.Status.TheVariants.{Done, Usage, TooLong, BadScript, ReadFault, WriteFault, DiskFault, Damaged, NoMemory}

abbrev pub IsUnwritten : Status → Type 0
IsUnwritten Done = ⊥
IsUnwritten (Usage text) = ⊤
IsUnwritten TooLong = ⊤
IsUnwritten (BadScript place) = ⊤
IsUnwritten ReadFault = ⊤
IsUnwritten WriteFault = ⊥
IsUnwritten DiskFault = ⊥
IsUnwritten (Damaged area place) = ⊥
IsUnwritten NoMemory = ⊥

abbrev pub number_of : Status → ℕ
number_of Done = 0
number_of (Usage text) = 2
number_of TooLong = 3
number_of (BadScript place) = 4
number_of ReadFault = 5
number_of WriteFault = 6
number_of DiskFault = 7
number_of (Damaged area place) = 8
number_of NoMemory = 9

abbrev pub number_of_area : Area → ℕ
number_of_area Zero = 0
number_of_area One = 1

abbrev pub line_of : Status → List ℕ
line_of Done = []
line_of (Usage text) = text
line_of TooLong = codes "idbrun: script too long"
line_of (BadScript place) = codes "idbrun: bad script at " ++ decimal place
line_of ReadFault = codes "idbrun: read fault"
line_of WriteFault = codes "idbrun: write fault"
line_of DiskFault = codes "idbrun: disk fault"
line_of (Damaged area place) = codes "idbrun: damaged area " ++ decimal (number_of_area area) ++ codes " at " ++ decimal place
line_of NoMemory = codes "idbrun: no memory"
