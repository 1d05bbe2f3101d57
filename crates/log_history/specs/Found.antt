-- What the bytes of both areas give.
--     found                 the items, or the area and the place where the areas are damaged
--     found_count           how many records they hold
use Rattle.std.specs.Prelude.{ℕ, length, Result, Ok, Err}
use Rattle.std.specs.FinMap as finite
use Rattle.disk_trait.specs.declared.area.Area.{Area}
use Rattle.disk_trait.specs.Areas.{Areas}
use Rattle.gate_areas.specs.Found.{Found, Nothing, Live, Damaged, found_of}
use Rattle.item_changes.specs.Items.{Items}
use Rattle.log_history.specs.Replayed.{replayed, records_in_log}

abbrev pub in_area : Area → Result Items ℕ → Result Items (Area × ℕ)
in_area area (Ok items) = Ok items
in_area area (Err place) = Err (area, place)

-- two blank areas give no databases; only the live area's records count
abbrev pub found_by : Found → Result Items (Area × ℕ)
found_by Nothing = Ok finite.empty
found_by (Live area generation batches) = in_area area (replayed batches)
found_by (Damaged area place) = Err (area, place)

abbrev pub found : Areas → Result Items (Area × ℕ)
found areas = found_by (found_of areas)

abbrev pub count_by : Found → ℕ
count_by Nothing = 0
count_by (Live area generation batches) = length (records_in_log batches)
count_by (Damaged area place) = 0

abbrev pub found_count : Areas → ℕ
found_count areas = count_by (found_of areas)
