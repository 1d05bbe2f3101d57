-- What a journal, the least layer above a log, says of an image.
use Rattle.std.specs.Prelude.{◌≡◌, ℕ, length, Bool, false, ◌||◌, nat_eq, Result, Ok, Err, IsOkAnd}
use Rattle.disk_trait.specs.declared.area.Area.{Area}
use Rattle.disk_trait.specs.Areas.{Areas}
use Rattle.gate_areas.specs.Sealed.{BatchList}
use Rattle.gate_areas.specs.Found.{batches_in}

-- the image is found with so many batches
abbrev pub HasCount : ℕ → Areas → Type 0
HasCount number image = IsOkAnd (batches_in image) (λ batches. length batches ≡ number)

-- whether there are so many batches, or as many as the other number says
abbrev pub is_count : (number other : ℕ) → Result BatchList (Area × ℕ) → Bool
is_count number other (Ok batches) = nat_eq (length batches) number || nat_eq (length batches) other
is_count number other (Err place) = false
