-- A database's place as it is put among the places.
--     placed_at             the places with this one at a place, or behind the last
use Rattle.std.specs.Prelude.{ℕ, nat_lt, List, [], ◌∷◌, ◌++◌, length, if◌then◌else◌, slice_set}
use Rattle.desk_steps.specs.declared.stands.DeskPlace.{DeskPlace}

abbrev pub placed_at : ℕ → DeskPlace → List DeskPlace → List DeskPlace
placed_at place p places = if nat_lt place (length places) then slice_set places place p else places ++ p ∷ []
