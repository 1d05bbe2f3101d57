-- What lies beyond the place of a cursor, by how the keys lie.
--     by_pair               beyond a member
--     by_both               the order of a member and a pair of keys
--     pair_wherever         beyond no member
--     zip_there             where both are there
use Rattle.std.proofs.Common.{◌≡◌, true, ◌&&◌, Option, Some, None, is_some, option_map, refl}
use Rattle.std.specs.Prelude.{if◌then◌else◌}
use Rattle.std.specs.Option.{option_zip}
use Rattle.std.specs.Ordering.{is_lt, ordering_then}
use Rattle.std.specs.declared.cmp.Ordering.{Ordering}
use Rattle.clone_values.specs.KeyTree.{KeyTree}
use Rattle.idb_keys.specs.declared.names.Direction.{Direction}
use Rattle.index_tables.specs.Rows.{RowTree, row_cmp}
use Rattle.key_paths.specs.Comparing.{compared}
use Rattle.idb_cursors.specs.Cursors.{toward, pair_beyond_place}

pub by_pair : (direction : Direction) (place : RowTree) (o : Option (KeyTree × KeyTree))
    → option_map (λ order. is_lt (toward direction order)) (option_map (row_cmp place) o) ≡ option_map (pair_beyond_place direction (Some place)) o
by_pair direction place None = refl
by_pair direction place (Some pair) = refl

abbrev pub both : Option Ordering → Option Ordering → Option Ordering
both (Some a) (Some b) = Some (ordering_then a b)
both (Some a) None = None
both None o = None

pub by_both : (place : RowTree) (o p : Option KeyTree) → both (compared (Some place.0) o) (compared (Some place.1) p) ≡ option_map (row_cmp place) (option_zip o p)
by_both place None p = refl
by_both place (Some k) None = refl
by_both place (Some k) (Some m) = refl

pub pair_wherever : (direction : Direction) (o : Option RowTree) → (if is_some o then Some true else None) ≡ option_map (pair_beyond_place direction None) o
pair_wherever direction None = refl
pair_wherever direction (Some pair) = refl

pub zip_there : (o p : Option KeyTree) → is_some (option_zip o p) ≡ (is_some o && is_some p)
zip_there None p = refl
zip_there (Some k) None = refl
zip_there (Some k) (Some m) = refl
