-- Where the blocks of a client stand, by their names.
--     BlockPlaces           for each name the place of the block, where there is one of that name
--     no_places, with_block_at     none; and one block more
--     block_places          those of the members that are blocks, counted from 0
--     places_seen           those that a map keeps
use Rattle.std.specs.Prelude.{ℕ, ◌+◌, List, if◌then◌else◌, Option, Some, None, String, string_bytes}
use Rattle.std.specs.declared.alloc.Global.{Global}
use Rattle.std.specs.BTreeMap.{BTreeMap, get_by}
use Rattle.std.specs.Cmp.Lexicographic.{slice_cmp}
use Rattle.std.specs.Ordering.{nat_cmp}
use Rattle.std.specs.Str.{bytes_eq}
use Rattle.serde_json.specs.Data.{Members}
use Rattle.serde_json.specs.Data as json

abbrev pub BlockPlaces : Type 0
BlockPlaces = List ℕ → Option ℕ

abbrev pub no_places : BlockPlaces
no_places sought = None

unfoldable pub with_block_at : List ℕ → ℕ → BlockPlaces → BlockPlaces
with_block_at name place places sought = if bytes_eq sought name then Some place else places sought

-- each block stands behind those before it
abbrev pub places_from : ℕ → BlockPlaces → Members → BlockPlaces
places_from n before json.no_members = before
places_from n before (json.member name d ms) = places_from (n + 1) (with_block_at name n before) ms

unfoldable pub block_places : Members → BlockPlaces
block_places ms = places_from 0 no_places ms

unfoldable pub places_seen : BTreeMap (String Global) ℕ → BlockPlaces
places_seen places sought = get_by (λ k. slice_cmp nat_cmp sought (string_bytes k)) places
