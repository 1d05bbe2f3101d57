-- Reading a value from the front of a list of bytes.
--     value_at      a value that is at most so deep
--     body_at       what stands behind the byte of a kind, with the reader of members
use Rattle.std.specs.Prelude.{ℕ, zero, suc, true, false, List, map, Option, Some, None, ◌==◌, if◌then◌else◌}
use Rattle.std.specs.List.{list_all}
use Rattle.clone_values.specs.Tree.{Tree, undefined, null, boolean, int, text, date, bytes, array, object, map_object, set_object, trees_of, members_of, pairs_of}
use Rattle.clone_values.specs.Names.{names_of, is_rising}
use Rattle.clone_values.specs.WellFormed.{is_int, is_date, are_once, is_array_name}
use Rattle.value_bytes.specs.declared.kinds.Kind.{Kind}
use Rattle.value_bytes.specs.declared.kinds.Kind.TheVariants as kind
use Rattle.value_bytes.specs.Steps.{◌>>=◌, byte_at, whole_number_at, string_at, text_at, mapped_at, checked_at, pair_at, counted_at}

-- the kind that a byte stands for
abbrev pub kind_of : ℕ → Option Kind
kind_of b =
    if b == 0 then Some kind.Undefined
    else if b == 1 then Some kind.Null
    else if b == 2 then Some kind.False
    else if b == 3 then Some kind.True
    else if b == 4 then Some kind.Int
    else if b == 5 then Some kind.Text
    else if b == 6 then Some kind.Date
    else if b == 7 then Some kind.Bytes
    else if b == 8 then Some kind.Array
    else if b == 9 then Some kind.Object
    else if b == 10 then Some kind.Map
    else if b == 11 then Some kind.Set
    else None

-- properties whose names rise
abbrev pub properties_at : (List ℕ → Option (Tree × List ℕ)) → List ℕ → Option (List (List ℕ × Tree) × List ℕ)
properties_at r = checked_at (λ ms. is_rising (names_of ms)) (counted_at (pair_at text_at r))

-- items, and properties that an Array may have
abbrev pub array_at : (List ℕ → Option (Tree × List ℕ)) → List ℕ → Option ((List Tree × List (List ℕ × Tree)) × List ℕ)
array_at r = checked_at (λ x. list_all is_array_name (names_of x.1)) (pair_at (counted_at r) (properties_at r))

abbrev pub map_at : (List ℕ → Option (Tree × List ℕ)) → List ℕ → Option (List (Tree × Tree) × List ℕ)
map_at r = checked_at (λ ps. are_once (map (λ p. p.0) ps)) (counted_at (pair_at r r))

abbrev pub set_at : (List ℕ → Option (Tree × List ℕ)) → List ℕ → Option (List Tree × List ℕ)
set_at r = checked_at are_once (counted_at r)

abbrev pub body_at : (List ℕ → Option (Tree × List ℕ)) → Kind → List ℕ → Option (Tree × List ℕ)
body_at r kind.Undefined bs = Some (undefined, bs)
body_at r kind.Null bs = Some (null, bs)
body_at r kind.False bs = Some (boolean false, bs)
body_at r kind.True bs = Some (boolean true, bs)
body_at r kind.Int bs = mapped_at int (checked_at is_int whole_number_at) bs
body_at r kind.Text bs = mapped_at text text_at bs
body_at r kind.Date bs = mapped_at date (checked_at is_date whole_number_at) bs
body_at r kind.Bytes bs = mapped_at bytes string_at bs
body_at r kind.Array bs = mapped_at (λ x. array (trees_of x.0) (members_of x.1)) (array_at r) bs
body_at r kind.Object bs = mapped_at (λ ms. object (members_of ms)) (properties_at r) bs
body_at r kind.Map bs = mapped_at (λ ps. map_object (pairs_of ps)) (map_at r) bs
body_at r kind.Set bs = mapped_at (λ ts. set_object (trees_of ts)) (set_at r) bs

-- a value that is at most so deep
unfoldable pub value_at : ℕ → List ℕ → Option (Tree × List ℕ)
value_at zero bs = None
value_at (suc d) bs = byte_at bs >>= λ b. kind_of b.0 >>= λ k. body_at (value_at d) k b.1
