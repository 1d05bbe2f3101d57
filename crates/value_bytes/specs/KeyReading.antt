-- Reading a key from the front of a list of bytes.
--     key_at            a key that is at most so deep
--     key_body_at       what stands behind the byte of a kind, with the reader of members
use Rattle.std.specs.Prelude.{ℕ, zero, suc, List, Option, Some, None, ◌==◌, if◌then◌else◌}
use Rattle.clone_values.specs.KeyTree.{KeyTree, number, date, text, binary, array, key_trees_of}
use Rattle.clone_values.specs.WellFormed.{is_int, is_date}
use Rattle.value_bytes.specs.declared.kinds.KeyKind.{KeyKind}
use Rattle.value_bytes.specs.declared.kinds.KeyKind.TheVariants as kind
use Rattle.value_bytes.specs.Steps.{◌>>=◌, byte_at, whole_number_at, string_at, text_at, mapped_at, checked_at, counted_at}

-- the kind of key that a byte stands for
abbrev pub key_kind_of : ℕ → Option KeyKind
key_kind_of b =
    if b == 0x21 then Some kind.Number
    else if b == 0x22 then Some kind.Date
    else if b == 0x23 then Some kind.Text
    else if b == 0x24 then Some kind.Binary
    else if b == 0x25 then Some kind.Array
    else None

abbrev pub key_body_at : (List ℕ → Option (KeyTree × List ℕ)) → KeyKind → List ℕ → Option (KeyTree × List ℕ)
key_body_at r kind.Number bs = mapped_at number (checked_at is_int whole_number_at) bs
key_body_at r kind.Date bs = mapped_at date (checked_at is_date whole_number_at) bs
key_body_at r kind.Text bs = mapped_at text text_at bs
key_body_at r kind.Binary bs = mapped_at binary string_at bs
key_body_at r kind.Array bs = mapped_at (λ ks. array (key_trees_of ks)) (counted_at r) bs

-- a key that is at most so deep
unfoldable pub key_at : ℕ → List ℕ → Option (KeyTree × List ℕ)
key_at zero bs = None
key_at (suc d) bs = byte_at bs >>= λ b. key_kind_of b.0 >>= λ k. key_body_at (key_at d) k b.1
