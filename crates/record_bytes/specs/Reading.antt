-- Reading records from the front of a list of bytes, as values and keys are read.
--     flag_at, key_path_at, path_at         the fields
--     store_name_at, index_name_at          names
--     logged_version_at, logged_current_at  numbers in range
--     delta_kind_of, delta_body_at, delta_at        a change: the kind of its byte, and what stands behind it
--     record_at, batch_at   a record;  one or more
--     records_in            the records of which the bytes are a batch, all of the bytes
use Rattle.std.specs.Prelude.{ℕ, Bool, true, false, not, ◌&&◌, ◌||◌, ◌==◌, nat_le, List, length, Option, Some, None, if◌then◌else◌}
use Rattle.clone_values.specs.Tree.{Tree}
use Rattle.clone_values.specs.KeyTree.{KeyTree}
use Rattle.clone_values.specs.declared.path_types.PathSpec.{PathSpec}
use Rattle.clone_values.specs.declared.path_types.PathSpec.TheVariants.{One, Many}
use Rattle.path_grammar.specs.KeyPath.{is_key_path}
use Rattle.idb_schema.specs.Definitions.{takes_generator, is_list_path}
use Rattle.idb_base.specs.declared.limits.TheConstants.{GREATEST_DEPTH}
use Rattle.value_bytes.specs.Steps.{◌>>=◌, byte_at, word_at, text_at, mapped_at, checked_at, pair_at, counted_at}
use Rattle.value_bytes.specs.Reading.{value_at}
use Rattle.value_bytes.specs.KeyReading.{key_at}
use Rattle.idb_calls.specs.Deltas.{DeltaTree, Version, DropDatabase, CreateStore, DropStore, CreateIndex, DropIndex, Put, Remove, Clear, Current}
use Rattle.record_bytes.specs.declared.records.LogRecord.{LogRecord}
use Rattle.record_bytes.specs.declared.kinds.DeltaKind.{DeltaKind}
use Rattle.record_bytes.specs.declared.kinds.DeltaKind.TheVariants as kind
use Rattle.record_bytes.specs.Loggable.{is_logged_version, is_logged_current}

-- ---- fields
abbrev pub flag_of : ℕ → Option Bool
flag_of b = if b == 0 then Some false else if b == 1 then Some true else None

abbrev pub flag_at : List ℕ → Option (Bool × List ℕ)
flag_at bs = byte_at bs >>= λ b. flag_of b.0 >>= λ flag. Some (flag, b.1)

-- a path, behind the byte that says whether it is a string or a list
abbrev pub path_body_at : ℕ → List ℕ → Option (PathSpec × List ℕ)
path_body_at b bs = if b == 0x41 then mapped_at One text_at bs else if b == 0x42 then mapped_at Many (counted_at text_at) bs else None

unfoldable pub key_path_at : List ℕ → Option (PathSpec × List ℕ)
key_path_at = checked_at is_key_path (λ bs. byte_at bs >>= λ b. path_body_at b.0 b.1)

unfoldable pub path_at : List ℕ → Option (Option PathSpec × List ℕ)
path_at bs = byte_at bs >>= λ b. if b.0 == 0x40 then Some (None, b.1) else mapped_at Some key_path_at bs

abbrev pub store_name_at : List ℕ → Option ((List ℕ × List ℕ) × List ℕ)
store_name_at = pair_at text_at text_at

abbrev pub index_name_at : List ℕ → Option (((List ℕ × List ℕ) × List ℕ) × List ℕ)
index_name_at = pair_at store_name_at text_at

abbrev pub logged_version_at : List ℕ → Option (ℕ × List ℕ)
logged_version_at = checked_at is_logged_version word_at

abbrev pub logged_current_at : List ℕ → Option (ℕ × List ℕ)
logged_current_at = checked_at is_logged_current word_at

-- a key path, and whether there is a generator: it fits
abbrev pub store_kind_at : List ℕ → Option ((Option PathSpec × Bool) × List ℕ)
store_kind_at = checked_at (λ x. not x.1 || takes_generator x.0) (pair_at path_at flag_at)

-- a key path, and whether the index is unique and multi-entry: it fits
abbrev pub index_kind_at : List ℕ → Option ((PathSpec × (Bool × Bool)) × List ℕ)
index_kind_at = checked_at (λ x. not (x.1.1 && is_list_path x.0)) (pair_at key_path_at (pair_at flag_at flag_at))

abbrev pub record_entry_at : List ℕ → Option ((KeyTree × Tree) × List ℕ)
record_entry_at = pair_at (key_at GREATEST_DEPTH) (value_at GREATEST_DEPTH)

-- ---- changes
-- the kind of change that a byte stands for
abbrev pub delta_kind_of : ℕ → Option DeltaKind
delta_kind_of b =
    if b == 0x31 then Some kind.Version
    else if b == 0x32 then Some kind.DropDatabase
    else if b == 0x33 then Some kind.CreateStore
    else if b == 0x34 then Some kind.DropStore
    else if b == 0x35 then Some kind.CreateIndex
    else if b == 0x36 then Some kind.DropIndex
    else if b == 0x37 then Some kind.Put
    else if b == 0x38 then Some kind.Remove
    else if b == 0x39 then Some kind.Clear
    else if b == 0x3a then Some kind.Current
    else None

abbrev pub delta_body_at : DeltaKind → List ℕ → Option (DeltaTree × List ℕ)
delta_body_at kind.Version bs = mapped_at (λ x. Version x.0 x.1) (pair_at text_at logged_version_at) bs
delta_body_at kind.DropDatabase bs = mapped_at DropDatabase text_at bs
delta_body_at kind.CreateStore bs = mapped_at (λ x. CreateStore x.0.0 x.0.1 x.1.0 x.1.1) (pair_at store_name_at store_kind_at) bs
delta_body_at kind.DropStore bs = mapped_at (λ x. DropStore x.0 x.1) store_name_at bs
delta_body_at kind.CreateIndex bs = mapped_at (λ x. CreateIndex x.0.0.0 x.0.0.1 x.0.1 x.1.0 x.1.1.0 x.1.1.1) (pair_at index_name_at index_kind_at) bs
delta_body_at kind.DropIndex bs = mapped_at (λ x. DropIndex x.0.0 x.0.1 x.1) index_name_at bs
delta_body_at kind.Put bs = mapped_at (λ x. Put x.0.0 x.0.1 x.1.0 x.1.1) (pair_at store_name_at record_entry_at) bs
delta_body_at kind.Remove bs = mapped_at (λ x. Remove x.0.0 x.0.1 x.1) (pair_at store_name_at (key_at GREATEST_DEPTH)) bs
delta_body_at kind.Clear bs = mapped_at (λ x. Clear x.0 x.1) store_name_at bs
delta_body_at kind.Current bs = mapped_at (λ x. Current x.0.0 x.0.1 x.1) (pair_at store_name_at logged_current_at) bs

unfoldable pub delta_at : List ℕ → Option (DeltaTree × List ℕ)
delta_at bs = byte_at bs >>= λ b. delta_kind_of b.0 >>= λ k. delta_body_at k b.1

-- ---- records
unfoldable pub record_at : List ℕ → Option (LogRecord × List ℕ)
record_at = mapped_at (λ x. record { number = x.0; deltas = x.1 }) (pair_at word_at (counted_at delta_at))

abbrev pub batch_at : List ℕ → Option (List LogRecord × List ℕ)
batch_at = checked_at (λ rs. nat_le 1 (length rs)) (counted_at record_at)

abbrev pub whole_batch : Option (List LogRecord × List ℕ) → Option (List LogRecord)
whole_batch read = read >>= λ x. if length x.1 == 0 then Some x.0 else None

unfoldable pub records_in_batch : List ℕ → Option (List LogRecord)
records_in_batch bytes = whole_batch (batch_at bytes)
