-- The bytes of changes, records and batches. Numbers stand with their highest byte first.
--     flag_bytes, path_spelling     yes or no;  a key path, or that there is none
--     store_name_bytes, index_name_bytes    the name of a store with that of its database;  and that of an index in it
--     delta_spelling        the bytes of a change: its kind, what it names, and what it brings
--     record_spelling       the bytes of a record: the transaction's number, and the changes
--     batch_spelling        the bytes of a batch: the records
use Rattle.std.specs.Prelude.{ℕ, Bool, true, false, List, [], ◌∷◌, ◌++◌, length, Option, Some, None}
use Rattle.std.specs.List.{flat_map}
use Rattle.clone_values.specs.declared.path_types.PathSpec.{PathSpec}
use Rattle.clone_values.specs.declared.path_types.PathSpec.TheVariants.{One, Many}
use Rattle.value_bytes.specs.Spelling.{count_bytes, word_bytes, string_bytes, spelling_of}
use Rattle.value_bytes.specs.KeySpelling.{key_spelling_of}
use Rattle.idb_calls.specs.Deltas.{DeltaTree, Version, DropDatabase, CreateStore, DropStore, CreateIndex, DropIndex, Put, Remove, Clear, Current}
use Rattle.record_bytes.specs.declared.records.LogRecord.{LogRecord}

abbrev pub flag_bytes : Bool → List ℕ
flag_bytes false = 0x00 ∷ []
flag_bytes true = 0x01 ∷ []

-- one string, or a list: a count, and the strings
abbrev pub key_path_spelling : PathSpec → List ℕ
key_path_spelling (One string) = 0x41 ∷ string_bytes string
key_path_spelling (Many strings) = 0x42 ∷ (count_bytes (length strings) ++ flat_map string_bytes strings)

abbrev pub path_spelling : Option PathSpec → List ℕ
path_spelling None = 0x40 ∷ []
path_spelling (Some path) = key_path_spelling path

abbrev pub store_name_bytes : List ℕ → List ℕ → List ℕ
store_name_bytes db store = string_bytes db ++ string_bytes store

abbrev pub index_name_bytes : List ℕ → List ℕ → List ℕ → List ℕ
index_name_bytes db store index = store_name_bytes db store ++ string_bytes index

abbrev pub delta_spelling : DeltaTree → List ℕ
delta_spelling (Version db version) = 0x31 ∷ (string_bytes db ++ word_bytes version)
delta_spelling (DropDatabase db) = 0x32 ∷ string_bytes db
delta_spelling (CreateStore db store path auto) = 0x33 ∷ (store_name_bytes db store ++ (path_spelling path ++ flag_bytes auto))
delta_spelling (DropStore db store) = 0x34 ∷ store_name_bytes db store
delta_spelling (CreateIndex db store index path unique multi) = 0x35 ∷ (index_name_bytes db store index ++ (key_path_spelling path ++ (flag_bytes unique ++ flag_bytes multi)))
delta_spelling (DropIndex db store index) = 0x36 ∷ index_name_bytes db store index
delta_spelling (Put db store key value) = 0x37 ∷ (store_name_bytes db store ++ (key_spelling_of key ++ spelling_of value))
delta_spelling (Remove db store key) = 0x38 ∷ (store_name_bytes db store ++ key_spelling_of key)
delta_spelling (Clear db store) = 0x39 ∷ store_name_bytes db store
delta_spelling (Current db store current) = 0x3a ∷ (store_name_bytes db store ++ word_bytes current)

-- the number, how many changes there are, and each of them
abbrev pub record_spelling : LogRecord → List ℕ
record_spelling r = word_bytes r.number ++ (count_bytes (length r.deltas) ++ flat_map delta_spelling r.deltas)

-- how many records there are, and each of them
abbrev pub batch_spelling : List LogRecord → List ℕ
batch_spelling rs = count_bytes (length rs) ++ flat_map record_spelling rs
