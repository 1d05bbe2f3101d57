-- What the bytes of a script are.
--     IsDocument            what is answered is the document of the bytes, or that they are none
use Rattle.std.specs.Prelude.{◌≡◌, ℕ, List, Result, Ok, Err, Some, None}
use Rattle.std.specs.Str.{IsUtf8}
use Rattle.serde_json.specs.Read.{read}
use Rattle.serde_json.specs.View.{view}
use Rattle.serde_json.specs.declared.value.Value.{Value}
use Rattle.script_reading.specs.declared.error.ScriptError.{ScriptError}
use Rattle.script_reading.specs.declared.error.ScriptError.TheVariants as error

abbrev pub IsDocument : List ℕ → Result Value ScriptError → Type 0
IsDocument bytes (Ok v) = IsUtf8 bytes × (read bytes ≡ Some (view v))
IsDocument bytes (Err (error.BadScript p)) = (p ≡ 0) × (IsUtf8 bytes → read bytes ≡ None)
IsDocument bytes (Err error.NoMemory) = Unit {0}
