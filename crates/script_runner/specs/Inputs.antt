-- What a source gives, as a script.
--     reading_of            what bytes read as: a script, or the place of the first fault
--     ReadsAs               a source was read to its end, and what was read reads so
--     ReadsTooMuch          more was read than a script may have
--     due_of                the status that an input asks for on a disk where this is found: Done where it is a script, and that are databases
--     status_of_reading     that of what it reads as
--     status_of_sessions    that of its sessions; none ask for no disk
--     status_of_found       that of what is found
use Rattle.std.specs.Prelude.{◌≡◌, ◌<◌, ◌≤◌, ℕ, nat_le, List, [], ◌∷◌, length, if◌then◌else◌, Option, None, Result, Ok, Err}
use Rattle.std.specs.Io.KnownBytes.{Consumes, IsAtEnd}
use Rattle.std.specs.Str.{is_utf8}
use Rattle.serde_json.specs.Read.{read}
use Rattle.disk_trait.specs.declared.area.Area.{Area}
use Rattle.item_changes.specs.Items.{Items}
use Rattle.script_reading.specs.Layers.{script_read}
use Rattle.script_statements.specs.declared.script.Script.{Script}
use Rattle.script_statements.specs.declared.script.ScriptSession.{ScriptSession}
use Rattle.script_runner.specs.declared.limits.TheConstants.{MOST_SCRIPT_BYTES}
use Rattle.script_runner.specs.declared.status.Status.{Status}
use Rattle.script_runner.specs.declared.status.Status.TheVariants as status

-- as a JSON document; bytes that are no text are none
unfoldable pub reading_of : List ℕ → Result Script ℕ
reading_of bytes = script_read (if is_utf8 bytes then read bytes else None)

pub record ReadsAs (left_before left_after : Option (List ℕ)) (reading : Result Script ℕ) : Type 0 where
  pub bytes : List ℕ
  pub taken : Consumes left_before left_after bytes
  pub to_end : IsAtEnd left_after
  pub few : length bytes ≤ MOST_SCRIPT_BYTES
  pub reads : reading_of bytes ≡ reading

pub record ReadsTooMuch (left_before left_after : Option (List ℕ)) : Type 0 where
  pub bytes : List ℕ
  pub taken : Consumes left_before left_after bytes
  pub many : MOST_SCRIPT_BYTES < length bytes

abbrev pub status_of_found : Result Items (Area × ℕ) → Status
status_of_found (Ok items) = status.Done
status_of_found (Err damage) = status.Damaged damage.0 damage.1

abbrev pub status_of_sessions : Result Items (Area × ℕ) → List ScriptSession → Status
status_of_sessions there [] = status.Done
status_of_sessions there (session ∷ sessions) = status_of_found there

abbrev pub status_of_reading : Result Items (Area × ℕ) → Result Script ℕ → Status
status_of_reading there (Err place) = status.BadScript place
status_of_reading there (Ok script) = status_of_sessions there script.sessions

abbrev pub due_of : Result Items (Area × ℕ) → List ℕ → Status
due_of there input = if nat_le (length input) MOST_SCRIPT_BYTES then status_of_reading there (reading_of input) else status.TooLong
