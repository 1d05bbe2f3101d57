-- What is read of a source, and the status that it asks for.
use Rattle.std.proofs.Common.{◌≡◌, ◌∷◌, [], ◌≤◌, ◌∙◌, List, ℕ, Bool, true, false, if◌then◌else◌, length, Option, None, Some, Result, refl, sym, ap, subst, IfSome, length-append, arith}
use Rattle.std.specs.Io.KnownBytes.{Consumes, IsAtEnd}
use Rattle.std.specs.Str.{IsUtf8, is_utf8}
use Rattle.std.proofs.KnownBytes.{Consumes-whole}
use Rattle.std.proofs.lemmas.Str.{IsUtf8-from_is_utf8, is_utf8-from_IsUtf8}
use Rattle.std.proofs.lemmas.Bool.{lt-leb, le-leb}
use Rattle.serde_json.specs.Read.{read}
use Rattle.script_reading.specs.Layers.{script_read}
use Rattle.script_reading.specs.Places.{Reaches}
use Rattle.script_reading.specs.declared.error.ScriptError.{ScriptError}
use Rattle.disk_trait.specs.declared.area.Area.{Area}
use Rattle.disk_trait.specs.Areas.{Areas}
use Rattle.disk_trait.specs.Disk.{DiskView}
use Rattle.item_changes.specs.Items.{Items}
use Rattle.log_history.specs.Found.{found}
use Rattle.script_statements.specs.declared.script.Script.{Script}
use Rattle.script_statements.specs.declared.script.ScriptSession.{ScriptSession}
use Rattle.script_runner.specs.Inputs.{reading_of, ReadsAs, ReadsTooMuch, status_of_found, status_of_sessions, status_of_reading, due_of}
use Rattle.script_runner.specs.Sessions.{SessionDone, AreReported}
use Rattle.script_runner.specs.declared.limits.TheConstants.{MOST_SCRIPT_BYTES}
use Rattle.script_runner.specs.declared.status.Status.TheVariants as status

-- a text is read, and other bytes are no document
pub reading_reaches : (bytes : List ℕ) (result : Result Script ScriptError) → (IsUtf8 bytes → Reaches (λ s. s) result (script_read (read bytes)))
    → ((IsUtf8 bytes → ⊥) → Reaches (λ s. s) result (script_read None)) → Reaches (λ s. s) result (reading_of bytes)
unfolding reading_of
reading_reaches bytes result text no_text = by_test (is_utf8 bytes) refl
  where
    by_test : (b : Bool) → is_utf8 bytes ≡ b → Reaches (λ s. s) result (script_read (if b then read bytes else None))
    by_test true is = text (IsUtf8-from_is_utf8 bytes is)
    by_test false is = no_text (λ u. let yes = is_utf8-from_IsUtf8 bytes u in absurd (cc))

-- what was read to the end is all that there was
pub read_whole : (before after : Option (List ℕ)) (bytes input : List ℕ) → Consumes before after bytes → IsAtEnd after → before ≡ Some input → input ≡ bytes
read_whole before after bytes input taken end told =
    let Q : List ℕ → Type 0 = λ xs. xs ≡ bytes in
    let P : Option (List ℕ) → Type 0 = λ o. IfSome o Q in
    subst P told (Consumes-whole before after bytes Q taken end refl)

-- what was read is no more than there was
pub read_within : (before after : Option (List ℕ)) (bytes input : List ℕ) → Consumes before after bytes → before ≡ Some input → length bytes ≤ length input
read_within before after bytes input taken told = within after (subst (λ o. Consumes o after bytes) told taken)
  where
    within : (after : Option (List ℕ)) → Consumes (Some input) after bytes → length bytes ≤ length input
    within None e = absurd e
    within (Some rest) e = let sizes = ap length e ∙ length-append bytes rest in omega arith

module _ (before after : Option (List ℕ)) (input : List ℕ) (told : before ≡ Some input) (there : Result Items (Area × ℕ)) where
  pub due_too_long : ReadsTooMuch before after → due_of there input ≡ status.TooLong
  due_too_long r =
      let within = read_within before after r.bytes input r.taken told in
      let many = r.many in
      rw (lt-leb (length input) MOST_SCRIPT_BYTES (omega arith)) refl

  pub due_as : (reading : Result Script ℕ) → ReadsAs before after reading → due_of there input ≡ status_of_reading there reading
  due_as reading r =
      let same = read_whole before after r.bytes input r.taken r.to_end told in
      let few = subst (λ xs. length xs ≤ MOST_SCRIPT_BYTES) (sym same) r.few in
      let here : reading_of input ≡ reading = ap reading_of same ∙ r.reads in
      rw (le-leb (length input) MOST_SCRIPT_BYTES few, here) refl

-- all sessions are reported, the first of them on the databases that were found as the disk came
pub found_so : (entry : DiskView) (sessions : List ScriptSession) (done : List SessionDone) → AreReported entry None 1 sessions done → (areas : Areas) → entry.reads ≡ Some areas
    → status_of_sessions (found areas) sessions ≡ status.Done
found_so entry [] [] all areas told = refl
found_so entry [] (d ∷ ds) all areas told = absurd all
found_so entry (s ∷ ss) [] all areas told = absurd all
found_so entry (s ∷ ss) (d ∷ ds) all areas told = ap status_of_found (all.0.found_so areas (all.0.given ∙ told))
