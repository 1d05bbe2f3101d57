-- The words of a client's line.
--     words_of_line         one equation a kind of line
use Rattle.std.specs.Prelude.{ℕ, Bool, true, false, List, [], ◌∷◌, Option, Some, None, codes, decimal}
use Rattle.clone_values.specs.View.{tree_of}
use Rattle.idb_keys.specs.Names.{error_name}
use Rattle.idb_keys.specs.declared.names.Mode.{Mode}
use Rattle.idb_keys.specs.declared.names.Mode.TheVariants as mode
use Rattle.idb_keys.specs.declared.names.Durability.{Durability}
use Rattle.idb_keys.specs.declared.names.Durability.TheVariants as durability
use Rattle.idb_keys.specs.declared.names.ErrorName.{ErrorName}
use Rattle.report_lines.specs.Words.{word_of_value}
use Rattle.report_lines.specs.declared.lines.Line.{Line}
use Rattle.report_lines.specs.declared.lines.Line.TheVariants as line

abbrev pub word_of_mode : Mode → List ℕ
word_of_mode mode.ReadOnly = codes "readonly"
word_of_mode mode.ReadWrite = codes "readwrite"
word_of_mode mode.VersionChange = codes "versionchange"

abbrev pub word_of_durability : Durability → List ℕ
word_of_durability durability.Strict = codes "strict"
word_of_durability durability.Relaxed = codes "relaxed"

-- a version, or null for none
abbrev pub word_of_version : Option ℕ → List ℕ
word_of_version None = codes "null"
word_of_version (Some version) = decimal version

-- the name of an error, or null for none
abbrev pub word_of_error : Option ErrorName → List ℕ
word_of_error None = codes "null"
word_of_error (Some error) = error_name error

-- a word more for a commit in doubt
abbrev pub words_of_doubt : Bool → List (List ℕ)
words_of_doubt false = []
words_of_doubt true = codes "doubt" ∷ []

unfoldable pub words_of_line : Line → List (List ℕ)
words_of_line (line.Refused op error) = codes "refused" ∷ op ∷ error_name error ∷ []
words_of_line (line.Say value) = codes "say" ∷ word_of_value (tree_of value) ∷ []
words_of_line line.Throw = codes "throw" ∷ []
words_of_line (line.OpenUpgrade request old new number) = codes "open" ∷ decimal request ∷ codes "upgrade" ∷ decimal old ∷ decimal new ∷ codes "tx" ∷ decimal number ∷ []
words_of_line (line.OpenBlocked request old new) = codes "open" ∷ decimal request ∷ codes "blocked" ∷ decimal old ∷ decimal new ∷ []
words_of_line (line.OpenSuccess request version) = codes "open" ∷ decimal request ∷ codes "success" ∷ decimal version ∷ []
words_of_line (line.OpenError request error) = codes "open" ∷ decimal request ∷ codes "error" ∷ error_name error ∷ []
words_of_line (line.DeleteBlocked request old) = codes "delete" ∷ decimal request ∷ codes "blocked" ∷ decimal old ∷ []
words_of_line (line.DeleteTransaction request number) = codes "delete" ∷ decimal request ∷ codes "tx" ∷ decimal number ∷ []
words_of_line (line.DeleteSuccess request old) = codes "delete" ∷ decimal request ∷ codes "success" ∷ decimal old ∷ []
words_of_line (line.DeleteError request error) = codes "delete" ∷ decimal request ∷ codes "error" ∷ error_name error ∷ []
words_of_line (line.VersionChange request old new) = codes "versionchange" ∷ decimal request ∷ decimal old ∷ word_of_version new ∷ []
words_of_line (line.Closed request) = codes "closed" ∷ decimal request ∷ []
words_of_line (line.Created number mode durability) = codes "tx" ∷ decimal number ∷ codes "create" ∷ word_of_mode mode ∷ word_of_durability durability ∷ []
words_of_line (line.RequestSuccess number request result) = codes "tx" ∷ decimal number ∷ codes "req" ∷ decimal request ∷ codes "success" ∷ word_of_value (tree_of result) ∷ []
words_of_line (line.RequestError number request error) = codes "tx" ∷ decimal number ∷ codes "req" ∷ decimal request ∷ codes "error" ∷ error_name error ∷ []
words_of_line (line.Complete number) = codes "tx" ∷ decimal number ∷ codes "complete" ∷ []
words_of_line (line.Abort number error doubt) = codes "tx" ∷ decimal number ∷ codes "abort" ∷ word_of_error error ∷ words_of_doubt doubt
