-- A text is a name.
use Rattle.std.proofs.Common.{◌≡◌, ℕ, true, List, ◌&&◌}
use Rattle.std.specs.Str.{IsUtf8}
use Rattle.std.proofs.lemmas.Str.{is_utf8-from_IsUtf8}
use Rattle.std.proofs.lemmas.Bool.{le-leb}
use Rattle.idb_base.specs.Lists.{IsWithinLimit}
use Rattle.clone_values.specs.WellFormed.{is_text}

pub is_named : (s : List ℕ) → IsUtf8 s → IsWithinLimit s → is_text s ≡ true
is_named s u h = λ i. is_utf8-from_IsUtf8 s u i && le-leb _ _ h i
