-- That what is written reads back.
--     ReadsBack             the value's document reads as the value
--     ReadsByLevels         what a document reads as is what its level makes
use Rattle.std.specs.Prelude.{◌≡◌, Some, option_and_then}
use Rattle.clone_values.specs.Tree.{Tree}
use Rattle.serde_json.specs.Data.{Data}
use Rattle.value_json.specs.Levels.{level_in, made_of}
use Rattle.value_json.specs.Reading.{tree_in}
use Rattle.value_json.specs.Writing.{json_of}

abbrev pub ReadsBack : Tree → Type 0
ReadsBack t = tree_in (json_of t) ≡ Some t

abbrev pub ReadsByLevels : Data → Type 0
ReadsByLevels d = tree_in d ≡ option_and_then made_of (level_in d)
