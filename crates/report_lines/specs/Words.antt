-- How the text of a report is made of words.
--     text_of_words         the text of a line: its words with one space between each two, and a line feed
--     text_of_lines         the texts of lines, one after another
--     word_of_value         a value as a word: its JSON, with no space
use Rattle.std.specs.Prelude.{ℕ, List, [], ◌∷◌, ◌++◌, flat_map}
use Rattle.std.specs.List.{join_with_byte}
use Rattle.clone_values.specs.Tree.{Tree}
use Rattle.serde_json.specs.Written.{compact_text}
use Rattle.value_json.specs.Writing.{json_of}

-- the text of a line
abbrev pub text_of_words : List (List ℕ) → List ℕ
text_of_words words = join_with_byte 32 words ++ 10 ∷ []

-- the texts of lines
abbrev pub text_of_lines : List (List (List ℕ)) → List ℕ
text_of_lines lines = flat_map text_of_words lines

-- a value as a word
unfoldable pub word_of_value : Tree → List ℕ
word_of_value tree = compact_text (json_of tree)
