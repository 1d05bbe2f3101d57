-- The words of the program.
--     IsRun                 they are the one word `run`
--     usage_text            what a faulty command line is told
use Rattle.std.specs.Prelude.{◌≡◌, ℕ, List, [], ◌∷◌, codes}

abbrev pub IsRun : List (List ℕ) → Type 0
IsRun words = words ≡ codes "run" ∷ []

abbrev pub usage_text : List ℕ
usage_text = codes "idbrun: usage: idbrun run"
