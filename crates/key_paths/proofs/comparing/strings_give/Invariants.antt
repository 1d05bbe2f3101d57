use Rattle.std.proofs.Common.{◌≡◌, drop}
use Rattle.clone_values.specs.View.{tree_of}
use Rattle.key_paths.proofs.KeysGiven.{Gives}
use Rattle.key_paths.proofs.comparing.strings_give.Given as goal

-- the strings that are left give the keys that are left, where all give all
abbrev pub invariant-loop-place : goal.invariant-loop-place
invariant-loop-place l = Gives (tree_of l.v) (drop l.place l.strings) (drop l.place l.keys) ≡ Gives (tree_of l.v) l.strings l.keys
