use Rattle.std.proofs.Common.{◌≡◌, drop}
use Rattle.std.specs.List.{list_all}
use Rattle.path_grammar.specs.KeyPath.{is_path_string}
use Rattle.path_grammar.proofs.are_path_strings.Given as goal

-- the strings so far are key paths
abbrev pub invariant-loop-place : goal.invariant-loop-place
invariant-loop-place l = list_all is_path_string (drop l.place l.strings) ≡ list_all is_path_string l.strings
