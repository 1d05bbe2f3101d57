use Rattle.std.proofs.Common.{◌≡◌, true, drop, map}
use Rattle.clone_values.specs.View.{tree_of}
use Rattle.key_paths.specs.Evaluation.{all_there, string_evaluated}
use Rattle.key_paths.proofs.Extracting.{Kind}
use Rattle.key_paths.proofs.extraction.list_would_extract.Given as goal

-- what the other strings make of it
abbrev pub invariant-loop-place : goal.invariant-loop-place
invariant-loop-place l =
    Kind l.multi l.are_keys (all_there (map (λ s. string_evaluated s (tree_of l.v)) (drop l.place l.strings)))
    ≡ Kind l.multi true (all_there (map (λ s. string_evaluated s (tree_of l.v)) l.strings))
