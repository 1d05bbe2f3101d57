use Rattle.std.proofs.Common.{◌≡◌, ◌≤◌, length, ◌++◌, drop, map, option_map}
use Rattle.clone_values.specs.View.{tree_of}
use Rattle.key_paths.specs.Evaluation.{all_there, string_evaluated}
use Rattle.key_paths.proofs.evaluation.evaluate_list.Given as goal

-- the values so far, one a string, in front of what the rest gives
abbrev pub invariant-loop-place : goal.invariant-loop-place
invariant-loop-place l = record {
  so_far : option_map (λ ts. map tree_of l.values.items ++ ts) (all_there (map (λ s. string_evaluated s (tree_of l.v)) (drop l.place l.strings)))
      ≡ all_there (map (λ s. string_evaluated s (tree_of l.v)) l.strings);
  count : length l.values.items ≤ l.place;
}
