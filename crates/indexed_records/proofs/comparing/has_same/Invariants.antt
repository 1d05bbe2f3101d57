use Rattle.std.proofs.Common.{◌≡◌, drop}
use Rattle.store_contents.specs.Sameness.{keys_given, same_keys}
use Rattle.indexed_records.proofs.comparing.has_same.Given as goal

-- the keys so far tie
abbrev pub invariant-loop-place : goal.invariant-loop-place
invariant-loop-place l = same_keys (drop l.place (keys_given l.keys)) (drop l.place (keys_given l.others)) ≡ same_keys (keys_given l.keys) (keys_given l.others)
