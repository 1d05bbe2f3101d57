use Rattle.std.proofs.Common.{◌≡◌, drop}
use Rattle.std.specs.FinMap as finite
use Rattle.session_databases.specs.Parts.{is_not_among, with_stores_of}
use Rattle.session_databases.proofs.moving.move_stores.Given as goal

-- moving the rest completes the whole
abbrev pub invariant-loop-place : goal.invariant-loop-place
invariant-loop-place g l = record {
  moved : with_stores_of (drop l.place l.names) l.from l.to ≡ with_stores_of l.names l.initial.from l.initial.to;
  left : finite.retain_keys l.from (is_not_among (drop l.place l.names)) ≡ finite.retain_keys l.initial.from (is_not_among l.names);
}
