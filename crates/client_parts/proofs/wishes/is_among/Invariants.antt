use Rattle.std.proofs.Common.{◌≡◌, drop}
use Rattle.std.specs.List.{list_any}
use Rattle.item_changes.specs.Items.{is_same_name}
use Rattle.client_parts.proofs.wishes.is_among.Given as goal

-- the names that are left decide
abbrev pub invariant-loop-place : goal.invariant-loop-place
invariant-loop-place l = list_any (is_same_name l.name) (drop l.place l.names) ≡ list_any (is_same_name l.name) l.names
