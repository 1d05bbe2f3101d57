use Rattle.std.proofs.Common.{◌≡◌, ◌≤◌, ◌+◌, [], ◌++◌, length, map, option_map, drop}
use Rattle.std.specs.List.{fold}
use Rattle.serde_json.specs.View.{items_view, members_view}
use Rattle.clone_values.specs.Names.{set_member, set_members}
use Rattle.clone_values.specs.View.{tree_of, pair_of}
use Rattle.value_json.specs.Reading.{trees_in, pairs_in, members_in}
use Rattle.value_json.proofs.reading.+read.Given as goal

-- ---- what is read so far, and then what is left, is the whole

abbrev pub invariant-read_values-loop-json : goal.invariant-read_values-loop-json
invariant-read_values-loop-json l =
    (length l.values.items ≤ l.json-index) × (option_map (λ rest. map tree_of l.values.items ++ rest) (trees_in (items_view (drop l.json-index l.json-items))) ≡ trees_in (items_view l.json-items))

abbrev pub invariant-read_pairs-loop-json : goal.invariant-read_pairs-loop-json
invariant-read_pairs-loop-json l =
    (length l.pairs.items ≤ l.json-index) × (option_map (λ rest. map pair_of l.pairs.items ++ rest) (pairs_in (items_view (drop l.json-index l.json-items))) ≡ pairs_in (items_view l.json-items))

abbrev pub invariant-read_members-loop-name : goal.invariant-read_members-loop-name
invariant-read_members-loop-name l =
    (length l.props + length l.name-iterator ≤ length l.members.entries)
    × (option_map (fold (λ done m. set_member done m.0 m.1) l.props) (members_in (members_view l.name-iterator)) ≡ option_map (set_members []) (members_in (members_view l.members.entries)))
