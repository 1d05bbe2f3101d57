use Rattle.std.proofs.Common.{◌≡◌, drop}
use Rattle.serde_json.specs.View.{items_view, members_view}
use Rattle.script_reading.specs.Places.{behind_items, behind_members}
use Rattle.script_reading.proofs.places.+behind.Given as goal

abbrev pub invariant-behind_list-loop-item : goal.invariant-behind_list-loop-item
invariant-behind_list-loop-item l = behind_items l.m (items_view (drop l.item-index l.item-items)) ≡ behind_items l.fn.n (items_view l.item-items)

abbrev pub invariant-behind_members-loop-name : goal.invariant-behind_members-loop-name
invariant-behind_members-loop-name l = behind_members l.m (members_view l._name-iterator) ≡ behind_members l.fn.n (members_view l.members.entries)
