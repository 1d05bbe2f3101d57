-- What a store or its index shows to a cursor.
--     member_value          the value of the record to which a member leads
--     valued            a member and that value
--     member_taken          the member that a turn and so many more take, with its value
use Rattle.std.specs.Prelude.{ℕ, Option, slice_get, option_map}
use Rattle.std.specs.Option.{option_and_then}
use Rattle.std.specs.FinMap.{get}
use Rattle.clone_values.specs.Tree.{Tree}
use Rattle.idb_keys.specs.declared.names.Over.{Over}
use Rattle.index_tables.specs.Rows.{RowTree}
use Rattle.idb_cursors.specs.Cursors.{TurnData, iterated}
use Rattle.object_stores.specs.Store.{Store}
use Rattle.object_stores.specs.Showing.{shown_in}

-- none where the store has no record of its primary key
abbrev pub member_value : Store → RowTree → Option Tree
member_value store member = get store.records member.1

abbrev pub valued : Store → RowTree → Option (RowTree × Tree)
valued store member = option_map (λ value. (member, value)) (member_value store member)

-- none where a turn finds nothing
abbrev pub member_taken : Store → Over → TurnData → ℕ → Option (RowTree × Tree)
member_taken store over turn more = option_and_then (valued store) (option_and_then (slice_get (shown_in store over)) (iterated (shown_in store over) turn more))
