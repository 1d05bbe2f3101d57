-- What a store or one of its indexes shows.
--     shown_in              the key and the primary key of each of its members, in order
--     chosen_in             those in a range, or all where no range is given
use denote.Ref.{Bor}
use Rattle.std.specs.Prelude.{List, Option}
use Rattle.idb_keys.specs.KeyRange.{Range}
use Rattle.idb_keys.specs.declared.names.Over.{Over}
use Rattle.index_tables.specs.Rows.{RowTree}
use Rattle.store_contents.specs.Reading.{members_in, selected, asked}
use Rattle.store_contents.specs.Store.{Store}

abbrev pub shown_in : Store → Over → List RowTree
shown_in store over = members_in store.info.indexes store.records over

abbrev pub chosen_in : Store → Over → Option (Bor Range) → List RowTree
chosen_in store over range = selected (asked range) (shown_in store over)
