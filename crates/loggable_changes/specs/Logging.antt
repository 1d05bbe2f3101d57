-- Changes of a transaction, and the stores of which they are.
--     AreLoggable           each change can be written to a log
--     AreSoundStores        each store that there is meets what each store meets
use Rattle.std.specs.Prelude.{◌≡◌, List, Option, Some}
use Rattle.std.specs.List.{AllByRecursion}
use Rattle.std.specs.FinMap as finite
use Rattle.object_stores.specs.Store.{Store}
use Rattle.object_stores.specs.IsStore.{IsStore}
use Rattle.idb_calls.specs.Deltas.{DeltaTree}
use Rattle.item_changes.specs.Items.{Name, Database, stores_in}
use Rattle.record_bytes.specs.Loggable.{HasLoggableParts}

abbrev pub AreLoggable : List DeltaTree → Type 0
AreLoggable changes = AllByRecursion HasLoggableParts changes

-- none where there is no database
abbrev pub AreSoundStores : Option Database → Type 0
AreSoundStores there = (name : Name) (x : Store) → finite.get (stores_in there) name ≡ Some x → IsStore x
