-- The database of a running transaction (Indexed Database API 3.0, "transaction").
--     LiveData              the database as it was when the transaction began, and as it is now
--     database_at           the database of a version and these stores; none without a version
--     CanStoreHere          the store takes the value, with the key that is given or without one
--     done_here             what a request comes to that asks for the store of a name
--     HasDone               what a call left is what the request came to
--     finds_in, with_delta           the database now has what a change needs;  and the change made
use Rattle.std.specs.Prelude.{◌≡◌, ℕ, Bool, List, [], ◌++◌, Option, Some, None, ⊤}
use Rattle.clone_values.specs.Tree.{Tree, undefined}
use Rattle.clone_values.specs.KeyTree.{KeyTree}
use Rattle.idb_calls.specs.Deltas.{DeltaTree}
use Rattle.object_stores.specs.Store.{Store}
use Rattle.object_stores.specs.Storing.{CanStore}
use Rattle.item_changes.specs.Items.{Name, Database}
use Rattle.item_changes.specs.Effects.{effect_of, finds, made}
use Rattle.idb_databases.specs.Stores.{Stores}
use Rattle.store_requests.specs.Runs.{Ran}
use Rattle.list_machine.specs.Requests.{StoreHere, store_under}
use Rattle.list_machine.specs.Entries.{Done, done_on}

-- none where it doesn't exist
pub record LiveData : Type 0 where
  pub before : Option Database
  pub database : Option Database

abbrev pub database_at : Option ℕ → Stores → Option Database
database_at None stores = None
database_at (Some version) stores = Some (record { version = version; stores = stores })

-- as it begins
abbrev pub live_from : Option Database → LiveData
live_from database = record { before = database; database = database }

-- ---- requests
abbrev pub CanStoreHere : Option StoreHere → Tree → Option KeyTree → Type 0
CanStoreHere None value key = ⊤
CanStoreHere (Some here) value key = CanStore here.store.info.path here.store.info.auto value key

-- where there is no such store nothing is done, and Undefined answered
abbrev pub done_there : Option Database → (Store → Ran) → Option StoreHere → Done
done_there database run None = record { answer = Some undefined; database = database; changes = [] }
done_there database run (Some here) = done_on here (run here.store)

abbrev pub done_here : LiveData → Name → (Store → Ran) → Done
done_here live name run = done_there live.database run (store_under live.database name)

-- the answer, the database now, and the changes noted before and after; the database before is the same
pub record HasDone (done : Done) (answer : Option Tree) (old new : LiveData) (noted_before noted_after : List DeltaTree) : Type 0 where
  pub answered : answer ≡ done.answer
  pub left : new ≡ record old { database = done.database }
  pub noted : noted_after ≡ noted_before ++ done.changes

-- ---- calls of an upgrade
abbrev pub finds_in : LiveData → DeltaTree → Bool
finds_in live delta = finds (effect_of delta) live.database

abbrev pub with_delta : LiveData → DeltaTree → LiveData
with_delta live delta = record live { database = made (effect_of delta) live.database }
