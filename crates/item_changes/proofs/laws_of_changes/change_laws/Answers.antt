use Rattle.std.proofs.Common.{Option, Some, is_some, is_none, ◌∙◌, ap}
use Rattle.std.specs.FinMap as finite
use Rattle.object_stores.specs.Store.{Store}
use Rattle.idb_schema.specs.Definitions.{index_named}
use Rattle.object_stores.specs.Changed.{store_with_record, store_without_record, cleared, with_current, store_with_index}
use Rattle.item_changes.specs.Items.{store_at}
use Rattle.item_changes.specs.Effects.{is_store_with, has_generator, has_record, has_index_named, lacks_index_named, at_version, gone, if_there, new_store, new_index, store_without_index_if, store_without_index_named}
use Rattle.item_changes.proofs.ChangeLemmas.{some_there, none_there, store_there, raised, at_its_version, database_after, other_database, test_passes, store_after, other_store, kept_version}
use Rattle.item_changes.proofs.laws_of_changes.change_laws.Goals as goal

pub returns-clause-version : goal.returns-clause-version
returns-clause-version c items db version h = (raised version (finite.get items db) h, database_after items db (at_version version) ∙ at_its_version version (finite.get items db))

pub returns-clause-drop_database : goal.returns-clause-drop_database
returns-clause-drop_database c items db h = let d = some_there (finite.get items db) h in (d.0, d.1, database_after items db gone)

pub returns-clause-create_store : goal.returns-clause-create_store
returns-clause-create_store c items db store path auto h =
    let make : Option Store → Option Store = λ there. Some (new_store store path auto) in
    record { before = none_there (store_at items db store) (test_passes store is_none make items db h); after = store_after store is_none make items db h }

pub returns-clause-drop_store : goal.returns-clause-drop_store
returns-clause-drop_store c items db store h =
    let x = some_there (store_at items db store) (test_passes store is_some gone items db h) in
    (x.0, record { before = x.1; after = store_after store is_some gone items db h })

pub returns-clause-create_index : goal.returns-clause-create_index
returns-clause-create_index c items db store index path unique multi h =
    let make = if_there (λ y. store_with_index y (new_index index path unique multi)) in
    let x = store_there (lacks_index_named index) (store_at items db store) (test_passes store (is_store_with (lacks_index_named index)) make items db h) in
    (x.0, none_there (index_named x.0.info.indexes index) x.2, record { before = x.1; after = store_after store (is_store_with (lacks_index_named index)) make items db h ∙ ap make x.1 })

pub returns-clause-drop_index : goal.returns-clause-drop_index
returns-clause-drop_index c items db store index h =
    let make = if_there (store_without_index_named index) in
    let x = store_there (has_index_named index) (store_at items db store) (test_passes store (is_store_with (has_index_named index)) make items db h) in
    let place = some_there (index_named x.0.info.indexes index) x.2 in
    (x.0, place.0, place.1, record { before = x.1; after = store_after store (is_store_with (has_index_named index)) make items db h ∙ ap make x.1 ∙ ap (λ p. Some (store_without_index_if x.0 p)) place.1 })

pub returns-clause-put : goal.returns-clause-put
returns-clause-put c items db store key value h =
    let make = if_there (λ y. store_with_record y key value) in
    let x = some_there (store_at items db store) (test_passes store is_some make items db h) in
    (x.0, record { before = x.1; after = store_after store is_some make items db h ∙ ap make x.1 })

pub returns-clause-remove : goal.returns-clause-remove
returns-clause-remove c items db store key h =
    let make = if_there (λ y. store_without_record y key) in
    let x = store_there (has_record key) (store_at items db store) (test_passes store (is_store_with (has_record key)) make items db h) in
    let value = some_there (finite.get x.0.records key) x.2 in
    (x.0, value.0, value.1, record { before = x.1; after = store_after store (is_store_with (has_record key)) make items db h ∙ ap make x.1 })

pub returns-clause-clear : goal.returns-clause-clear
returns-clause-clear c items db store h =
    let x = some_there (store_at items db store) (test_passes store is_some (if_there cleared) items db h) in
    (x.0, record { before = x.1; after = store_after store is_some (if_there cleared) items db h ∙ ap (if_there cleared) x.1 })

pub returns-clause-current : goal.returns-clause-current
returns-clause-current c items db store current h =
    let make = if_there (λ y. with_current y current) in
    let x = store_there has_generator (store_at items db store) (test_passes store (is_store_with has_generator) make items db h) in
    (x.0, x.2, record { before = x.1; after = store_after store (is_store_with has_generator) make items db h ∙ ap make x.1 })

pub returns-clause-other_databases : goal.returns-clause-other_databases
returns-clause-other_databases c = other_database

pub returns-clause-other_stores : goal.returns-clause-other_stores
returns-clause-other_stores c items delta db store other test make is apart = other_store store test make items delta db other is apart

pub returns-clause-same_version : goal.returns-clause-same_version
returns-clause-same_version c items delta db store test make is = kept_version store test make items delta db is
