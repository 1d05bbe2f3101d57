use Rattle.std.proofs.Common.{Option, Some, is_some, is_none, refl, ◌∙◌, ap}
use Rattle.std.specs.FinMap as finite
use Rattle.object_stores.specs.Store.{Store}
use Rattle.object_stores.specs.Changed.{store_with_record, store_without_record, cleared, with_current, store_with_index}
use Rattle.item_changes.specs.Effects.{OnStore, finds, is_store_with, has_generator, has_record, has_index_named, lacks_index_named, gone, if_there, new_store, new_index, store_without_index_named}
use Rattle.item_changes.proofs.ChangeLemmas.{is_raised, tested_in}
use Rattle.item_changes.proofs.laws_of_changes.condition_laws.Goals as goal

pub returns-clause-version : goal.returns-clause-version
returns-clause-version c items db version less = is_raised version (finite.get items db) less

pub returns-clause-drop_database : goal.returns-clause-drop_database
returns-clause-drop_database c items db d e = ap is_some e

pub returns-clause-create_store : goal.returns-clause-create_store
returns-clause-create_store c items db store path auto d e none =
    let make : Option Store → Option Store = λ there. Some (new_store store path auto) in
    ap (finds (OnStore store is_none make)) e ∙ ap is_none none

pub returns-clause-drop_store : goal.returns-clause-drop_store
returns-clause-drop_store c items db store x e = tested_in store is_some gone (finite.get items db) x e refl

pub returns-clause-create_index : goal.returns-clause-create_index
returns-clause-create_index c items db store index path unique multi x e none =
    tested_in store (is_store_with (lacks_index_named index)) (if_there (λ y. store_with_index y (new_index index path unique multi))) (finite.get items db) x e (ap is_none none)

pub returns-clause-drop_index : goal.returns-clause-drop_index
returns-clause-drop_index c items db store index x place e at =
    tested_in store (is_store_with (has_index_named index)) (if_there (store_without_index_named index)) (finite.get items db) x e (ap is_some at)

pub returns-clause-put : goal.returns-clause-put
returns-clause-put c items db store key value x e = tested_in store is_some (if_there (λ y. store_with_record y key value)) (finite.get items db) x e refl

pub returns-clause-remove : goal.returns-clause-remove
returns-clause-remove c items db store key value x e at =
    tested_in store (is_store_with (has_record key)) (if_there (λ y. store_without_record y key)) (finite.get items db) x e (ap is_some at)

pub returns-clause-clear : goal.returns-clause-clear
returns-clause-clear c items db store x e = tested_in store is_some (if_there cleared) (finite.get items db) x e refl

pub returns-clause-current : goal.returns-clause-current
returns-clause-current c items db store current x e auto =
    tested_in store (is_store_with has_generator) (if_there (λ y. with_current y current)) (finite.get items db) x e auto
