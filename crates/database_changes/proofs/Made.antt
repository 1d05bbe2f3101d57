-- What the parts that were taken out and changed make of the whole.
use Rattle.std.proofs.Common.{◌≡◌, ℕ, Result, Ok, Err, OnOk, OnErr, IsErrOf, Bool, true, false, List, [], Option, Some, None, option_and_then, is_some, is_none, refl, sym, ap, subst, ◌∙◌}
use Rattle.std.specs.FinMap as finite
use Rattle.std.proofs.lemmas.Option.{same_Some}
use Rattle.clone_values.specs.declared.path_types.PathSpec.{PathSpec}
use Rattle.idb_schema.specs.declared.definitions.StoreInfo.{StoreInfo}
use Rattle.idb_schema.specs.declared.definitions.IndexInfo.{IndexInfo}
use Rattle.idb_schema.specs.Definitions.{index_named}
use Rattle.object_stores.specs.Store.{Store}
use Rattle.idb_calls.specs.Deltas.{DeltaTree, Version, DropDatabase, CreateStore, DropStore, CreateIndex, DropIndex, Put, Remove, Clear, Current}
use Rattle.item_changes.specs.Items.{Name, Database, Items, stood_at, changed_at, store_at}
use Rattle.item_changes.specs.Effects.{Effect, OnDatabase, OnStore, effect_of, finds, made, applied, applies, store_without_index_if}
use Rattle.item_changes.proofs.Laws.{names_total, one_name, changed_here}
use Rattle.store_changes.specs.declared.error.ChangeError.{ChangeError}
use Rattle.store_changes.specs.Making.{CanMake, is_found_in, left_of, breaks}
use Rattle.idb_databases.specs.Stores.{Stores}
use Rattle.database_changes.specs.StoreChanges.{CanApply, is_on_content, IsOf, HasNames, stores_find, stores_made, store_made, database_with, BreaksOne}
use Rattle.database_changes.proofs.Back.{put_over, put_back, was_absent}

-- ---- what follows from an answer
pub on_err_of : {A E P : Type 0} (r : Result A E) (e : E) → IsErrOf r e → OnErr r P → P
on_err_of (Ok a) e h p = absurd cc
on_err_of (Err e') e h p = p

-- ---- in the stores of a database
stores_by : (effect : Effect) (stores : Stores) (name : Name) (old new : Store) → IsOf name effect → finite.get stores name ≡ Some old → left_of effect old ≡ Some new
    → finite.insert (finite.remove stores name) name new ≡ stores_made effect stores
stores_by (OnDatabase test make) stores name old new of there left = absurd of
stores_by (OnStore store test make) stores name old new of there left =
    subst (λ n. finite.insert (finite.remove stores name) name new ≡ changed_at stores n make) (sym of)
    (put_over stores name new ∙ ap (stood_at stores name) (sym (ap make there ∙ left)))

pub stores_are : (delta : DeltaTree) (stores : Stores) (name : Name) (old new : Store) → IsOf name (effect_of delta) → finite.get stores name ≡ Some old → left_of (effect_of delta) old ≡ Some new
    → finite.insert (finite.remove stores name) name new ≡ stores_made (effect_of delta) stores
stores_are delta stores name old new = stores_by (effect_of delta) stores name old new

without_if : (store : Store) (place : Option ℕ) → (store_without_index_if store place).info.name ≡ store.info.name
without_if store None = refl
without_if store (Some place) = refl

pub name_stays : (delta : DeltaTree) (old new : Store) → CanMake delta → left_of (effect_of delta) old ≡ Some new → new.info.name ≡ old.info.name
name_stays (Version db version) old new can left = absurd can
name_stays (DropDatabase db) old new can left = absurd can
name_stays (CreateStore db store path auto) old new can left = absurd can
name_stays (DropStore db store) old new can left = absurd can
name_stays (CreateIndex db store index path unique multi) old new can left = ap (λ (s : Store). s.info.name) (sym (same_Some _ _ left))
name_stays (DropIndex db store index) old new can left = ap (λ (s : Store). s.info.name) (sym (same_Some _ _ left)) ∙ without_if old (index_named old.info.indexes index)
name_stays (Put db store key value) old new can left = ap (λ (s : Store). s.info.name) (sym (same_Some _ _ left))
name_stays (Remove db store key) old new can left = ap (λ (s : Store). s.info.name) (sym (same_Some _ _ left))
name_stays (Clear db store) old new can left = ap (λ (s : Store). s.info.name) (sym (same_Some _ _ left))
name_stays (Current db store current) old new can left = ap (λ (s : Store). s.info.name) (sym (same_Some _ _ left))

-- the name after a change that was made, or was not
pub name_kept : (said : Result Unit ChangeError) (delta : DeltaTree) (old new : Store) → CanMake delta → OnOk said (left_of (effect_of delta) old ≡ Some new) → OnErr said (new ≡ old) → new.info.name ≡ old.info.name
name_kept (Ok u) delta old new can left same = name_stays delta old new can left
name_kept (Err e) delta old new can left same = ap (λ (s : Store). s.info.name) same

-- ---- in the databases

items_by : (effect : Effect) (items : Items) (db name : Name) (version : ℕ) (old new : Stores) → IsOf name effect → finite.get items db ≡ Some (database_with version old) → new ≡ stores_made effect old
    → finite.insert (finite.remove items db) db (database_with version new) ≡ changed_at items db (made effect)
items_by (OnDatabase test make) items db name version old new of there e = absurd of
items_by (OnStore store test make) items db name version old new of there e =
    put_over items db (database_with version new) ∙ ap (λ s. finite.insert items db (database_with version s)) e
    ∙ ap (stood_at items db) (sym (ap (made (OnStore store test make)) there))

pub items_are : (delta : DeltaTree) (items : Items) (db name : Name) (version : ℕ) (old new : Stores) → HasNames db name delta → finite.get items db ≡ Some (database_with version old) → new ≡ stores_made (effect_of delta) old
    → finite.insert (finite.remove items db) db (database_with version new) ≡ applied items delta
items_are delta items db name version old new names there e =
    items_by (effect_of delta) items db name version old new names.on_store there e
    ∙ ap (λ n. changed_at items n (made (effect_of delta))) (sym names.in_database)

there_by : (effect : Effect) (items : Items) (db name : Name) (version : ℕ) (old : Stores) → IsOf name effect → finite.get items db ≡ Some (database_with version old)
    → store_at (changed_at items db (made effect)) db name ≡ store_made effect old
there_by (OnDatabase test make) items db name version old of there = absurd of
there_by (OnStore store test make) items db name version old of there =
    let here : finite.get (changed_at items db (made (OnStore store test make))) db ≡ Some (database_with version (changed_at old store make)) = changed_here names_total one_name items db (made (OnStore store test make)) ∙ ap (made (OnStore store test make)) there in
    ap (λ o. option_and_then (λ (d : Database). finite.get d.stores name) o) here
    ∙ subst (λ n. finite.get (changed_at old store make) n ≡ make (finite.get old store)) of (changed_here names_total one_name old store make)

pub breaks_there : (delta : DeltaTree) (items : Items) (db name : Name) (version : ℕ) (old : Stores) → HasNames db name delta → finite.get items db ≡ Some (database_with version old)
    → breaks (store_made (effect_of delta) old) ≡ true → BreaksOne items delta
breaks_there delta items db name version old names there broken = record {
  name = name;
  broken =
      ap (λ n. breaks (store_at (changed_at items n (made (effect_of delta))) n name)) names.in_database
      ∙ ap breaks (there_by (effect_of delta) items db name version old names.on_store there) ∙ broken;
}

-- ---- versions and stores that come and go
pub version_set : (items : Items) (db : Name) (old version : ℕ) (stores : Stores) → finite.get items db ≡ Some (database_with old stores)
    → finite.insert (finite.remove items db) db (database_with version stores) ≡ applied items (Version db version)
version_set items db old version stores there = put_over items db (database_with version stores) ∙ ap (stood_at items db) (sym (ap (made (effect_of (Version db version))) there))

pub version_new : (items : Items) (db : Name) (version : ℕ) → finite.get items db ≡ None
    → finite.insert items db (database_with version finite.empty) ≡ applied items (Version db version)
version_new items db version none = ap (stood_at items db) (sym (ap (made (effect_of (Version db version))) none))

pub store_new : (items : Items) (db : Name) (version : ℕ) (stores : Stores) (info : StoreInfo) → finite.get items db ≡ Some (database_with version stores) → info.indexes ≡ []
    → finite.insert (finite.remove items db) db (database_with version (finite.insert stores info.name (record { info = info; records = finite.empty; current = 1 })))
    ≡ applied items (CreateStore db info.name info.path info.auto)
store_new items db version stores info there without =
    put_over items db _
    ∙ ap (λ (is : List IndexInfo). finite.insert items db (database_with version (finite.insert stores info.name (record { info = record info { indexes = is }; records = finite.empty; current = 1 })))) without
    ∙ ap (stood_at items db) (sym (ap (made (effect_of (CreateStore db info.name info.path info.auto))) there))

pub store_gone : (items : Items) (db : Name) (version : ℕ) (stores : Stores) (store : Name) → finite.get items db ≡ Some (database_with version stores)
    → finite.insert (finite.remove items db) db (database_with version (finite.remove stores store)) ≡ applied items (DropStore db store)
store_gone items db version stores store there =
    put_over items db (database_with version (finite.remove stores store)) ∙ ap (stood_at items db) (sym (ap (made (effect_of (DropStore db store))) there))

-- ---- joined with what was taken out and put back
module _ (delta : DeltaTree) (stores taken new : Stores) (name : Name) (old put : Store) (of : IsOf name (effect_of delta)) (there : finite.get stores name ≡ Some old) (left : taken ≡ finite.remove stores name) (is : new ≡ finite.insert taken name put) where
  pub made_in : (mid : Store) → left_of (effect_of delta) old ≡ Some mid → put ≡ mid → new ≡ stores_made (effect_of delta) stores
  made_in mid e same =
      is ∙ ap (λ m. finite.insert m name put) left ∙ ap (finite.insert (finite.remove stores name) name) same ∙ stores_are delta stores name old mid of there e

  pub same_in : put ≡ old → new ≡ stores
  same_in same = is ∙ ap (λ m. finite.insert m name put) left ∙ ap (finite.insert (finite.remove stores name) name) same ∙ put_back stores name old there

found_by : (effect : Effect) (stores : Stores) (name : Name) (old : Store) → IsOf name effect → finite.get stores name ≡ Some old → stores_find effect stores ≡ is_found_in effect old
found_by (OnDatabase test make) stores name old of there = absurd of
found_by (OnStore store test make) stores name old of there = ap (λ n. test (finite.get stores n)) of ∙ ap test there

pub found_in : (delta : DeltaTree) (stores : Stores) (name : Name) (old : Store) → IsOf name (effect_of delta) → finite.get stores name ≡ Some old → stores_find (effect_of delta) stores ≡ is_found_in (effect_of delta) old
found_in delta = found_by (effect_of delta)

left_by : (effect : Effect) (stores : Stores) (name : Name) (old : Store) → IsOf name effect → finite.get stores name ≡ Some old → store_made effect stores ≡ left_of effect old
left_by (OnDatabase test make) stores name old of there = absurd of
left_by (OnStore store test make) stores name old of there = ap (λ n. make (finite.get stores n)) of ∙ ap make there

pub left_in : (delta : DeltaTree) (stores : Stores) (name : Name) (old : Store) → IsOf name (effect_of delta) → finite.get stores name ≡ Some old → store_made (effect_of delta) stores ≡ left_of (effect_of delta) old
left_in delta = left_by (effect_of delta)

module _ (items taken new : Items) (db : Name) (version : ℕ) (old put : Stores) (there : finite.get items db ≡ Some (database_with version old)) (left : taken ≡ finite.remove items db) (is : new ≡ finite.insert taken db (database_with version put)) where
  over : new ≡ finite.insert (finite.remove items db) db (database_with version put)
  over = is ∙ ap (λ m. finite.insert m db (database_with version put)) left

  pub same_all : put ≡ old → new ≡ items
  same_all same = over ∙ ap (λ s. finite.insert (finite.remove items db) db (database_with version s)) same ∙ put_back items db (database_with version old) there

  pub made_all_of : (delta : DeltaTree) (name : Name) → HasNames db name delta → put ≡ stores_made (effect_of delta) old → new ≡ applied items delta
  made_all_of delta name names e = over ∙ items_are delta items db name version old put names there e

  pub created : (info : StoreInfo) → info.indexes ≡ [] → put ≡ finite.insert old info.name (record { info = info; records = finite.empty; current = 1 }) → new ≡ applied items (CreateStore db info.name info.path info.auto)
  created info without e = over ∙ ap (λ s. finite.insert (finite.remove items db) db (database_with version s)) e ∙ store_new items db version old info there without

  pub dropped : (store : Name) → put ≡ finite.remove old store → new ≡ applied items (DropStore db store)
  dropped store e = over ∙ ap (λ s. finite.insert (finite.remove items db) db (database_with version s)) e ∙ store_gone items db version old store there

none_is : (o : Option Store) → is_some o ≡ true → is_none o ≡ false
none_is (Some s) h = refl
none_is None h = absurd cc

some_not : (o : Option Store) → is_some o ≡ false → is_none o ≡ true
some_not (Some s) h = absurd cc
some_not None h = refl

none_of : (o : Option Store) → is_some o ≡ false → o ≡ None
none_of (Some s) h = absurd cc
none_of None h = refl

module _ (items : Items) (db : Name) (version : ℕ) (old : Stores) (store : Name) (there : finite.get items db ≡ Some (database_with version old)) where
  pub taken_name : (path : Option PathSpec) (auto : Bool) → is_some (finite.get old store) ≡ true → applies items (CreateStore db store path auto) ≡ false
  taken_name path auto h = ap (finds (effect_of (CreateStore db store path auto))) there ∙ none_is (finite.get old store) h

  pub free_name : (path : Option PathSpec) (auto : Bool) → is_some (finite.get old store) ≡ false → applies items (CreateStore db store path auto) ≡ true
  free_name path auto h = ap (finds (effect_of (CreateStore db store path auto))) there ∙ some_not (finite.get old store) h

  pub drop_finds : (b : Bool) → is_some (finite.get old store) ≡ b → applies items (DropStore db store) ≡ b
  drop_finds b h = ap (finds (effect_of (DropStore db store))) there ∙ h

  pub still_same : (put : Stores) → put ≡ finite.remove old store → is_some (finite.get old store) ≡ false → put ≡ old
  still_same put e h = e ∙ was_absent old store (none_of (finite.get old store) h)
