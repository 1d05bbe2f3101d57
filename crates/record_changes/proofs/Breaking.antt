-- Changes after which a unique index has two rows of one key.
--     breaks_itself         the store that the change is on has it: no other does
--     never_breaks          a change that cannot break one
use Rattle.std.proofs.Common.{◌≡◌, ℕ, zero, suc, Bool, true, false, ◌&&◌, ◌||◌, cond, List, [], ◌∷◌, ◌++◌, Option, Some, None, is_some, is_none, IfSome, refl, sym, ap, ◌∙◌}
use Rattle.std.proofs.lemmas.Option.{same_Some}
use Rattle.std.specs.List.{list_any, remove}
use Rattle.std.specs.FinMap as finite
use Rattle.idb_schema.specs.declared.definitions.IndexInfo.{IndexInfo}
use Rattle.idb_schema.specs.Definitions.{index_named}
use Rattle.index_tables.specs.RecordRows.{Records, index_rows}
use Rattle.index_tables.specs.Rows.{rows_of}
use Rattle.index_tables.specs.Unique.{first_repeated, broken_key, is_broken}
use Rattle.index_tables.proofs.Laws.{nothing_breaks, removal_keeps}
use Rattle.object_stores.specs.Store.{Store}
use Rattle.object_stores.specs.Changed.{store_with_record, store_without_record, cleared, with_current, store_with_index}
use Rattle.idb_calls.specs.Deltas.{DeltaTree, Version, DropDatabase, CreateStore, DropStore, CreateIndex, DropIndex, Put, Remove, Clear, Current}
use Rattle.item_changes.specs.Items.{Name, is_same_name, Database, Items, changed_at, store_at}
use Rattle.item_changes.specs.Effects.{OnStore, made, if_there, gone, is_store_with, has_record, has_generator, has_index_named, lacks_index_named, store_without_index_if, store_without_index_named, new_store, new_index}
use Rattle.store_changes.specs.Making.{breaks}
use Rattle.idb_databases.specs.Items.{AreItems}
use Rattle.database_changes.specs.StoreChanges.{BreaksOne}
use Rattle.record_changes.specs.Loosened.{has_unique, CannotBreak}
use Rattle.record_changes.proofs.Maps.{itself, store_in}
use Rattle.record_changes.proofs.Meant.{made_in, store_here, store_elsewhere, both_same}
use Rattle.record_changes.proofs.EachKind.{stores_stay, stores_dropped}
use Rattle.record_changes.proofs.Unbroken.{standing}

-- databases as they should be
whole_at : (items : Items) (db name : Name) (o : Option Store) → AreItems items → store_at items db name ≡ o → breaks o ≡ false
whole_at items db name None sound e = refl
whole_at items db name (Some x) sound e = (standing items db name x sound e).1.content.unique

pub whole : (items : Items) (db name : Name) → AreItems items → breaks (store_at items db name) ≡ false
whole items db name sound = whole_at items db name (store_at items db name) sound refl

module _ (items : Items) (db name : Name) (test : Option Store → Bool) (make : Option Store → Option Store) (sound : AreItems items) where
  -- another store of the database is as it was
  pub breaks_itself : (other : Name) → breaks (store_at (changed_at items db (made (OnStore name test make))) db other) ≡ true → breaks (made_in name make (finite.get items db)) ≡ true
  breaks_itself other broken =
      elim (is_same_name db db && is_same_name other name) as (λ b. (is_same_name db db && is_same_name other name) ≡ b → breaks (made_in name make (finite.get items db)) ≡ true) [
        | true ↦ λ t. let same = both_same db db other name t in
            ap breaks (sym (store_here items db name test make) ∙ ap (store_at (changed_at items db (made (OnStore name test make))) db) (sym same.1)) ∙ broken
        | false ↦ λ t. let no : false ≡ true = sym (whole items db other sound) ∙ ap breaks (sym (store_elsewhere items db name test make db other t)) ∙ broken in absurd cc
      ] refl

-- what is made of a store that stands there
module _ (items : Items) (db name : Name) (make : Option Store → Option Store) (sound : AreItems items) where
  made_whole_in : (there : Option Database) → finite.get items db ≡ there → breaks (make None) ≡ false → ((x : Store) → store_at items db name ≡ Some x → breaks (make (Some x)) ≡ false) → breaks (made_in name make there) ≡ false
  made_whole_in None at none each = refl
  made_whole_in (Some d) at none each =
      elim (finite.get d.stores name) as (λ o. finite.get d.stores name ≡ o → breaks (make o) ≡ false) [
        | None ↦ λ e. none
        | Some x ↦ λ e. each x (ap (store_in name) at ∙ e)
      ] refl

  pub keeps_whole : (test : Option Store → Bool) → breaks (make None) ≡ false → ((x : Store) → store_at items db name ≡ Some x → breaks (make (Some x)) ≡ false) → (other : Name) → breaks (store_at (changed_at items db (made (OnStore name test make))) db other) ≡ true → ⊥
  keeps_whole test none each other broken =
      let no : false ≡ true = sym (made_whole_in (finite.get items db) refl none each) ∙ breaks_itself items db name test make sound other broken in absurd cc

-- ---- lists of indexes
or_parts : (a b : Bool) → (a || b) ≡ false → (a ≡ false) × (b ≡ false)
or_parts true b e = cc
or_parts false b e = (refl, e)

none_unique : (indexes : List IndexInfo) (records : Records) → list_any (λ index. index.unique) indexes ≡ false → is_broken indexes records ≡ false
none_unique [] records e = refl
none_unique (index ∷ indexes) records e =
    let parts = or_parts index.unique (list_any (λ i. i.unique) indexes) e in
    ap (λ b. is_some (cond b (first_repeated (rows_of (index_rows index records))) None) || is_broken indexes records) parts.0 ∙ none_unique indexes records parts.1

one_less : (indexes : List IndexInfo) (records : Records) (place : ℕ) → is_broken indexes records ≡ false → is_broken (remove indexes place) records ≡ false
one_less [] records zero e = refl
one_less [] records (suc place) e = refl
one_less (index ∷ indexes) records zero e = (or_parts (is_some (broken_key index records)) (is_broken indexes records) e).1
one_less (index ∷ indexes) records (suc place) e =
    let parts = or_parts (is_some (broken_key index records)) (is_broken indexes records) e in
    ap (λ b. b || is_broken (remove indexes place) records) parts.0 ∙ one_less indexes records place parts.1

dropped_if : (x : Store) (place : Option ℕ) → is_broken x.info.indexes x.records ≡ false → breaks (Some (store_without_index_if x place)) ≡ false
dropped_if x None e = e
dropped_if x (Some place) e = one_less x.info.indexes x.records place e

-- ---- each change
still : (items : Items) (db name : Name) (x : Store) → AreItems items → store_at items db name ≡ Some x → is_broken x.info.indexes x.records ≡ false
still items db name x sound e = (standing items db name x sound e).1.content.unique

unique_of : (o : Option Store) (x : Store) → o ≡ Some x → has_unique o ≡ false → list_any (λ index. index.unique) x.info.indexes ≡ false
unique_of None x e none = cc
unique_of (Some y) x e none = ap (λ (s : Store). list_any (λ index. index.unique) s.info.indexes) (sym (same_Some y x e)) ∙ none

blank_of : (o : Option Store) (x : Store) → o ≡ Some x → IfSome o (λ s. s.records ≡ finite.empty) → x.records ≡ finite.empty
blank_of None x e blank = cc
blank_of (Some y) x e blank = ap (λ (s : Store). s.records) (sym (same_Some y x e)) ∙ blank

gone_in : (b : Bool) (o : Option Store) → b ≡ true → breaks (cond b None o) ≡ false
gone_in true o e = refl
gone_in false o e = cc

pub never_breaks : (delta : DeltaTree) (items : Items) → AreItems items → CannotBreak items delta → BreaksOne items delta → ⊥
never_breaks (Version db version) items sound safe b =
    let no : false ≡ true = sym (whole items db b.name sound) ∙ ap breaks (sym (stores_stay items db version db b.name)) ∙ b.broken in absurd cc
never_breaks (DropDatabase db) items sound safe b =
    let no : false ≡ true = sym (gone_in (is_same_name db db) (store_at items db b.name) (itself db)) ∙ ap breaks (sym (stores_dropped items db db b.name)) ∙ b.broken in absurd cc
never_breaks (CreateStore db store path auto) items sound safe b = keeps_whole items db store (λ _. Some (new_store store path auto)) sound is_none refl (λ x e. refl) b.name b.broken
never_breaks (DropStore db store) items sound safe b = keeps_whole items db store gone sound is_some refl (λ x e. refl) b.name b.broken
never_breaks (CreateIndex db store index path unique multi) items sound safe b =
    keeps_whole items db store (if_there (λ x. store_with_index x (new_index index path unique multi))) sound (is_store_with (lacks_index_named index)) refl
    (λ x e. ap (is_broken (x.info.indexes ++ new_index index path unique multi ∷ [])) (blank_of (store_at items db store) x e safe) ∙ nothing_breaks (x.info.indexes ++ new_index index path unique multi ∷ [])) b.name b.broken
never_breaks (DropIndex db store index) items sound safe b =
    keeps_whole items db store (if_there (store_without_index_named index)) sound (is_store_with (has_index_named index)) refl
    (λ x e. dropped_if x (index_named x.info.indexes index) (still items db store x sound e)) b.name b.broken
never_breaks (Put db store key value) items sound safe b =
    keeps_whole items db store (if_there (λ x. store_with_record x key value)) sound is_some refl
    (λ x e. none_unique x.info.indexes (finite.insert x.records key value) (unique_of (store_at items db store) x e safe)) b.name b.broken
never_breaks (Remove db store key) items sound safe b =
    keeps_whole items db store (if_there (λ x. store_without_record x key)) sound (is_store_with (has_record key)) refl
    (λ x e. removal_keeps x.records key x.info.indexes (still items db store x sound e)) b.name b.broken
never_breaks (Clear db store) items sound safe b =
    keeps_whole items db store (if_there cleared) sound is_some refl (λ x e. nothing_breaks x.info.indexes) b.name b.broken
never_breaks (Current db store current) items sound safe b =
    keeps_whole items db store (if_there (λ x. with_current x current)) sound (is_store_with has_generator) refl (λ x e. still items db store x sound e) b.name b.broken
