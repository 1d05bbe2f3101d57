-- Changes of what is kept aside.
--     kept_made, kept_found         a change of the indexes of a loosened store
--     created_made                  a new store, of whose name nothing is kept aside any more
--     forgets               a store that goes, if it is there
--     blank_made, blank_forgotten, blank_also       what is kept aside has no records
--     put_too               a store that is put aside
--     bare_unique, bare_there       a store without indexes
--     overridden, kept_too          a store that is loosened: its own indexes don't count, and those that are kept are its own
use Rattle.std.proofs.Common.{◌≡◌, ℕ, if◌then◌else◌, Bool, true, false, ◌&&◌, cond, List, [], Option, Some, None, option_map, is_some, is_none, refl, sym, ap, subst, ◌∙◌}
use Rattle.std.proofs.lemmas.Option.{same_Some}
use Rattle.std.specs.FinMap as finite
use Rattle.clone_values.specs.declared.path_types.PathSpec.{PathSpec}
use Rattle.idb_schema.specs.declared.definitions.IndexInfo.{IndexInfo}
use Rattle.object_stores.specs.Store.{Store}
use Rattle.idb_calls.specs.Deltas.{CreateStore, DropStore}
use Rattle.item_changes.specs.Items.{Name, is_same_name, Database, Items, changed_at, store_at}
use Rattle.item_changes.specs.Effects.{OnStore, made, finds, if_there, gone, is_store_with, new_store, applied, applies}
use Rattle.item_changes.proofs.Laws.{names_total, same_name}
use Rattle.idb_databases.specs.Stores.{Stores}
use Rattle.record_changes.specs.Loosened.{with_indexes, with_kept, meant, HasNoRecords, with_indexes_at, IsAlso, IsForgotten, has_unique}
use Rattle.record_changes.proofs.Maps.{itself, version_in, store_in}
use Rattle.record_changes.proofs.Meant.{get_meant, store_of_meant, version_meant, made_in, made_in_meant, made_meant, same_meant, version_made, store_here, store_elsewhere, both_same}

-- what a change makes of a store that may be there
pub made_there : (name : Name) (f : Store → Store) (there : Option Database) → made_in name (if_there f) there ≡ option_map f (store_in name there)
made_there name f None = refl
made_there name f (Some d) = refl

-- ---- a change of the indexes of a loosened store
module _ (items aside : Items) (db name : Name) (kept : Store) (is : store_at aside db name ≡ Some kept) (f : Store → Store) (same : (x : Store) → with_kept (Some (f kept)) x ≡ f (with_kept (Some kept) x)) where
  either_way : (o : Option Store) → option_map (with_kept (Some (f kept))) o ≡ option_map f (option_map (with_kept (Some kept)) o)
  either_way None = refl
  either_way (Some x) = ap Some (same x)

  mapped_twice : (g h : Store → Store) (there : Option Database) → made_in name (λ o. option_map h (option_map g o)) there ≡ option_map h (option_map g (store_in name there))
  mapped_twice g h None = refl
  mapped_twice g h (Some d) = refl

  module _ (test : Option Store → Bool) where
    pub kept_made : meant items (changed_at aside db (made (OnStore name test (if_there f)))) ≡ changed_at (meant items aside) db (made (OnStore name test (if_there f)))
    kept_made = made_meant items aside items (changed_at aside db (made (OnStore name test (if_there f)))) (λ q. refl) db name test (if_there f)
        (ap (λ k. option_map (with_kept k) (store_at items db name)) (store_here aside db name test (if_there f) ∙ made_there name f (finite.get aside db) ∙ ap (option_map f) is)
        ∙ either_way (store_at items db name)
        ∙ ap (λ k. option_map f (option_map (with_kept k) (store_at items db name))) (sym is)
        ∙ sym (made_in_meant items aside db name (if_there f) ∙ mapped_twice (with_kept (store_at aside db name)) f (finite.get items db)))
        (λ q r apart. ap (λ k. option_map (with_kept k) (store_at items q r)) (store_elsewhere aside db name test (if_there f) q r apart))

  module _ (test : Store → Bool) (x : Store) (there : store_at items db name ≡ Some x) (alike : test (with_kept (Some kept) x) ≡ test kept) where
    tested_in : (o : Option Database) → finds (OnStore name (is_store_with test) (if_there f)) o ≡ is_store_with test (store_in name o)
    tested_in None = refl
    tested_in (Some d) = refl

    pub kept_found : finds (OnStore name (is_store_with test) (if_there f)) (finite.get (meant items aside) db) ≡ finds (OnStore name (is_store_with test) (if_there f)) (finite.get aside db)
    kept_found =
        tested_in (finite.get (meant items aside) db)
        ∙ ap (is_store_with test) (ap (store_in name) (get_meant items aside db) ∙ store_of_meant items aside db name (finite.get items db) ∙ ap (option_map (with_kept (store_at aside db name))) there)
        ∙ ap (λ k. is_store_with test (option_map (with_kept k) (Some x))) is
        ∙ alike
        ∙ sym (tested_in (finite.get aside db) ∙ ap (is_store_with test) is)

-- ---- a new store
module _ (items aside last : Items) (db name : Name) (forgotten : IsForgotten db name aside last) (path : Option PathSpec) (auto : Bool) where
  new_alone : (there beyond : Option Database) → (version_in there ≡ version_in beyond) → option_map (with_kept None) (made_in name (λ _. Some (new_store name path auto)) there) ≡ made_in name (λ _. Some (new_store name path auto)) beyond
  new_alone None None e = refl
  new_alone None (Some d) e = cc
  new_alone (Some d) None e = cc
  new_alone (Some d) (Some f) e = refl

  pub created_made : meant (applied items (CreateStore db name path auto)) last ≡ applied (meant items aside) (CreateStore db name path auto)
  created_made =
      made_meant items aside (applied items (CreateStore db name path auto)) last (version_made items db name is_none (λ _. Some (new_store name path auto))) db name is_none (λ _. Some (new_store name path auto))
      (ap (λ k. option_map (with_kept k) (store_at (applied items (CreateStore db name path auto)) db name)) forgotten.gone
      ∙ ap (option_map (with_kept None)) (store_here items db name is_none (λ _. Some (new_store name path auto)))
      ∙ new_alone (finite.get items db) (finite.get (meant items aside) db) (sym (version_meant items aside db)))
      (λ q r apart. ap (λ k. option_map (with_kept k) (store_at (applied items (CreateStore db name path auto)) q r)) (forgotten.others q r apart)
      ∙ ap (option_map (with_kept (store_at aside q r))) (store_elsewhere items db name is_none (λ _. Some (new_store name path auto)) q r apart))

gone_in : (name : Name) (there : Option Database) → made_in name gone there ≡ None
gone_in name None = refl
gone_in name (Some d) = refl

dropped_forgets : (aside : Items) (db name : Name) → IsForgotten db name aside (applied aside (DropStore db name))
dropped_forgets aside db name = record {
  gone = store_here aside db name is_some gone ∙ gone_in name (finite.get aside db);
  others = store_elsewhere aside db name is_some gone;
}

pub no_store : (o : Option Store) → is_some o ≡ false → o ≡ None
no_store None e = refl
no_store (Some x) e = cc

absent_in : (name : Name) (there : Option Database) → finds (OnStore name is_some gone) there ≡ false → store_in name there ≡ None
absent_in name None e = refl
absent_in name (Some d) e = no_store (finite.get d.stores name) e

absent_forgets : (aside : Items) (db name : Name) → applies aside (DropStore db name) ≡ false → IsForgotten db name aside aside
absent_forgets aside db name e = record {
  gone = absent_in name (finite.get aside db) e;
  others = λ q r apart. refl;
}

pub forgets : (aside last : Items) (db name its_db its_name : Name) (found : Bool) → its_db ≡ db → its_name ≡ name → found ≡ applies aside (DropStore its_db its_name) → (found ≡ true → last ≡ applied aside (DropStore its_db its_name)) → (found ≡ false → last ≡ aside)
    → IsForgotten db name aside last
forgets aside last db name its_db its_name true p q is made same =
    subst (IsForgotten db name aside) (sym (made refl ∙ λ i. applied aside (DropStore (p i) (q i)))) (dropped_forgets aside db name)
forgets aside last db name its_db its_name false p q is made same =
    subst (IsForgotten db name aside) (sym (same refl)) (absent_forgets aside db name (sym (is ∙ λ i. applies aside (DropStore (p i) (q i)))))

-- ---- without records
came_from : (f : Store → Store) → ((x : Store) → (f x).records ≡ x.records) → (o : Option Store) (x : Store) → ((y : Store) → o ≡ Some y → y.records ≡ finite.empty) → option_map f o ≡ Some x → x.records ≡ finite.empty
came_from f stay None x each e = cc
came_from f stay (Some y) x each e = ap (λ (s : Store). s.records) (sym (same_Some (f y) x e)) ∙ stay y ∙ each y refl

pub blank_made : (aside : Items) (db name : Name) (test : Option Store → Bool) (f : Store → Store) → ((x : Store) → (f x).records ≡ x.records) → HasNoRecords aside → HasNoRecords (changed_at aside db (made (OnStore name test (if_there f))))
blank_made aside db name test f stay blank q r x e =
    let last : Items = changed_at aside db (made (OnStore name test (if_there f))) in
    elim (is_same_name q db && is_same_name r name) as (λ b. (is_same_name q db && is_same_name r name) ≡ b → x.records ≡ finite.empty) [
      | true ↦ λ t. let same = both_same q db r name t in
          came_from f stay (store_at aside db name) x (blank db name)
          (sym (store_here aside db name test (if_there f) ∙ made_there name f (finite.get aside db)) ∙ sym ((λ i. store_at last (same.0 i) (same.1 i))) ∙ e)
      | false ↦ λ t. blank q r x (sym (store_elsewhere aside db name test (if_there f) q r t) ∙ e)
    ] refl

pub blank_forgotten : (aside last : Items) (db name : Name) → IsForgotten db name aside last → HasNoRecords aside → HasNoRecords last
blank_forgotten aside last db name forgotten blank q r x e =
    elim (is_same_name q db && is_same_name r name) as (λ b. (is_same_name q db && is_same_name r name) ≡ b → x.records ≡ finite.empty) [
      | true ↦ λ t. let same = both_same q db r name t in
          let none : None ≡ Some x = sym forgotten.gone ∙ sym ((λ i. store_at last (same.0 i) (same.1 i))) ∙ e in absurd cc
      | false ↦ λ t. blank q r x (sym (forgotten.others q r t) ∙ e)
    ] refl

also_here : (b : Bool) (kept x : Store) (o : Option Store) → cond b (Some kept) o ≡ Some x → kept.records ≡ finite.empty → (o ≡ Some x → x.records ≡ finite.empty) → x.records ≡ finite.empty
also_here true kept x o e blank other = ap (λ (s : Store). s.records) (sym (same_Some kept x e)) ∙ blank
also_here false kept x o e blank other = other e

pub blank_also : (aside last : Items) (db name : Name) (kept : Store) → IsAlso db name kept aside last → kept.records ≡ finite.empty → HasNoRecords aside → HasNoRecords last
blank_also aside last db name kept also none blank q r x e =
    also_here (is_same_name q db && is_same_name r name) kept x (store_at aside q r) (sym (also q r) ∙ e) none (blank q r x)

-- ---- a store that is put aside
put_there : (b : Bool) (old : Items) (db q r name : Name) (stores : Stores) (store : Store) (version : ℕ) → is_same_name q db ≡ b → ((n : Name) → finite.get stores n ≡ store_at old db n)
    → store_in r (cond b (Some (record { version = version; stores = finite.insert stores name store })) (cond b None (finite.get old q))) ≡ (if b && is_same_name r name then Some store else store_at old q r)
put_there true old db q r name stores store version e there =
    finite.get-insert names_total stores name store r ∙ ap (cond (is_same_name r name) (Some store)) (there r ∙ ap (λ (n : Name). store_at old n r) (sym (same_name q db e)))
put_there false old db q r name stores store version e there = refl

pub put_too : (old taken last : Items) (db n name : Name) (stores new : Stores) (store : Store) (version : ℕ) → ((r : Name) → finite.get stores r ≡ store_at old db r) → taken ≡ finite.remove old db
    → new ≡ finite.insert stores name store → last ≡ finite.insert taken n (record { version = version; stores = new }) → n ≡ db → IsAlso db name store old last
put_too old taken last db n name stores new store version there left put is named q r =
    let d : Database = record { version = version; stores = finite.insert stores name store } in
    ap (λ m. store_at m q r) (is ∙ (λ i. finite.insert (left i) (named i) (record { version = version; stores = put i })))
    ∙ ap (store_in r) (finite.get-insert names_total (finite.remove old db) db d q ∙ ap (cond (is_same_name q db) (Some d)) (finite.get-remove names_total old db q))
    ∙ put_there (is_same_name q db) old db q r name stores store version refl there

pub also_there : (aside last : Items) (db name : Name) (kept : Store) → IsAlso db name kept aside last → is_some (store_at last db name) ≡ true
also_there aside last db name kept also = ap is_some (also db name ∙ ap (λ b. if b && is_same_name name name then Some kept else store_at aside db name) (itself db) ∙ ap (λ b. if b then Some kept else store_at aside db name) (itself name))

-- ---- a store without indexes
bare_not_unique : (o : Option Store) → has_unique (option_map (with_indexes []) o) ≡ false
bare_not_unique None = refl
bare_not_unique (Some x) = refl

module _ (items last : Items) (db name : Name) (indexes : List IndexInfo) (is : last ≡ with_indexes_at items db name indexes) where
  now_there : store_at last db name ≡ option_map (with_indexes indexes) (store_at items db name)
  now_there = ap (λ m. store_at m db name) is ∙ store_here items db name (is_store_with (λ _. true)) (if_there (with_indexes indexes)) ∙ made_there name (with_indexes indexes) (finite.get items db)

  still_some : (o : Option Store) → is_some (option_map (with_indexes indexes) o) ≡ is_some o
  still_some None = refl
  still_some (Some x) = refl

  pub bare_there : is_some (store_at last db name) ≡ is_some (store_at items db name)
  bare_there = ap is_some now_there ∙ still_some (store_at items db name)

pub bare_unique : (items last : Items) (db name : Name) → last ≡ with_indexes_at items db name [] → has_unique (store_at last db name) ≡ false
bare_unique items last db name is = ap has_unique (now_there items last db name [] is) ∙ bare_not_unique (store_at items db name)

-- ---- a store that is loosened
is_kept : (k o : Option Store) (indexes : List IndexInfo) → (is_some o ≡ true → is_some k ≡ true) → option_map (with_kept k) (option_map (with_indexes indexes) o) ≡ option_map (with_kept k) o
is_kept k None indexes h = refl
is_kept None (Some x) indexes h = let no : false ≡ true = h refl in absurd cc
is_kept (Some y) (Some x) indexes h = refl

pub overridden : (items aside : Items) (db name : Name) (indexes : List IndexInfo) → (is_some (store_at items db name) ≡ true → is_some (store_at aside db name) ≡ true) → meant (with_indexes_at items db name indexes) aside ≡ meant items aside
overridden items aside db name indexes h =
    let test : Option Store → Bool = is_store_with (λ _. true) in
    let make : Option Store → Option Store = if_there (with_indexes indexes) in
    let last : Items = with_indexes_at items db name indexes in
    same_meant items aside last aside (version_made items db name test make) (λ q r.
    elim (is_same_name q db && is_same_name r name) as (λ b. (is_same_name q db && is_same_name r name) ≡ b → option_map (with_kept (store_at aside q r)) (store_at last q r) ≡ option_map (with_kept (store_at aside q r)) (store_at items q r)) [
      | true ↦ λ t. let same = both_same q db r name t in
          subst (λ (n : Name). option_map (with_kept (store_at aside n r)) (store_at last n r) ≡ option_map (with_kept (store_at aside n r)) (store_at items n r)) (sym same.0)
          (subst (λ (n : Name). option_map (with_kept (store_at aside db n)) (store_at last db n) ≡ option_map (with_kept (store_at aside db n)) (store_at items db n)) (sym same.1)
          (ap (option_map (with_kept (store_at aside db name))) (store_here items db name test make ∙ made_there name (with_indexes indexes) (finite.get items db)) ∙ is_kept (store_at aside db name) (store_at items db name) indexes h))
      | false ↦ λ t. ap (option_map (with_kept (store_at aside q r))) (store_elsewhere items db name test make q r t)
    ] refl)

-- the indexes of the store are kept, of which none were before
pub kept_too : (items aside last : Items) (db name : Name) (x kept : Store) → store_at items db name ≡ Some x → store_at aside db name ≡ None → kept.info.indexes ≡ x.info.indexes → IsAlso db name kept aside last → meant items last ≡ meant items aside
kept_too items aside last db name x kept there none same_indexes also =
    same_meant items aside items last (λ q. refl) (λ q r.
    elim (is_same_name q db && is_same_name r name) as (λ b. (is_same_name q db && is_same_name r name) ≡ b → store_at last q r ≡ cond b (Some kept) (store_at aside q r) → option_map (with_kept (store_at last q r)) (store_at items q r) ≡ option_map (with_kept (store_at aside q r)) (store_at items q r)) [
      | true ↦ λ t now. let same = both_same q db r name t in
          let at : store_at items q r ≡ Some x = (λ i. store_at items (same.0 i) (same.1 i)) ∙ there in
          let before : store_at aside q r ≡ None = (λ i. store_at aside (same.0 i) (same.1 i)) ∙ none in
          ap (λ k. option_map (with_kept k) (store_at items q r)) now
          ∙ ap (option_map (with_kept (Some kept))) at
          ∙ ap (λ is. Some (with_indexes is x)) same_indexes
          ∙ sym (ap (λ k. option_map (with_kept k) (store_at items q r)) before ∙ ap (option_map (with_kept None)) at)
      | false ↦ λ t now. ap (λ k. option_map (with_kept k) (store_at items q r)) now
    ] refl (also q r))
