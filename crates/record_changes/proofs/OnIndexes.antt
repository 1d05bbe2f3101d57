-- Changes of the indexes of a store.
--     IsIndexChange, index_change   what they have in common
--     index_made, index_answers     made of what is kept aside of it, and whether they find what they name
--     index_blank           what is kept aside still has no records
--     alone_means           made of the store itself, of which nothing is kept aside
use Rattle.std.proofs.Common.{◌≡◌, ℕ, Bool, true, false, ◌&&◌, Option, Some, None, option_map, is_some, refl, sym, ap, subst, ◌∙◌}
use Rattle.std.specs.FinMap as finite
use Rattle.idb_schema.specs.Definitions.{index_named}
use Rattle.object_stores.specs.Store.{Store}
use Rattle.object_stores.specs.Changed.{store_with_index}
use Rattle.idb_calls.specs.Deltas.{DeltaTree, Version, DropDatabase, CreateStore, DropStore, CreateIndex, DropIndex, Put, Remove, Clear, Current}
use Rattle.item_changes.specs.Items.{Name, Database, Items, changed_at, store_at}
use Rattle.item_changes.specs.Effects.{OnStore, made, finds, if_there, is_store_with, has_index_named, lacks_index_named, store_without_index_if, store_without_index_named, new_index, applied, applies}
use Rattle.record_changes.specs.Loosened.{with_kept, meant, HasNoRecords, MeansTheSame, IsOnIndexes}
use Rattle.record_changes.proofs.Maps.{store_in}
use Rattle.record_changes.proofs.Meant.{store_meant}
use Rattle.record_changes.proofs.EachKind.{unkept_made, unkept_found}
use Rattle.record_changes.proofs.Asides.{no_store, kept_made, kept_found, blank_made}

-- a change of a store that is there, in which its records have no say
pub record IsIndexChange (db name : Name) (delta : DeltaTree) : Type 0 where
  pub f : Store → Store
  pub test : Store → Bool
  pub made_is : (items : Items) → applied items delta ≡ changed_at items db (made (OnStore name (is_store_with test) (if_there f)))
  pub found_is : (items : Items) → applies items delta ≡ finds (OnStore name (is_store_with test) (if_there f)) (finite.get items db)
  pub same : (kept x : Store) → with_kept (Some (f kept)) x ≡ f (with_kept (Some kept) x)
  pub alike : (kept x : Store) → test (with_kept (Some kept) x) ≡ test kept
  pub stay : (x : Store) → (f x).records ≡ x.records

dropped_same : (kept x : Store) (place : Option ℕ) → with_kept (Some (store_without_index_if kept place)) x ≡ store_without_index_if (with_kept (Some kept) x) place
dropped_same kept x None = refl
dropped_same kept x (Some place) = refl

dropped_records : (x : Store) (place : Option ℕ) → (store_without_index_if x place).records ≡ x.records
dropped_records x None = refl
dropped_records x (Some place) = refl

index_change : (db name : Name) (delta : DeltaTree) → IsOnIndexes db name delta → IsIndexChange db name delta
index_change db name (CreateIndex d s index path unique multi) of = record {
  f = λ x. store_with_index x (new_index index path unique multi);
  test = lacks_index_named index;
  made_is = λ items i. changed_at items (of.0 i) (made (OnStore (of.1 i) (is_store_with (lacks_index_named index)) (if_there (λ x. store_with_index x (new_index index path unique multi)))));
  found_is = λ items i. finds (OnStore (of.1 i) (is_store_with (lacks_index_named index)) (if_there (λ x. store_with_index x (new_index index path unique multi)))) (finite.get items (of.0 i));
  same = λ kept x. refl;
  alike = λ kept x. refl;
  stay = λ x. refl;
}
index_change db name (DropIndex d s index) of = record {
  f = store_without_index_named index;
  test = has_index_named index;
  made_is = λ items i. changed_at items (of.0 i) (made (OnStore (of.1 i) (is_store_with (has_index_named index)) (if_there (store_without_index_named index))));
  found_is = λ items i. finds (OnStore (of.1 i) (is_store_with (has_index_named index)) (if_there (store_without_index_named index))) (finite.get items (of.0 i));
  same = λ kept x. dropped_same kept x (index_named kept.info.indexes index);
  alike = λ kept x. refl;
  stay = λ x. dropped_records x (index_named x.info.indexes index);
}
index_change db name (Version d v) of = absurd of
index_change db name (DropDatabase d) of = absurd of
index_change db name (CreateStore d s path auto) of = absurd of
index_change db name (DropStore d s) of = absurd of
index_change db name (Put d s key value) of = absurd of
index_change db name (Remove d s key) of = absurd of
index_change db name (Clear d s) of = absurd of
index_change db name (Current d s n) of = absurd of

some_of : (o : Option Store) → is_some o ≡ true → (x : Store) × (o ≡ Some x)
some_of None e = absurd cc
some_of (Some x) e = (x, refl)

tested_in : (name : Name) (test : Store → Bool) (make : Option Store → Option Store) (there : Option Database) → finds (OnStore name (is_store_with test) make) there ≡ is_store_with test (store_in name there)
tested_in name test make None = refl
tested_in name test make (Some d) = refl

module _ (items aside : Items) (db name : Name) (delta : DeltaTree) (of : IsOnIndexes db name delta) where
  pub index_made : is_some (store_at aside db name) ≡ true → meant items (applied aside delta) ≡ applied (meant items aside) delta
  index_made kept =
      let c = index_change db name delta of in
      let k = some_of (store_at aside db name) kept in
      ap (meant items) (c.made_is aside) ∙ kept_made items aside db name k.0 k.1 c.f (c.same k.0) (is_store_with c.test) ∙ sym (c.made_is (meant items aside))

  index_found : is_some (store_at aside db name) ≡ true → is_some (store_at items db name) ≡ true → applies (meant items aside) delta ≡ applies aside delta
  index_found kept there =
      let c = index_change db name delta of in
      let k = some_of (store_at aside db name) kept in
      let x = some_of (store_at items db name) there in
      c.found_is (meant items aside) ∙ kept_found items aside db name k.0 k.1 c.f (c.same k.0) c.test x.0 x.1 (c.alike k.0 x.0) ∙ sym (c.found_is aside)

  -- a store that is not there has no indexes to speak of
  index_lacks : is_some (store_at items db name) ≡ false → applies (meant items aside) delta ≡ false
  index_lacks none =
      let c = index_change db name delta of in
      c.found_is (meant items aside)
      ∙ tested_in name c.test (if_there c.f) (finite.get (meant items aside) db)
      ∙ ap (is_store_with c.test) (store_meant items aside db name ∙ ap (option_map (with_kept (store_at aside db name))) (no_store (store_at items db name) none))

  pub index_answers : (is_some (store_at items db name) ≡ true → is_some (store_at aside db name) ≡ true) → applies (meant items aside) delta ≡ (is_some (store_at items db name) && applies aside delta)
  index_answers kept =
      elim (is_some (store_at items db name)) as (λ b. is_some (store_at items db name) ≡ b → applies (meant items aside) delta ≡ (b && applies aside delta)) [
        | true ↦ λ t. index_found (kept t) t
        | false ↦ λ t. index_lacks t
      ] refl

  pub alone_means : is_some (store_at aside db name) ≡ false → MeansTheSame items aside delta
  alone_means none =
      let c = index_change db name delta of in
      let unkept = no_store (store_at aside db name) none in
      record {
        made = ap (λ m. meant m aside) (c.made_is items) ∙ unkept_made items aside db name (is_store_with c.test) (if_there c.f) unkept ∙ sym (c.made_is (meant items aside));
        found = c.found_is (meant items aside) ∙ unkept_found items aside db name (is_store_with c.test) (if_there c.f) unkept ∙ sym (c.found_is items);
      }

  pub index_blank : HasNoRecords aside → HasNoRecords (applied aside delta)
  index_blank blank =
      let c = index_change db name delta of in
      subst HasNoRecords (sym (c.made_is aside)) (blank_made aside db name (is_store_with c.test) c.f c.stay blank)
