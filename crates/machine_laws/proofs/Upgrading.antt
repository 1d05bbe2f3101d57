-- A call of an upgrade when it is run.
--     shows_changed         a database goes on to show its schema where one store changes in both
--     upgrade_step          the changes of a call find what they need, and lead to a database that shows the schema after it
use Rattle.std.proofs.Common.{◌≡◌, ℕ, Bool, true, false, not, ◌&&◌, if◌then◌else◌, List, [], ◌∷◌, ◌++◌, remove, slice_get, Option, Some, None, option_map, is_some, inl, inr, refl, sym, ◌∙◌, ap, subst}
use Rattle.std.specs.Prelude.{unwrap_or}
use Rattle.std.specs.List.{find}
use Rattle.std.specs.Option.{is_none, option_and_then}
use Rattle.std.specs.FinMap as finite
use Rattle.std.proofs.lemmas.Bool.{cases_Bool, false≢true}
use Rattle.clone_values.specs.declared.path_types.PathSpec.{PathSpec}
use Rattle.path_grammar.specs.KeyPath.{is_key_path}
use Rattle.idb_keys.specs.declared.names.ErrorName.{ErrorName}
use Rattle.idb_keys.specs.declared.names.ErrorName.TheVariants.{SyntaxError, ConstraintError, InvalidAccessError, NotFoundError}
use Rattle.idb_schema.specs.declared.calls.SchemaCall.{SchemaCall}
use Rattle.idb_schema.specs.declared.calls.SchemaCall.TheVariants as change
use Rattle.idb_schema.specs.declared.definitions.IndexInfo.{IndexInfo}
use Rattle.idb_schema.specs.declared.definitions.StoreInfo.{StoreInfo}
use Rattle.idb_schema.specs.declared.entries.StoreEntry.{StoreEntry}
use Rattle.idb_schema.specs.declared.identities.StoreId.{StoreId}
use Rattle.idb_schema.specs.Definitions.{store_named, index_named, is_list_path, takes_generator}
use Rattle.idb_schema.specs.Schemas.{SchemaData, stores_of, indexes_at, place_of, store_of, new_entry, with_store as schema_with_store, without_store, with_index, without_index, entry_with_index, entry_without_index}
use Rattle.version_upgrade.specs.Upgrades.{has_store, has_index, indexes_of, is_valid_path, schema_after}
use Rattle.item_changes.specs.Store.{Store}
use Rattle.item_changes.specs.Changed.{store_with_index}
use Rattle.idb_calls.specs.Deltas.{DeltaTree, CreateStore, DropStore, CreateIndex, DropIndex}
use Rattle.item_changes.specs.Items.{Name, Database, is_same_name, changed_at}
use Rattle.item_changes.specs.Effects.{made_all, finds_all, gone, if_there, is_store_with, lacks_index_named, has_index_named, new_store, new_index, store_without_index_if, store_without_index_named}
use Rattle.item_changes.proofs.Laws.{names_total, one_name, same_name, changed_here, changed_elsewhere}
use Rattle.list_machine.specs.States.{State}
use Rattle.list_machine.specs.Entries.{deltas_of_call, named_change}
use Rattle.machine_laws.specs.Keeping.{info_named, AreApart, Shows, IsCheckedChange}
use Rattle.machine_laws.proofs.Checking.{no_cause, not_not}
use Rattle.machine_laws.proofs.Schemas.{either_way, named_put, apart_put, named_there, removed_at, has_that_id, found_named, changed_entry}

-- ---- one store changes, in the database and in the schema
module _ (whole : Bool) (old new : SchemaData) (d : Database) (name : Name) (make : Option Store → Option Store) where
  abbrev after : Database
  after = record d { stores = changed_at d.stores name make }

  here : finite.get after.stores name ≡ make (finite.get d.stores name)
  here = changed_here names_total one_name d.stores name make

  elsewhere : (q : Name) → is_same_name name q ≡ false → finite.get after.stores q ≡ finite.get d.stores q
  elsewhere q other = changed_elsewhere names_total one_name d.stores name make q (either_way q name ∙ other)

  some_info : (o : Option Store) (info : StoreInfo) → option_map (λ x. x.info) o ≡ Some info → is_some o ≡ true
  some_info None info e = cc
  some_info (Some x) info e = refl

  info_of : (o : Option Store) (x : Store) → o ≡ Some x → option_map (λ y. y.info) o ≡ Some x.info
  info_of o x e = ap (option_map (λ y. y.info)) e

  module _ (shown : (q : Name) → info_named new.entries q ≡ (if is_same_name name q then option_map (λ x. x.info) (make (finite.get d.stores name)) else info_named old.entries q)) (s : Shows whole old (Some d)) where
    shown_here : (q : Name) → is_same_name name q ≡ true → info_named new.entries q ≡ option_map (λ x. x.info) (make (finite.get d.stores name))
    shown_here q is = shown q ∙ ap (λ b. if b then option_map (λ x. x.info) (make (finite.get d.stores name)) else info_named old.entries q) is

    shown_else : (q : Name) → is_same_name name q ≡ false → info_named new.entries q ≡ info_named old.entries q
    shown_else q is = shown q ∙ ap (λ b. if b then option_map (λ x. x.info) (make (finite.get d.stores name)) else info_named old.entries q) is

    at_name : (q : Name) → is_same_name name q ≡ true → finite.get after.stores q ≡ make (finite.get d.stores name)
    at_name q is = ap (finite.get after.stores) (sym (same_name name q is)) ∙ here

    pub shows_changed : Shows whole new (Some after)
    shows_changed = record {
      named = λ q x there. elim (cases_Bool (is_same_name name q)) [
        | inl is ↦ shown_here q is ∙ info_of (make (finite.get d.stores name)) x (sym (at_name q is) ∙ there)
        | inr other ↦ shown_else q other ∙ s.named q x (sym (elsewhere q other) ∙ there)
      ];
      database = λ w. refl;
      all = λ w q info there. elim (cases_Bool (is_same_name name q)) [
        | inl is ↦ ap is_some (at_name q is) ∙ some_info (make (finite.get d.stores name)) info (sym (shown_here q is) ∙ there)
        | inr other ↦ ap is_some (elsewhere q other) ∙ s.all w q info (sym (shown_else q other) ∙ there)
      ];
    }

-- ---- what the changes of a call come to
pub record Stepped (schema new : SchemaData) (there : Option Database) (deltas : List DeltaTree) : Type 0 where
  pub finds : finds_all deltas there ≡ true
  pub apart : AreApart new.entries
  pub shows : Shows true new (made_all deltas there)

and_true : (b : Bool) → b ≡ true → (b && true) ≡ true
and_true true e = refl
and_true false e = cc

some_there : {X : Type 0} (o : Option X) → is_some o ≡ true → (x : X) × (o ≡ Some x)
some_there None e = absurd (false≢true e)
some_there (Some x) e = (x, refl)

not_some : {X : Type 0} (o : Option X) → is_some o ≡ false → o ≡ None
not_some None e = refl
not_some (Some x) e = cc

not_none : {X : Type 0} (o : Option X) → is_none o ≡ false → (x : X) × (o ≡ Some x)
not_none None e = cc
not_none (Some x) e = (x, refl)

module _ (db : Name) (schema : SchemaData) (d : Database) (apart : AreApart schema.entries) (s : Shows true schema (Some d)) where
  -- ---- stores
  absent : (name : Name) (o : Option Store) → info_named schema.entries name ≡ None → finite.get d.stores name ≡ o → is_none o ≡ true
  absent name None none at = refl
  absent name (Some x) none at = let no : None ≡ Some x.info = sym none ∙ s.named name x at in cc

  created : (name : Name) (path : Option PathSpec) (auto : Bool) → has_store schema name ≡ false
      → Stepped schema (schema_after schema (change.CreateStore name path auto)) (Some d) (CreateStore db name path auto ∷ [])
  created name path auto lacks =
      let info : StoreInfo = record { name = name; path = path; auto = auto; indexes = [] } in
      let new : StoreEntry = new_entry info schema.next_id in
      let none : info_named schema.entries name ≡ None = not_some _ (sym (named_there schema.entries name) ∙ lacks) in
      record {
        finds = and_true _ (absent name (finite.get d.stores name) none refl);
        apart = apart_put schema.entries new apart none;
        shows = shows_changed true schema (schema_with_store schema info) d name (λ there. Some (new_store name path auto)) (λ q. named_put schema.entries new q none) s;
      }

  dropped_at : (name : Name) (p : ℕ) → store_named (stores_of schema) name ≡ Some p → is_some (finite.get d.stores name) ≡ true
      → Stepped schema (without_store schema p) (Some d) (DropStore db name ∷ [])
  dropped_at name p at there =
      let gone_from = removed_at schema.entries name p apart at in
      record {
        finds = and_true _ there;
        apart = gone_from.apart;
        shows = shows_changed true schema (without_store schema p) d name gone gone_from.named s;
      }

  dropped : (name : Name) → has_store schema name ≡ true → Stepped schema (schema_after schema (change.DropStore name)) (Some d) (DropStore db name ∷ [])
  dropped name has =
      let place = some_there (store_named (stores_of schema) name) has in
      let info = some_there (info_named schema.entries name) (sym (named_there schema.entries name) ∙ has) in
      subst (λ o. Stepped schema (unwrap_or (option_map (without_store schema) o) schema) (Some d) (DropStore db name ∷ [])) (sym place.1)
      (dropped_at name place.0 place.1 (s.all refl name info.0 info.1))

  -- ---- indexes
  module _ (id : StoreId) (p : ℕ) (placed : place_of schema id ≡ Some p) where
    indexes_here : (e : StoreEntry) → slice_get schema.entries p ≡ Some e → indexes_of schema id ≡ e.info.indexes
    indexes_here e at = ap (λ o. unwrap_or (option_map (indexes_at schema) o) []) placed ∙ ap (λ o. unwrap_or (option_map (λ x. x.info.indexes) o) []) at

    definition : (e : StoreEntry) → find (has_that_id id.number) schema.entries ≡ Some e → store_of schema id ≡ Some e.info
    definition e found = ap (option_map (λ x. x.info)) found

    store_there : (e : StoreEntry) → find (has_that_id id.number) schema.entries ≡ Some e → (x : Store) × (finite.get d.stores e.info.name ≡ Some x) × (x.info ≡ e.info)
    store_there e found =
        let named = found_named schema.entries id.number e apart found in
        let x = some_there (finite.get d.stores e.info.name) (s.all refl e.info.name e.info named) in
        (x.0, x.1, one_info x.0.info e.info (sym (s.named e.info.name x.0 x.1) ∙ named))
      where
        one_info : (a b : StoreInfo) → Some a ≡ Some b → a ≡ b
        one_info a b same = cc

    index_created : (name : Name) (path : PathSpec) (unique multi : Bool) → has_index schema id name ≡ false
        → Stepped schema (schema_after schema (change.CreateIndex id name path unique multi)) (Some d) (named_change (option_map (λ info. info.name) (store_of schema id)) (λ n. CreateIndex db n name path unique multi))
    index_created name path unique multi lacks =
        let index : IndexInfo = new_index name path unique multi in
        let at = changed_entry schema.entries id.number p (λ e. entry_with_index e index) (λ e. refl) apart placed in
        let e = at.entry in
        let x = store_there e at.found in
        let make : Option Store → Option Store = if_there (λ y. store_with_index y index) in
        let none : is_none (index_named x.0.info.indexes name) ≡ true = none_is _ (sym (ap (λ is. is_some (index_named is name)) (indexes_here e at.stands ∙ sym (ap (λ i. i.indexes) x.2))) ∙ lacks) in
        subst (λ o. Stepped schema (unwrap_or (option_map (λ place. with_index schema place index) o) schema) (Some d) (named_change (option_map (λ info. info.name) (store_of schema id)) (λ n. CreateIndex db n name path unique multi))) (sym placed)
        (subst (λ o. Stepped schema (with_index schema p index) (Some d) (named_change (option_map (λ info. info.name) o) (λ n. CreateIndex db n name path unique multi))) (sym (definition e at.found)) (record {
          finds = and_true _ (ap (is_store_with (lacks_index_named name)) x.1 ∙ none);
          apart = at.apart;
          shows = shows_changed true schema (with_index schema p index) d e.info.name make
              (λ q. at.named q ∙ ap (λ o. if is_same_name e.info.name q then o else info_named schema.entries q) (sym (ap (λ o. option_map (λ y. y.info) (make o)) x.1 ∙ ap (λ (i : StoreInfo). Some (record i { indexes = i.indexes ++ index ∷ [] })) x.2))) s;
        }))
      where
        none_is : {X : Type 0} (o : Option X) → is_some o ≡ false → is_none o ≡ true
        none_is None e = refl
        none_is (Some x) e = cc

    index_dropped : (name : Name) → has_index schema id name ≡ true
        → Stepped schema (schema_after schema (change.DropIndex id name)) (Some d) (named_change (option_map (λ info. info.name) (store_of schema id)) (λ n. DropIndex db n name))
    index_dropped name has =
        let k = some_there (index_named (indexes_of schema id) name) has in
        let at = changed_entry schema.entries id.number p (λ e. entry_without_index e k.0) (λ e. refl) apart placed in
        let e = at.entry in
        let x = store_there e at.found in
        let make : Option Store → Option Store = if_there (store_without_index_named name) in
        let its : index_named x.0.info.indexes name ≡ Some k.0 = sym (ap (λ is. index_named is name) (indexes_here e at.stands ∙ sym (ap (λ i. i.indexes) x.2))) ∙ k.1 in
        let found : index_named (indexes_at schema p) name ≡ Some k.0 = ap (λ o. index_named (unwrap_or (option_map (λ y. y.info.indexes) o) []) name) at.stands ∙ sym (ap (λ is. index_named is name) (indexes_here e at.stands)) ∙ k.1 in
        subst (λ o. Stepped schema (unwrap_or (option_and_then (λ place. option_map (without_index schema place) (index_named (indexes_at schema place) name)) o) schema) (Some d) (named_change (option_map (λ info. info.name) (store_of schema id)) (λ n. DropIndex db n name))) (sym placed)
        (subst (λ o. Stepped schema (unwrap_or (option_map (without_index schema p) o) schema) (Some d) (named_change (option_map (λ info. info.name) (store_of schema id)) (λ n. DropIndex db n name))) (sym found)
        (subst (λ o. Stepped schema (without_index schema p k.0) (Some d) (named_change (option_map (λ info. info.name) o) (λ n. DropIndex db n name))) (sym (definition e at.found)) (record {
          finds = and_true _ (ap (is_store_with (has_index_named name)) x.1 ∙ ap is_some its);
          apart = at.apart;
          shows = shows_changed true schema (without_index schema p k.0) d e.info.name make
              (λ q. at.named q ∙ ap (λ o. if is_same_name e.info.name q then o else info_named schema.entries q)
              (sym (ap (λ o. option_map (λ y. y.info) (make o)) x.1 ∙ ap (λ o. Some (store_without_index_if x.0 o).info) its ∙ ap (λ (i : StoreInfo). Some (record i { indexes = remove i.indexes k.0 })) x.2))) s;
        })))

-- ---- each call
pub upgrade_step : {D : Type 0} (state : State D) (call : SchemaCall) → AreApart state.schema.entries → (there : Option Database) → Shows true state.schema there → IsCheckedChange true state.schema call
    → Stepped state.schema (schema_after state.schema call) there (deltas_of_call state call)
upgrade_step state call apart None s c = absurd (false≢true (s.database refl))
upgrade_step state (change.CreateStore name path auto) apart (Some d) s c =
    let causes : List (Bool × ErrorName) = (not (is_valid_path path), SyntaxError) ∷ (has_store state.schema name, ConstraintError) ∷ (auto && not (takes_generator path), InvalidAccessError) ∷ [] in
    created state.name state.schema d apart s name path auto (no_cause causes c.taken).1.0
upgrade_step state (change.DropStore name) apart (Some d) s c =
    let causes : List (Bool × ErrorName) = (not (has_store state.schema name), NotFoundError) ∷ [] in
    dropped state.name state.schema d apart s name (not_not (has_store state.schema name) (no_cause causes c.taken).0)
upgrade_step state (change.CreateIndex store name path unique multi) apart (Some d) s c =
    let causes : List (Bool × ErrorName) = (has_index state.schema store name, ConstraintError) ∷ (not (is_key_path path), SyntaxError) ∷ (multi && is_list_path path, InvalidAccessError) ∷ [] in
    let place = not_none (place_of state.schema store) c.there in
    index_created state.name state.schema d apart s store place.0 place.1 name path unique multi (no_cause causes c.taken).0
upgrade_step state (change.DropIndex store name) apart (Some d) s c =
    let causes : List (Bool × ErrorName) = (not (has_index state.schema store name), NotFoundError) ∷ [] in
    let place = not_none (place_of state.schema store) c.there in
    index_dropped state.name state.schema d apart s store place.0 place.1 name (not_not (has_index state.schema store name) (no_cause causes c.taken).0)
