-- Each kind of change, made of the databases: what it makes of them as they are meant, and whether it finds what it names there.
--     apart_means           the changes that have nothing to do with indexes
--     unkept_made, unkept_found     the others, where nothing is kept aside of their store
use Rattle.std.proofs.Common.{◌≡◌, ℕ, Bool, true, false, cond, Option, Some, None, option_map, is_some, is_none, refl, sym, ap, subst, ◌∙◌}
use Rattle.std.specs.FinMap as finite
use Rattle.clone_values.specs.Tree.{Tree}
use Rattle.clone_values.specs.KeyTree.{KeyTree}
use Rattle.clone_values.specs.declared.path_types.PathSpec.{PathSpec}
use Rattle.object_stores.specs.Store.{Store}
use Rattle.object_stores.specs.Changed.{store_with_record, store_without_record, cleared, with_current}
use Rattle.idb_calls.specs.Deltas.{DeltaTree, Version, DropDatabase, CreateStore, DropStore, CreateIndex, DropIndex, Put, Remove, Clear, Current}
use Rattle.item_changes.specs.Items.{Name, name_cmp, is_same_name, Database, Items, changed_at, store_at}
use Rattle.item_changes.specs.Effects.{OnStore, made, finds, if_there, gone, at_version, is_raised_by, is_store_with, has_record, has_generator, new_store, applied, applies}
use Rattle.item_changes.proofs.Laws.{same_name}
use Rattle.record_changes.specs.Loosened.{with_kept, meant_database, meant, is_apart, MeansTheSame}
use Rattle.record_changes.proofs.Maps.{changed_seen, version_in, store_in, same_items}
use Rattle.record_changes.proofs.Meant.{get_meant, version_meant, store_meant, made_of_items, found_in_items}

-- ---- changes of a database itself
module _ (items : Items) (db : Name) (version : ℕ) where
  store_stays : (r : Name) (there : Option Database) → store_in r (at_version version there) ≡ store_in r there
  store_stays r None = finite.get-empty name_cmp r
  store_stays r (Some d) = refl

  raised : (there : Option Database) → version_in (at_version version there) ≡ Some version
  raised None = refl
  raised (Some d) = refl

  picked : {X Y : Type 0} (see : X → Y) (b : Bool) (x y : X) → see (cond b x y) ≡ cond b (see x) (see y)
  picked see true x y = refl
  picked see false x y = refl

  version_raised : (q : Name) → version_in (finite.get (changed_at items db (at_version version)) q) ≡ cond (is_same_name q db) (Some version) (version_in (finite.get items q))
  version_raised q =
      ap version_in (changed_seen items db (at_version version) q)
      ∙ picked version_in (is_same_name q db) (at_version version (finite.get items db)) (finite.get items q)
      ∙ ap (λ v. cond (is_same_name q db) v (version_in (finite.get items q))) (raised (finite.get items db))

  either : (b : Bool) (q r : Name) → is_same_name q db ≡ b → store_in r (cond b (at_version version (finite.get items db)) (finite.get items q)) ≡ store_at items q r
  either true q r e = store_stays r (finite.get items db) ∙ ap (λ (n : Name). store_at items n r) (sym (same_name q db e))
  either false q r e = refl

  pub stores_stay : (q r : Name) → store_at (changed_at items db (at_version version)) q r ≡ store_at items q r
  stores_stay q r = ap (store_in r) (changed_seen items db (at_version version) q) ∙ either (is_same_name q db) q r refl

module _ (items : Items) (db : Name) where
  version_dropped : (q : Name) → version_in (finite.get (changed_at items db gone) q) ≡ cond (is_same_name q db) None (version_in (finite.get items q))
  version_dropped q = ap version_in (changed_seen items db gone q) ∙ picked items db 0 version_in (is_same_name q db) None (finite.get items q)

  pub stores_dropped : (q r : Name) → store_at (changed_at items db gone) q r ≡ cond (is_same_name q db) None (store_at items q r)
  stores_dropped q r = ap (store_in r) (changed_seen items db gone q) ∙ picked items db 0 (store_in r) (is_same_name q db) None (finite.get items q)

left_out : {X Y : Type 0} (f : X → Y) (b : Bool) (o : Option X) → option_map f (cond b None o) ≡ cond b None (option_map f o)
left_out f true o = refl
left_out f false o = refl

module _ (items aside : Items) (db : Name) where
  version_made : (version : ℕ) → meant (applied items (Version db version)) aside ≡ applied (meant items aside) (Version db version)
  version_made version = same_items _ _
      (λ q. version_meant (applied items (Version db version)) aside q ∙ version_raised items db version q
      ∙ sym (version_raised (meant items aside) db version q ∙ ap (λ v. cond (is_same_name q db) (Some version) v) (version_meant items aside q)))
      (λ q r. store_meant (applied items (Version db version)) aside q r ∙ ap (option_map (with_kept (store_at aside q r))) (stores_stay items db version q r)
      ∙ sym (stores_stay (meant items aside) db version q r ∙ store_meant items aside q r))

  database_dropped : meant (applied items (DropDatabase db)) aside ≡ applied (meant items aside) (DropDatabase db)
  database_dropped = same_items _ _
      (λ q. version_meant (applied items (DropDatabase db)) aside q ∙ version_dropped items db q
      ∙ sym (version_dropped (meant items aside) db q ∙ ap (λ v. cond (is_same_name q db) None v) (version_meant items aside q)))
      (λ q r. store_meant (applied items (DropDatabase db)) aside q r ∙ ap (option_map (with_kept (store_at aside q r))) (stores_dropped items db q r)
      ∙ left_out (with_kept (store_at aside q r)) (is_same_name q db) (store_at items q r)
      ∙ sym (stores_dropped (meant items aside) db q r ∙ ap (λ o. cond (is_same_name q db) None o) (store_meant items aside q r)))

  raised_alike : (version : ℕ) (there : Option Database) → is_raised_by version (option_map (meant_database aside db) there) ≡ is_raised_by version there
  raised_alike version None = refl
  raised_alike version (Some d) = refl

  there_alike : (there : Option Database) → is_some (option_map (meant_database aside db) there) ≡ is_some there
  there_alike None = refl
  there_alike (Some d) = refl

-- ---- changes of a store
module _ (k : Option Store) where
  -- a change of the store in which its indexes have no say
  commutes : (f : Store → Store) → ((x : Store) → with_kept k (f x) ≡ f (with_kept k x)) → (o : Option Store) → option_map (with_kept k) (if_there f o) ≡ if_there f (option_map (with_kept k) o)
  commutes f same None = refl
  commutes f same (Some x) = ap Some (same x)

  some_alike : (o : Option Store) → is_some (option_map (with_kept k) o) ≡ is_some o
  some_alike None = refl
  some_alike (Some x) = refl

  none_alike : (o : Option Store) → is_none (option_map (with_kept k) o) ≡ is_none o
  none_alike None = refl
  none_alike (Some x) = refl

  tested_alike : (test : Store → Bool) → ((x : Store) → test (with_kept k x) ≡ test x) → (o : Option Store) → is_store_with test (option_map (with_kept k) o) ≡ is_store_with test o
  tested_alike test same None = refl
  tested_alike test same (Some x) = same x

put_same : (k : Option Store) (key : KeyTree) (value : Tree) (x : Store) → with_kept k (store_with_record x key value) ≡ store_with_record (with_kept k x) key value
put_same None key value x = refl
put_same (Some y) key value x = refl

removed_same : (k : Option Store) (key : KeyTree) (x : Store) → with_kept k (store_without_record x key) ≡ store_without_record (with_kept k x) key
removed_same None key x = refl
removed_same (Some y) key x = refl

cleared_same : (k : Option Store) (x : Store) → with_kept k (cleared x) ≡ cleared (with_kept k x)
cleared_same None x = refl
cleared_same (Some y) x = refl

numbered_same : (k : Option Store) (n : ℕ) (x : Store) → with_kept k (with_current x n) ≡ with_current (with_kept k x) n
numbered_same None n x = refl
numbered_same (Some y) n x = refl

record_same : (k : Option Store) (key : KeyTree) (x : Store) → has_record key (with_kept k x) ≡ has_record key x
record_same None key x = refl
record_same (Some y) key x = refl

generator_same : (k : Option Store) (x : Store) → has_generator (with_kept k x) ≡ has_generator x
generator_same None x = refl
generator_same (Some y) x = refl

apart_made : (delta : DeltaTree) → is_apart delta ≡ true → (items aside : Items) → meant (applied items delta) aside ≡ applied (meant items aside) delta
apart_made (Version db version) e items aside = version_made items aside db version
apart_made (DropDatabase db) e items aside = database_dropped items aside db
apart_made (CreateStore db store path auto) e items aside = absurd cc
apart_made (DropStore db store) e items aside = made_of_items items aside db store is_some gone (λ o. refl)
apart_made (CreateIndex db store index path unique multi) e items aside = absurd cc
apart_made (DropIndex db store index) e items aside = absurd cc
apart_made (Put db store key value) e items aside = made_of_items items aside db store is_some (if_there (λ x. store_with_record x key value)) (commutes (store_at aside db store) (λ x. store_with_record x key value) (put_same (store_at aside db store) key value))
apart_made (Remove db store key) e items aside = made_of_items items aside db store (is_store_with (has_record key)) (if_there (λ x. store_without_record x key)) (commutes (store_at aside db store) (λ x. store_without_record x key) (removed_same (store_at aside db store) key))
apart_made (Clear db store) e items aside = made_of_items items aside db store is_some (if_there cleared) (commutes (store_at aside db store) cleared (cleared_same (store_at aside db store)))
apart_made (Current db store current) e items aside = made_of_items items aside db store (is_store_with has_generator) (if_there (λ x. with_current x current)) (commutes (store_at aside db store) (λ x. with_current x current) (numbered_same (store_at aside db store) current))

apart_found : (delta : DeltaTree) → is_apart delta ≡ true → (items aside : Items) → applies (meant items aside) delta ≡ applies items delta
apart_found (Version db version) e items aside = ap (is_raised_by version) (get_meant items aside db) ∙ raised_alike items aside db version (finite.get items db)
apart_found (DropDatabase db) e items aside = ap is_some (get_meant items aside db) ∙ there_alike items aside db (finite.get items db)
apart_found (CreateStore db store path auto) e items aside = absurd cc
apart_found (DropStore db store) e items aside = found_in_items items aside db store is_some gone (some_alike (store_at aside db store))
apart_found (CreateIndex db store index path unique multi) e items aside = absurd cc
apart_found (DropIndex db store index) e items aside = absurd cc
apart_found (Put db store key value) e items aside = found_in_items items aside db store is_some (if_there (λ x. store_with_record x key value)) (some_alike (store_at aside db store))
apart_found (Remove db store key) e items aside = found_in_items items aside db store (is_store_with (has_record key)) (if_there (λ x. store_without_record x key)) (tested_alike (store_at aside db store) (has_record key) (record_same (store_at aside db store) key))
apart_found (Clear db store) e items aside = found_in_items items aside db store is_some (if_there cleared) (some_alike (store_at aside db store))
apart_found (Current db store current) e items aside = found_in_items items aside db store (is_store_with has_generator) (if_there (λ x. with_current x current)) (tested_alike (store_at aside db store) has_generator (generator_same (store_at aside db store)))

pub apart_means : (delta : DeltaTree) → is_apart delta ≡ true → (items aside : Items) → MeansTheSame items aside delta
apart_means delta e items aside = record { made = apart_made delta e items aside; found = apart_found delta e items aside }

-- ---- where nothing is kept aside
pub none_kept : (o : Option Store) → option_map (with_kept None) o ≡ o
none_kept None = refl
none_kept (Some x) = refl

module _ (items aside : Items) (db name : Name) (test : Option Store → Bool) (make : Option Store → Option Store) (unkept : store_at aside db name ≡ None) where
  pub unkept_made : meant (changed_at items db (made (OnStore name test make))) aside ≡ changed_at (meant items aside) db (made (OnStore name test make))
  unkept_made = made_of_items items aside db name test make
      (subst (λ (k : Option Store). (o : Option Store) → option_map (with_kept k) (make o) ≡ make (option_map (with_kept k) o)) (sym unkept) (λ o. none_kept (make o) ∙ ap make (sym (none_kept o))))

  pub unkept_found : finds (OnStore name test make) (finite.get (meant items aside) db) ≡ finds (OnStore name test make) (finite.get items db)
  unkept_found = found_in_items items aside db name test make
      (subst (λ (k : Option Store). (o : Option Store) → test (option_map (with_kept k) o) ≡ test o) (sym unkept) (λ o. ap test (none_kept o)))

-- a new store: whatever was kept aside of one of its name is forgotten
pub created_found : (items aside : Items) (db name : Name) (path : Option PathSpec) (auto : Bool) → applies (meant items aside) (CreateStore db name path auto) ≡ applies items (CreateStore db name path auto)
created_found items aside db name path auto = found_in_items items aside db name is_none (λ _. Some (new_store name path auto)) (none_alike (store_at aside db name))
