-- What a put answers is a well formed value: its record stands in the store then, which is as it should be.
--     put_formed            where the store is found again
use Rattle.std.proofs.Common.{◌≡◌, Bool, true, false, if◌then◌else◌, cond, Option, Some, None, option_map, Bor, refl, sym, ◌∙◌, ap, subst}
use Rattle.std.specs.Prelude.{IfSome}
use Rattle.std.specs.Option.{option_copied}
use Rattle.std.specs.FinMap as finite
use Rattle.std.specs.FinMap.{get-insert}
use Rattle.std.specs.Cmp.{tied_itself}
use Rattle.std.specs.Ordering.{is_eq}
use Rattle.clone_values.specs.Tree.{Tree, undefined}
use Rattle.clone_values.specs.KeyTree.{KeyTree}
use Rattle.clone_values.specs.KeyValues.{value_of_key}
use Rattle.clone_values.specs.WellFormed.{IsValue}
use Rattle.key_order.proofs.Laws.{key_cmp_total}
use Rattle.key_paths.proofs.Laws.{value_formed}
use Rattle.object_stores.specs.Store.{Store, Kept}
use Rattle.object_stores.specs.IsStore.{IsStore}
use Rattle.object_stores.specs.Storing.{Entry, entry_for, is_refused, with_entry}
use Rattle.item_changes.specs.Items.{Name, Database}
use Rattle.item_changes.proofs.Laws.{names_total, one_name, changed_here}
use Rattle.idb_databases.specs.Stores.{store_alone, IsStoreNamed}
use Rattle.store_requests.specs.declared.changes.StoreNames.{StoreNames}
use Rattle.store_requests.specs.Runs.{Ran, storing, entry_run, stored_run, refused_run}
use Rattle.store_requests.specs.Leaving.{with_named_store}
use Rattle.list_machine.specs.Requests.{StoreHere, store_under}
use Rattle.live_stores.specs.Live.{done_here, done_there}
use Rattle.tx_courses.specs.Courses.{CourseData, HasCome, live_in}

-- ---- the record that was put
put_there : (x : Store) (e : Entry) → finite.get (with_entry x e).records e.key ≡ Some e.value
put_there x e = get-insert key_cmp_total x.records e.key e.value e.key ∙ ap (λ o. cond (is_eq o) (Some e.value) (finite.get x.records e.key)) (tied_itself key_cmp_total e.key)

entry_formed : (named : StoreNames) (x : Store) (e : Entry) (t : Tree) → (stored_run named x e).answer ≡ Some t → IsStore (stored_run named x e).store → IsValue t
entry_formed named x e t answer sound = subst IsValue (same answer) (value_formed e.key (sound.content.records e.key e.value (put_there x e)).key)
  where
    same : Some (value_of_key e.key) ≡ Some t → value_of_key e.key ≡ t
    same e = cc

run_formed : (named : StoreNames) (x : Store) (e : Entry) (t : Tree) (b : Bool) → (if b then refused_run x else stored_run named x e).answer ≡ Some t → IsStore (if b then refused_run x else stored_run named x e).store → IsValue t
run_formed named x e t true answer sound = cc
run_formed named x e t false answer sound = entry_formed named x e t answer sound

storing_at : (named : StoreNames) (x : Store) (add : Bool) (o : Option Entry) (t : Tree) → (entry_run named x add o).answer ≡ Some t → IsStore (entry_run named x add o).store → IsValue t
storing_at named x add None t answer sound = cc
storing_at named x add (Some e) t answer sound = run_formed named x e t (is_refused x.info.indexes x.records add e.key e.value) answer sound

storing_formed : (named : StoreNames) (x : Store) (value : Tree) (key : Option KeyTree) (add : Bool) (t : Tree) → (storing named x value key add).answer ≡ Some t → IsStore (storing named x value key add).store → IsValue t
storing_formed named x value key add t answer sound = storing_at named x add (entry_for x.info.path x.info.auto x.current value key) t answer sound

-- ---- the store, found again
named_at : (name : Name) (d : Database) (o : Option Store) (here : StoreHere) → option_map (λ store. record { name = name; database = d; store = store }) o ≡ Some here → here.name ≡ name
named_at name d None here e = cc
named_at name d (Some x) here e = at e
  where
    at : Some (record { name = name; database = d; store = x }) ≡ Some here → here.name ≡ name
    at e = let same : record { name = name; database = d; store = x } ≡ here = cc in ap (λ (h : StoreHere). h.name) (sym same)

named_under : (there : Option Database) (name : Name) (here : StoreHere) → store_under there name ≡ Some here → here.name ≡ name
named_under None name here e = cc
named_under (Some d) name here e = named_at name d (finite.get d.stores name) here e

put_under : (d : Database) (name : Name) (x : Store) → store_under (Some (with_named_store d name x)) name ≡ Some (record { name = name; database = with_named_store d name x; store = x })
put_under d name x = ap (option_map (λ store. record { name = name; database = with_named_store d name x; store = store })) (changed_here names_total one_name d.stores name (λ o. Some x))

-- what a store that was found has, as the call says
sound_of : (name : Name) (found : Option (Bor Kept)) (x : Store) → option_map store_alone (option_copied found) ≡ Some x → IfSome found (λ k. IsStoreNamed name k.now.store) → IsStore x
sound_of name None x e named = cc
sound_of name (Some k) x e named = subst IsStore (same e) named.1
  where
    same : Some k.now.store ≡ Some x → k.now.store ≡ x
    same e = cc

module _ (old new : CourseData) (names : StoreNames) (value : Tree) (key : Option KeyTree) (add : Bool) (t : Tree) (found : Option (Bor Kept)) where
  abbrev run : Store → Ran
  run x = storing names x value key add

  formed_at : (o : Option StoreHere) → ((here : StoreHere) → o ≡ Some here → here.name ≡ names.store) → HasCome (done_there old.database run o) (Some t) old new
      → option_map store_alone (option_copied found) ≡ option_map (λ here. here.store) (store_under new.database names.store) → IfSome found (λ k. IsStoreNamed names.store k.now.store) → IsValue t
  formed_at None is come store named = subst IsValue (nothing come.answered) refl
    where
      nothing : Some t ≡ Some undefined → undefined ≡ t
      nothing e = cc
  formed_at (Some here) is come store named =
      let ran = run here.store in
      let now : store_under new.database names.store ≡ Some (record { name = names.store; database = with_named_store here.database names.store ran.store; store = ran.store }) =
      ap (λ (c : CourseData). store_under c.database names.store) come.left
      ∙ ap (λ n. store_under (Some (with_named_store here.database n ran.store)) names.store) (is here refl)
      ∙ put_under here.database names.store ran.store in
      storing_formed names here.store value key add t (sym come.answered)
      (sound_of names.store found ran.store (store ∙ ap (option_map (λ here. here.store)) now) named)

  pub put_formed : HasCome (done_here (live_in old) names.store run) (Some t) old new
      → option_map store_alone (option_copied found) ≡ option_map (λ here. here.store) (store_under new.database names.store) → IfSome found (λ k. IsStoreNamed names.store k.now.store) → IsValue t
  put_formed come store named = formed_at (store_under old.database names.store) (named_under old.database names.store) come store named
