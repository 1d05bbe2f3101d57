-- From the stores under their names to the database.
use Rattle.std.proofs.Common.{◌≡◌, ℕ, Bool, true, false, if◌then◌else◌, List, [], ◌∷◌, ◌++◌, Option, Some, None, is_some, is_none, option_map, refl, sym, ap, ◌∙◌, subst}
use Rattle.std.proofs.lemmas.Option.{none-some}
use denote.Ref.{Bor}
use Rattle.std.specs.FinMap as finite
use Rattle.clone_values.specs.Tree.{Tree, undefined}
use Rattle.clone_values.specs.View.{tree_of, key_tree_of}
use Rattle.clone_values.specs.declared.value_types.Value.{Value}
use Rattle.clone_values.specs.declared.key_types.Key.{Key}
use Rattle.idb_schema.specs.Definitions.{IsIndexInfo}
use Rattle.idb_schema.specs.declared.definitions.IndexInfo.{IndexInfo}
use Rattle.idb_calls.specs.Deltas.{DeltaTree}
use Rattle.index_tables.specs.Unique.{broken_key}
use Rattle.object_stores.specs.Store.{Store}
use Rattle.object_stores.specs.Changed.{store_with_index}
use Rattle.item_changes.specs.Items.{Name, name_cmp, Database, changed_at, stood_at, stores_in}
use Rattle.item_changes.specs.Effects.{OnStore, finds, made, is_store_with, lacks_index_named, if_there, new_index}
use Rattle.idb_databases.specs.Stores.{Stores}
use Rattle.store_requests.specs.Runs.{Ran, refused_run}
use Rattle.store_requests.specs.declared.changes.StoreNames.{StoreNames}
use Rattle.list_machine.specs.Requests.{StoreHere, store_under}
use Rattle.list_machine.specs.Entries.{is_broken_by}
use Rattle.live_stores.specs.declared.slots.Slot.{Slot}
use Rattle.live_stores.specs.Slots.{stores_now, stores_before, AreSlots, IsLiveStores, live_seen}
use Rattle.live_stores.specs.Live.{LiveData, database_at, CanStoreHere, done_there, done_here, HasDone}
use Rattle.live_stores.specs.declared.changing.StoreChange.TheVariants.{Put, AddIndex, DropIndex}
use Rattle.live_stores.specs.Changing.{change_run, only_left, CanRunOn, HasChangedOn, HasChanged}

-- without a database there are no stores
pub stores_back : (version : Option ℕ) (stores : Stores) → (version ≡ None → stores ≡ finite.empty) → stores_in (database_at version stores) ≡ stores
stores_back None stores none = sym (none refl)
stores_back (Some version) stores none = refl

pub made_there : (version : Option ℕ) (stores : Stores) (name : Name) (test : Option Store → Bool) (make : Option Store → Option Store)
    → made (OnStore name test make) (database_at version stores) ≡ database_at version (changed_at stores name make)
made_there None stores name test make = refl
made_there (Some version) stores name test make = refl

pub found_there : (version : Option ℕ) (stores : Stores) (name : Name) (test : Option Store → Bool) (make : Option Store → Option Store)
    → finds (OnStore name test make) (database_at version stores) ≡ true → (v : ℕ) × (version ≡ Some v) × (test (finite.get stores name) ≡ true)
found_there None stores name test make f = cc
found_there (Some version) stores name test make f = (version, refl, f)

get_none : (stores : Stores) (name : Name) → stores ≡ finite.empty → finite.get stores name ≡ None
get_none stores name e = ap (λ m. finite.get m name) e ∙ finite.get-empty name_cmp name

pub shown_under : (version : Option ℕ) (stores : Stores) (name : Name) → (version ≡ None → stores ≡ finite.empty)
    → finite.get stores name ≡ option_map (λ here. here.store) (store_under (database_at version stores) name)
shown_under None stores name none = get_none stores name (none refl)
shown_under (Some version) stores name none =
    elim (finite.get stores name) as (λ (there : Option Store). there ≡ option_map (λ (here : StoreHere). here.store) (option_map (λ store. record { name = name; database = record { version = version; stores = stores }; store = store }) there)) [
      | None ↦ refl
      | Some x ↦ refl
    ]

abbrev seen : Option ℕ → Stores → Option ℕ → Stores → LiveData
seen version_before before version stores = record { before = database_at version_before before; database = database_at version stores }

append_none : {X : Type 0} (xs : List X) → xs ≡ xs ++ []
append_none [] = refl
append_none (x ∷ xs) = ap (λ ys. x ∷ ys) (append_none xs)

module _ (version_before : Option ℕ) (before : Stores) (name : Name) (run : Store → Ran) (answer : Option Tree) (noted later : List DeltaTree) where
  done_some : (version : ℕ) (old new : Stores) (there : Option Store) → HasChangedOn there run name old answer new noted later
      → HasDone (done_there (database_at (Some version) old) run (option_map (λ store. record { name = name; database = record { version = version; stores = old }; store = store }) there))
      answer (seen version_before before (Some version) old) (seen version_before before (Some version) new) noted later
  done_some version old new None h = record { answered = h.0; left = ap (seen version_before before (Some version)) h.1; noted = h.2 ∙ append_none noted }
  done_some version old new (Some x) h = record { answered = h.0; left = ap (seen version_before before (Some version)) h.1; noted = h.2 }

  pub has_done : (version : Option ℕ) (old new : Stores) → (version ≡ None → old ≡ finite.empty) → HasChanged run name old answer new noted later
      → HasDone (done_here (seen version_before before version old) name run) answer (seen version_before before version old) (seen version_before before version new) noted later
  has_done None old new none h =
      let there = subst (λ (x : Option Store). HasChangedOn x run name old answer new noted later) (get_none old name (none refl)) h in
      record { answered = there.0; left = refl; noted = there.2 ∙ append_none noted }
  has_done (Some version) old new none h = done_some version old new (finite.get old name) h

-- ---- what requests need
pub can_put : (version : Option ℕ) (stores : Stores) (name : Name) (value : Value) (key : Option Key) (add : Bool) → (version ≡ None → stores ≡ finite.empty)
    → CanStoreHere (store_under (database_at version stores) name) (tree_of value) (option_map key_tree_of key) → CanRunOn (Put value key add) (finite.get stores name)
can_put None stores name value key add none can = subst (CanRunOn (Put value key add)) (sym (get_none stores name (none refl))) tt
can_put (Some version) stores name value key add none can =
    elim (finite.get stores name) as (λ (there : Option Store). CanStoreHere (option_map (λ store. record { name = name; database = record { version = version; stores = stores }; store = store }) there) (tree_of value) (option_map key_tree_of key) → CanRunOn (Put value key add) there) [
      | None ↦ λ c. tt
      | Some x ↦ λ c. c
    ] can

none_is : {X : Type 0} (o : Option X) → is_none o ≡ true → o ≡ None
none_is None e = refl
none_is (Some x) e = cc

lacking : (there : Option Store) (index : IndexInfo) → IsIndexInfo index → is_store_with (lacks_index_named index.name) there ≡ true → CanRunOn (AddIndex index) there
lacking None index sound f = tt
lacking (Some x) index sound f = (sound, none_is _ f)

pub can_index : (version : Option ℕ) (stores : Stores) (name : Name) (index : IndexInfo) → IsIndexInfo index
    → finds (OnStore name (is_store_with (lacks_index_named index.name)) (if_there (λ x. store_with_index x (new_index index.name index.path index.unique index.multi)))) (database_at version stores) ≡ true
    → CanRunOn (AddIndex index) (finite.get stores name)
can_index None stores name index sound f = cc
can_index (Some version) stores name index sound f = lacking (finite.get stores name) index sound f

pub can_drop : (there : Option Store) (index : Bor (List ℕ)) → CanRunOn (DropIndex index) there
can_drop None index = tt
can_drop (Some x) index = tt

-- ---- indexes
module _ (named : StoreNames) (name : Name) (old new : Stores) (noted later : List DeltaTree) (index : IndexInfo) where
  pub added_to : (there : Option Store) (t : Tree) → HasChangedOn there (change_run (AddIndex index) named) name old (Some t) new noted later → is_some there ≡ true
      → new ≡ stood_at old name (if_there (λ x. store_with_index x index) there)
  added_to None t h e = cc
  added_to (Some x) t h e =
      elim (is_some (broken_key index x.records)) as (λ b. Some t ≡ (if b then refused_run x else only_left (store_with_index x index)).answer → new ≡ finite.insert old name (if b then refused_run x else only_left (store_with_index x index)).store → new ≡ finite.insert old name (store_with_index x index)) [
        | true ↦ λ a n. absurd (none-some t (sym a))
        | false ↦ λ a n. n
      ] h.0 h.1

  pub unbroken_by : (there : Option StoreHere) (t : Tree) → HasChangedOn (option_map (λ here. here.store) there) (change_run (AddIndex index) named) name old (Some t) new noted later
      → is_broken_by index there ≡ false
  unbroken_by None t h = refl
  unbroken_by (Some here) t h =
      elim (is_some (broken_key index here.store.records)) as (λ b. Some t ≡ (if b then refused_run here.store else only_left (store_with_index here.store index)).answer → b ≡ false) [
        | true ↦ λ a. absurd (none-some t (sym a))
        | false ↦ λ a. refl
      ] h.0

  pub broken_by : (there : Option StoreHere) → HasChangedOn (option_map (λ here. here.store) there) (change_run (AddIndex index) named) name old None new noted later
      → is_broken_by index there ≡ true
  broken_by None h = absurd (none-some undefined h.0)
  broken_by (Some here) h =
      elim (is_some (broken_key index here.store.records)) as (λ b. None ≡ (if b then refused_run here.store else only_left (store_with_index here.store index)).answer → b ≡ true) [
        | true ↦ λ a. refl
        | false ↦ λ a. absurd (none-some undefined a)
      ] h.0

-- ---- what is never refused

-- ---- the database before and the one now
module _ {T R W : Type 0} (version_before version : Option ℕ) (es fs : List (Name × Slot T R W)) where
  -- where both maps are the same nothing has changed
  pub live_same : stores_before fs ≡ stores_before es → stores_now fs ≡ stores_now es → live_seen version_before version fs ≡ live_seen version_before version es
  live_same before here = λ i. record { before = database_at version_before (before i); database = database_at version (here i) }

  -- another database now
  pub live_with : stores_before fs ≡ stores_before es → (d : Option Database) → database_at version (stores_now fs) ≡ d
      → live_seen version_before version fs ≡ record (live_seen version_before version es) { database = d }
  live_with before d here = λ i. record { before = database_at version_before (before i); database = here i }

  pub live_done : (name : Name) (run : Store → Ran) (answer : Option Tree) (noted later : List DeltaTree) → IsLiveStores version_before version es → stores_before fs ≡ stores_before es
      → HasChanged run name (stores_now es) answer (stores_now fs) noted later
      → HasDone (done_here (live_seen version_before version es) name run) answer (live_seen version_before version es) (live_seen version_before version fs) noted later
  live_done name run answer noted later live before h =
      subst (λ (m : Stores). HasDone (done_here (live_seen version_before version es) name run) answer (live_seen version_before version es) (record { before = database_at version_before m; database = database_at version (stores_now fs) }) noted later)
      (sym before) (has_done version_before (stores_before es) name run answer noted later version (stores_now es) (stores_now fs) live.none_now h)

  -- a change of the store of a name
  pub live_made : (name : Name) (test : Option Store → Bool) (make : Option Store → Option Store) → stores_before fs ≡ stores_before es → stores_now fs ≡ changed_at (stores_now es) name make
      → live_seen version_before version fs ≡ record (live_seen version_before version es) { database = made (OnStore name test make) (database_at version (stores_now es)) }
  live_made name test make before here = live_with before _ (ap (database_at version) here ∙ sym (made_there version (stores_now es) name test make))

  pub live_kept : IsLiveStores version_before version es → AreSlots fs → stores_before fs ≡ stores_before es → (stores_now es ≡ finite.empty → stores_now fs ≡ finite.empty) → IsLiveStores version_before version fs
  live_kept live slots before none = record {
    slots = slots;
    none_before = λ n. before ∙ live.none_before n;
    none_now = λ n. none (live.none_now n);
  }
