-- What the calls of a transaction's stores leave.
--     begun, begun_seen     as it begins
--     raised, raised_seen   at another version
--     grown                 with other stores, where the database exists
--     there_in              a change that finds its store finds a database
--     index_made, index_gone          an index comes or goes
--     unbroken_there, broken_there    whether its records break it
use Rattle.std.proofs.Common.{◌≡◌, ℕ, Bool, true, false, List, Option, Some, None, is_some, Result, Ok, Err, OnOk, refl, sym, ap, ◌∙◌, subst}
use Rattle.std.proofs.lemmas.Option.{none-some}
use denote.Ref.{Bor}
use Rattle.std.specs.FinMap as finite
use Rattle.clone_values.specs.Tree.{Tree}
use Rattle.idb_schema.specs.declared.definitions.IndexInfo.{IndexInfo}
use Rattle.idb_calls.specs.Deltas.{DeltaTree}
use Rattle.object_stores.specs.Store.{Store}
use Rattle.object_stores.specs.Changed.{store_with_index}
use Rattle.item_changes.specs.Items.{Name, changed_at, stood_at}
use Rattle.item_changes.specs.Effects.{OnStore, finds, at_version, is_store_with, lacks_index_named, has_index_named, if_there, store_without_index_named}
use Rattle.idb_databases.specs.Stores.{Stores}
use Rattle.store_requests.specs.declared.changes.StoreNames.{StoreNames}
use Rattle.list_machine.specs.Requests.{store_under}
use Rattle.list_machine.specs.Entries.{is_broken_by}
use Rattle.live_stores.specs.declared.slots.Slot.{Slot}
use Rattle.live_stores.specs.declared.changing.StoreChange.TheVariants.{Delete, Clear, AddIndex, DropIndex}
use Rattle.idb_keys.specs.KeyRange.{Range}
use Rattle.live_stores.specs.Live.{database_at, live_from}
use Rattle.live_stores.specs.Slots.{stores_now, stores_before, AreSlots, AreGiven, IsLiveStores, live_seen}
use Rattle.live_stores.specs.Changing.{change_run, CanRunOn, HasChangedOn, HasChanged}
use Rattle.live_stores.proofs.Databases.{added_to, unbroken_by, broken_by, shown_under}
use Rattle.live_stores.proofs.Endings.{given_alike, given_slots}

module _ {T R W : Type 0} (es : List (Name × Slot T R W)) where
  pub begun : (version : Option ℕ) → AreGiven es → (version ≡ None → stores_now es ≡ finite.empty) → IsLiveStores version version es
  begun version given none = record {
    slots = given_slots es given;
    none_before = λ n. given_alike es given ∙ none n;
    none_now = none;
  }

  pub begun_seen : (version : Option ℕ) (stores : Stores) → AreGiven es → stores_now es ≡ stores → live_seen version version es ≡ live_from (database_at version stores)
  begun_seen version stores given is = λ i. record { before = database_at version ((given_alike es given ∙ is) i); database = database_at version (is i) }

  module _ (version_before : Option ℕ) where
    pub raised : (version : Option ℕ) (n : ℕ) → IsLiveStores version_before version es → IsLiveStores version_before (Some n) es
    raised version n live = record {
      slots = live.slots;
      none_before = live.none_before;
      none_now = λ e. absurd (none-some n (sym e));
    }

    pub raised_seen : (version : Option ℕ) (n : ℕ) → IsLiveStores version_before version es
        → live_seen version_before (Some n) es ≡ record { before = (live_seen version_before version es).before; database = at_version n (live_seen version_before version es).database }
    raised_seen None n live = ap (λ (m : Stores). record { before = database_at version_before (stores_before es); database = Some (record { version = n; stores = m }) }) (live.none_now refl)
    raised_seen (Some version) n live = refl

    pub grown : (version : Option ℕ) (fs : List (Name × Slot T R W)) → IsLiveStores version_before version es → AreSlots fs → stores_before fs ≡ stores_before es → ((v : ℕ) × (version ≡ Some v)) → IsLiveStores version_before version fs
    grown version fs live slots before there = record {
      slots = slots;
      none_before = λ n. before ∙ live.none_before n;
      none_now = λ n. absurd (none-some there.0 (sym n ∙ there.1));
    }

    pub back : (version : Option ℕ) (fs : List (Name × Slot T R W)) → IsLiveStores version_before version es → AreSlots fs → stores_before fs ≡ stores_before es → stores_now fs ≡ stores_before es → IsLiveStores version_before version_before fs
    back version fs live slots before here = record {
      slots = slots;
      none_before = λ n. before ∙ live.none_before n;
      none_now = λ n. here ∙ live.none_before n;
    }

    pub back_seen : (version : Option ℕ) (fs : List (Name × Slot T R W)) → stores_before fs ≡ stores_before es → stores_now fs ≡ stores_before es
        → live_seen version_before version_before fs ≡ record (live_seen version_before version es) { database = (live_seen version_before version es).before }
    back_seen version fs before here = λ i. record { before = database_at version_before (before i); database = database_at version_before (here i) }

pub there_in : (version : Option ℕ) (stores : Stores) (name : Name) (test : Option Store → Bool) (make : Option Store → Option Store) → finds (OnStore name test make) (database_at version stores) ≡ true → (v : ℕ) × (version ≡ Some v)
there_in None stores name test make f = cc
there_in (Some version) stores name test make f = (version, refl)

tested_in : (version : Option ℕ) (stores : Stores) (name : Name) (test : Store → Bool) (make : Option Store → Option Store) → finds (OnStore name (is_store_with test) make) (database_at version stores) ≡ true → is_some (finite.get stores name) ≡ true
tested_in None stores name test make f = cc
tested_in (Some version) stores name test make f = go (finite.get stores name) f where
  go : (there : Option Store) → is_store_with test there ≡ true → is_some there ≡ true
  go None e = cc
  go (Some x) e = refl

pub index_made : (version : Option ℕ) (named : StoreNames) (name : Name) (old new : Stores) (noted later : List DeltaTree) (index : IndexInfo) (t : Tree) (make : Option Store → Option Store)
    → finds (OnStore name (is_store_with (lacks_index_named index.name)) make) (database_at version old) ≡ true
    → HasChanged (change_run (AddIndex index) named) name old (Some t) new noted later → new ≡ changed_at old name (if_there (λ x. store_with_index x index))
index_made version named name old new noted later index t make f h = added_to named name old new noted later index (finite.get old name) t h (tested_in version old name (lacks_index_named index.name) make f)

pub index_gone : (version : Option ℕ) (named : StoreNames) (name : Name) (old new : Stores) (noted later : List DeltaTree) (index : Bor (List ℕ)) (t : Tree) (make : Option Store → Option Store)
    → finds (OnStore name (is_store_with (has_index_named index.now)) make) (database_at version old) ≡ true
    → HasChanged (change_run (DropIndex index) named) name old (Some t) new noted later → new ≡ changed_at old name (if_there (store_without_index_named index.now))
index_gone version named name old new noted later index t make f h = go (finite.get old name) h (tested_in version old name (has_index_named index.now) make f) where
  go : (there : Option Store) → HasChangedOn there (change_run (DropIndex index) named) name old (Some t) new noted later → is_some there ≡ true → new ≡ stood_at old name (if_there (store_without_index_named index.now) there)
  go None h e = cc
  go (Some x) h e = h.1

pub unbroken_there : (version : Option ℕ) (named : StoreNames) (name : Name) (old new : Stores) (noted later : List DeltaTree) (index : IndexInfo) (t : Tree) → (version ≡ None → old ≡ finite.empty)
    → HasChanged (change_run (AddIndex index) named) name old (Some t) new noted later → is_broken_by index (store_under (database_at version old) name) ≡ false
unbroken_there version named name old new noted later index t none h =
    unbroken_by named name old new noted later index (store_under (database_at version old) name) t
    (subst (λ (there : Option Store). HasChangedOn there (change_run (AddIndex index) named) name old (Some t) new noted later) (shown_under version old name none) h)

pub broken_there : (version : Option ℕ) (named : StoreNames) (name : Name) (old new : Stores) (noted later : List DeltaTree) (index : IndexInfo) → (version ≡ None → old ≡ finite.empty)
    → HasChanged (change_run (AddIndex index) named) name old None new noted later → is_broken_by index (store_under (database_at version old) name) ≡ true
broken_there version named name old new noted later index none h =
    broken_by named name old new noted later index (store_under (database_at version old) name)
    (subst (λ (there : Option Store). HasChangedOn there (change_run (AddIndex index) named) name old None new noted later) (shown_under version old name none) h)

pub can_delete : (range : Bor Range) (there : Option Store) → CanRunOn (Delete range) there
can_delete range None = tt
can_delete range (Some x) = tt

pub can_clear : (there : Option Store) → CanRunOn Clear there
can_clear None = tt
can_clear (Some x) = tt

pub can_drop : (index : Bor (List ℕ)) (there : Option Store) → CanRunOn (DropIndex index) there
can_drop index None = tt
can_drop index (Some x) = tt

pub ok_weaker : {X E P Q : Type 0} (r : Result X E) → (P → Q) → OnOk r P → OnOk r Q
ok_weaker (Ok x) f h = f h
ok_weaker (Err e) f h = tt
