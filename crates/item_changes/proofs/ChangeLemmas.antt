-- What each change finds and leaves.
use Rattle.std.proofs.Common.{◌≡◌, ℕ, ◌<◌, Bool, true, false, Option, Some, None, option_map, option_and_then, is_some, is_none, IfSome, inl, inr, refl, ◌∙◌, ap, subst}
use Rattle.std.specs.FinMap as finite
use Rattle.std.proofs.lemmas.Bool.{cases_Bool, false≢true, ltb-true, lt-ltb}
use Rattle.object_stores.specs.Store.{Store}
use Rattle.idb_calls.specs.Deltas.{DeltaTree}
use Rattle.item_changes.specs.Items.{Name, is_same_name, Database, Items, stores_in, changed_at, store_at}
use Rattle.item_changes.specs.Effects.{OnStore, effect_of, database_of, is_raised_by, at_version, is_store_with, finds, made, applied}
use Rattle.item_changes.proofs.ChangedAt.{changed_here, changed_elsewhere}
use Rattle.item_changes.proofs.ScopeLemmas.{names_total, one_name, same_name, names_either_way}

-- ---- what a test that passes tells
pub some_there : {X : Type 0} (there : Option X) → is_some there ≡ true → (x : X) × (there ≡ Some x)
some_there None e = absurd (false≢true e)
some_there (Some x) e = (x, refl)

pub none_there : {X : Type 0} (there : Option X) → is_none there ≡ true → there ≡ None
none_there None e = refl
none_there (Some x) e = absurd (false≢true e)

pub store_there : (test : Store → Bool) (there : Option Store) → is_store_with test there ≡ true → (x : Store) × (there ≡ Some x) × (test x ≡ true)
store_there test None e = absurd (false≢true e)
store_there test (Some x) e = (x, refl, e)

-- ---- databases
pub raised : (version : ℕ) (there : Option Database) → is_raised_by version there ≡ true → IfSome there (λ d. d.version < version)
raised version None e = tt
raised version (Some d) e = ltb-true d.version version e

pub at_its_version : (version : ℕ) (there : Option Database) → at_version version there ≡ Some (record { version = version; stores = stores_in there })
at_its_version version None = refl
at_its_version version (Some d) = refl

pub database_after : (items : Items) (db : Name) (change : Option Database → Option Database) → finite.get (changed_at items db change) db ≡ change (finite.get items db)
database_after items db change = changed_here names_total one_name items db change

pub other_database : (items : Items) (delta : DeltaTree) (db : Name) → is_same_name (database_of delta) db ≡ false → finite.get (applied items delta) db ≡ finite.get items db
other_database items delta db apart = changed_elsewhere names_total one_name items (database_of delta) (made (effect_of delta)) db (names_either_way db (database_of delta) ∙ apart)

-- what an effect leaves of each database it leaves of all
kept_of_each : {Y : Type 0} (view : Option Database → Y) (items : Items) (delta : DeltaTree) (db : Name)
    → ((there : Option Database) → view (made (effect_of delta) there) ≡ view there) → view (finite.get (applied items delta) db) ≡ view (finite.get items db)
kept_of_each view items delta db keeps = elim (cases_Bool (is_same_name (database_of delta) db)) [
  | inl same ↦ subst (λ name. view (finite.get (applied items delta) name) ≡ view (finite.get items name)) (same_name (database_of delta) db same)
      (ap view (database_after items (database_of delta) (made (effect_of delta))) ∙ keeps (finite.get items (database_of delta)))
  | inr other ↦ ap view (other_database items delta db other)
]

-- ---- stores
module _ (store : Name) (test : Option Store → Bool) (make : Option Store → Option Store) where
  found_in : (there : Option Database) → finds (OnStore store test make) there ≡ true → test (option_and_then (λ d. finite.get d.stores store) there) ≡ true
  found_in None e = absurd (false≢true e)
  found_in (Some d) e = e

  left_in : (there : Option Database) → finds (OnStore store test make) there ≡ true
      → option_and_then (λ d. finite.get d.stores store) (made (OnStore store test make) there) ≡ make (option_and_then (λ d. finite.get d.stores store) there)
  left_in None e = absurd (false≢true e)
  left_in (Some d) e = changed_here names_total one_name d.stores store make

  pub test_passes : (items : Items) (db : Name) → finds (OnStore store test make) (finite.get items db) ≡ true → test (store_at items db store) ≡ true
  test_passes items db e = found_in (finite.get items db) e

  pub store_after : (items : Items) (db : Name) → finds (OnStore store test make) (finite.get items db) ≡ true
      → store_at (changed_at items db (made (OnStore store test make))) db store ≡ make (store_at items db store)
  store_after items db e = ap (option_and_then (λ d. finite.get d.stores store)) (database_after items db (made (OnStore store test make))) ∙ left_in (finite.get items db) e

  other_in : (other : Name) (there : Option Database) → is_same_name store other ≡ false
      → option_and_then (λ d. finite.get d.stores other) (made (OnStore store test make) there) ≡ option_and_then (λ d. finite.get d.stores other) there
  other_in other None apart = refl
  other_in other (Some d) apart = changed_elsewhere names_total one_name d.stores store make other (names_either_way other store ∙ apart)

  version_in : (there : Option Database) → option_map (λ d. d.version) (made (OnStore store test make) there) ≡ option_map (λ d. d.version) there
  version_in None = refl
  version_in (Some d) = refl

  pub other_store : (items : Items) (delta : DeltaTree) (db other : Name) → effect_of delta ≡ OnStore store test make → is_same_name store other ≡ false
      → store_at (applied items delta) db other ≡ store_at items db other
  other_store items delta db other is apart = kept_of_each (option_and_then (λ d. finite.get d.stores other)) items delta db
      (λ there. ap (λ effect. option_and_then (λ d. finite.get d.stores other) (made effect there)) is ∙ other_in other there apart)

  pub kept_version : (items : Items) (delta : DeltaTree) (db : Name) → effect_of delta ≡ OnStore store test make
      → option_map (λ d. d.version) (finite.get (applied items delta) db) ≡ option_map (λ d. d.version) (finite.get items db)
  kept_version items delta db is = kept_of_each (option_map (λ d. d.version)) items delta db
      (λ there. ap (λ effect. option_map (λ d. d.version) (made effect there)) is ∙ version_in there)

-- ---- where a change finds what it names
pub is_raised : (version : ℕ) (there : Option Database) → IfSome there (λ d. d.version < version) → is_raised_by version there ≡ true
is_raised version None less = refl
is_raised version (Some d) less = lt-ltb d.version version less

pub tested_in : (store : Name) (test : Option Store → Bool) (make : Option Store → Option Store) (there : Option Database) (x : Store)
    → option_and_then (λ d. finite.get d.stores store) there ≡ Some x → test (Some x) ≡ true → finds (OnStore store test make) there ≡ true
tested_in store test make None x e passes = cc
tested_in store test make (Some d) x e passes = ap test e ∙ passes
