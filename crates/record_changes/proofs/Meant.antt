-- The databases as they are meant, and what changes make of them.
--     version_meant, store_meant          their versions and their stores
--     version_made, store_here, store_elsewhere     what a change of one store leaves
--     same_meant, made_meant              two changes of them and of what is kept aside that come to the same, and to that change
--     made_of_items, found_in_items         a change that is made of the databases
--     made_of_aside, found_in_aside         a change that is made of what is kept aside
use Rattle.std.proofs.Common.{◌≡◌, Bool, true, false, ◌&&◌, Option, Some, None, option_map, refl, sym, ap, subst, ◌∙◌}
use Rattle.std.specs.FinMap as finite
use Rattle.object_stores.specs.Store.{Store}
use Rattle.item_changes.specs.Items.{Name, is_same_name, Database, Items, changed_at, store_at}
use Rattle.item_changes.specs.Effects.{OnStore, made, finds}
use Rattle.item_changes.proofs.Laws.{names_total, one_name, same_name, changed_here, changed_elsewhere}
use Rattle.record_changes.specs.Loosened.{with_kept, meant_database, meant}
use Rattle.record_changes.proofs.Maps.{get_named, version_in, store_in, same_items}

module _ (items aside : Items) where
  pub get_meant : (db : Name) → finite.get (meant items aside) db ≡ option_map (meant_database aside db) (finite.get items db)
  get_meant db = get_named (meant_database aside) items db

  same_version : (db : Name) (there : Option Database) → version_in (option_map (meant_database aside db) there) ≡ version_in there
  same_version db None = refl
  same_version db (Some d) = refl

  pub version_meant : (db : Name) → version_in (finite.get (meant items aside) db) ≡ version_in (finite.get items db)
  version_meant db = ap version_in (get_meant db) ∙ same_version db (finite.get items db)

  pub store_of_meant : (db name : Name) (there : Option Database) → store_in name (option_map (meant_database aside db) there) ≡ option_map (with_kept (store_at aside db name)) (store_in name there)
  store_of_meant db name None = refl
  store_of_meant db name (Some d) = get_named (λ name store. with_kept (store_at aside db name) store) d.stores name

  pub store_meant : (db name : Name) → store_at (meant items aside) db name ≡ option_map (with_kept (store_at aside db name)) (store_at items db name)
  store_meant db name = ap (store_in name) (get_meant db) ∙ store_of_meant db name (finite.get items db)

-- ---- a change of one store
pub both_same : (q db r name : Name) → (is_same_name q db && is_same_name r name) ≡ true → (q ≡ db) × (r ≡ name)
both_same q db r name e =
    elim (is_same_name q db) as (λ b. is_same_name q db ≡ b → (b && is_same_name r name) ≡ true → (q ≡ db) × (r ≡ name)) [
      | true ↦ λ t f. (same_name q db t, same_name r name f)
      | false ↦ λ t f. absurd cc
    ] refl e

-- without the database there is no store
abbrev pub made_in : Name → (Option Store → Option Store) → Option Database → Option Store
made_in name make None = None
made_in name make (Some d) = make (finite.get d.stores name)

module _ (items : Items) (db name : Name) (test : Option Store → Bool) (make : Option Store → Option Store) where
  abbrev pub after : Items
  after = changed_at items db (made (OnStore name test make))

  here : finite.get after db ≡ made (OnStore name test make) (finite.get items db)
  here = changed_here names_total one_name items db (made (OnStore name test make))

  version_stays : (there : Option Database) → version_in (made (OnStore name test make) there) ≡ version_in there
  version_stays None = refl
  version_stays (Some d) = refl

  pub version_made : (q : Name) → version_in (finite.get after q) ≡ version_in (finite.get items q)
  version_made q =
      elim (is_same_name q db) as (λ b. is_same_name q db ≡ b → version_in (finite.get after q) ≡ version_in (finite.get items q)) [
        | true ↦ λ e. subst (λ (n : Name). version_in (finite.get after n) ≡ version_in (finite.get items n)) (sym (same_name q db e)) (ap version_in here ∙ version_stays (finite.get items db))
        | false ↦ λ e. ap version_in (changed_elsewhere names_total one_name items db (made (OnStore name test make)) q e)
      ] refl

  store_made_in : (there : Option Database) → store_in name (made (OnStore name test make) there) ≡ made_in name make there
  store_made_in None = refl
  store_made_in (Some d) = changed_here names_total one_name d.stores name make

  pub store_here : store_at after db name ≡ made_in name make (finite.get items db)
  store_here = ap (store_in name) here ∙ store_made_in (finite.get items db)

  other_in : (r : Name) → is_same_name r name ≡ false → (there : Option Database) → store_in r (made (OnStore name test make) there) ≡ store_in r there
  other_in r e None = refl
  other_in r e (Some d) = changed_elsewhere names_total one_name d.stores name make r e

  pub store_elsewhere : (q r : Name) → (is_same_name q db && is_same_name r name) ≡ false → store_at after q r ≡ store_at items q r
  store_elsewhere q r apart =
      elim (is_same_name q db) as (λ b. is_same_name q db ≡ b → (b && is_same_name r name) ≡ false → store_at after q r ≡ store_at items q r) [
        | true ↦ λ e f. subst (λ (n : Name). store_at after n r ≡ store_at items n r) (sym (same_name q db e)) (ap (store_in r) here ∙ other_in r f (finite.get items db))
        | false ↦ λ e f. ap (store_in r) (changed_elsewhere names_total one_name items db (made (OnStore name test make)) q e)
      ] refl apart

-- ---- databases and what is kept aside, changed together
module _ (items aside last kept : Items) (versions : (q : Name) → version_in (finite.get last q) ≡ version_in (finite.get items q)) where
  abbrev pub IsMeantAs : Name → Name → Type 0
  IsMeantAs q r = option_map (with_kept (store_at kept q r)) (store_at last q r) ≡ option_map (with_kept (store_at aside q r)) (store_at items q r)

  pub same_meant : ((q r : Name) → IsMeantAs q r) → meant last kept ≡ meant items aside
  same_meant each = same_items (meant last kept) (meant items aside)
      (λ q. version_meant last kept q ∙ versions q ∙ sym (version_meant items aside q))
      (λ q r. store_meant last kept q r ∙ each q r ∙ sym (store_meant items aside q r))

  module _ (db name : Name) (test : Option Store → Bool) (make : Option Store → Option Store) where
    pub made_meant : option_map (with_kept (store_at kept db name)) (store_at last db name) ≡ made_in name make (finite.get (meant items aside) db)
        → ((q r : Name) → (is_same_name q db && is_same_name r name) ≡ false → IsMeantAs q r)
        → meant last kept ≡ changed_at (meant items aside) db (made (OnStore name test make))
    made_meant there elsewhere = same_items (meant last kept) (after (meant items aside) db name test make)
        (λ q. version_meant last kept q ∙ versions q ∙ sym (version_meant items aside q) ∙ sym (version_made (meant items aside) db name test make q))
        (λ q r. store_meant last kept q r ∙ elim (is_same_name q db && is_same_name r name) as (λ b. (is_same_name q db && is_same_name r name) ≡ b → option_map (with_kept (store_at kept q r)) (store_at last q r) ≡ store_at (after (meant items aside) db name test make) q r) [
          | true ↦ λ e. let same = both_same q db r name e in
              subst (λ (n : Name). option_map (with_kept (store_at kept n r)) (store_at last n r) ≡ store_at (after (meant items aside) db name test make) n r) (sym same.0)
              (subst (λ (n : Name). option_map (with_kept (store_at kept db n)) (store_at last db n) ≡ store_at (after (meant items aside) db name test make) db n) (sym same.1)
              (there ∙ sym (store_here (meant items aside) db name test make)))
          | false ↦ λ e. elsewhere q r e ∙ sym (store_meant items aside q r) ∙ sym (store_elsewhere (meant items aside) db name test make q r e)
        ] refl)

-- what a change makes of the databases as they are meant
module _ (items aside : Items) (db name : Name) where
  abbrev pub kept_here : Option Store
  kept_here = store_at aside db name

  made_of_meant : (make : Option Store → Option Store) (there : Option Database) → made_in name make (option_map (meant_database aside db) there) ≡ made_in name (λ o. make (option_map (with_kept kept_here) o)) there
  made_of_meant make None = refl
  made_of_meant make (Some d) = ap make (store_of_meant items aside db name (Some d))

  pub made_in_meant : (make : Option Store → Option Store) → made_in name make (finite.get (meant items aside) db) ≡ made_in name (λ o. make (option_map (with_kept kept_here) o)) (finite.get items db)
  made_in_meant make = ap (made_in name make) (get_meant items aside db) ∙ made_of_meant make (finite.get items db)

  found_of_meant : (test : Option Store → Bool) (make : Option Store → Option Store) (there : Option Database) → ((o : Option Store) → test (option_map (with_kept kept_here) o) ≡ test o)
      → finds (OnStore name test make) (option_map (meant_database aside db) there) ≡ finds (OnStore name test make) there
  found_of_meant test make None alike = refl
  found_of_meant test make (Some d) alike = ap test (store_of_meant items aside db name (Some d)) ∙ alike (finite.get d.stores name)

  -- a test that the indexes have no say in
  pub found_in_items : (test : Option Store → Bool) (make : Option Store → Option Store) → ((o : Option Store) → test (option_map (with_kept kept_here) o) ≡ test o)
      → finds (OnStore name test make) (finite.get (meant items aside) db) ≡ finds (OnStore name test make) (finite.get items db)
  found_in_items test make alike = ap (finds (OnStore name test make)) (get_meant items aside db) ∙ found_of_meant test make (finite.get items db) alike

  moved : (make : Option Store → Option Store) → ((o : Option Store) → option_map (with_kept kept_here) (make o) ≡ make (option_map (with_kept kept_here) o))
      → (there : Option Database) → option_map (with_kept kept_here) (made_in name make there) ≡ made_in name (λ o. make (option_map (with_kept kept_here) o)) there
  moved make commutes None = refl
  moved make commutes (Some d) = commutes (finite.get d.stores name)

  -- a change that leaves the indexes as they are
  pub made_of_items : (test : Option Store → Bool) (make : Option Store → Option Store) → ((o : Option Store) → option_map (with_kept kept_here) (make o) ≡ make (option_map (with_kept kept_here) o))
      → meant (after items db name test make) aside ≡ changed_at (meant items aside) db (made (OnStore name test make))
  made_of_items test make commutes =
      made_meant items aside (after items db name test make) aside (version_made items db name test make) db name test make
      (ap (option_map (with_kept kept_here)) (store_here items db name test make) ∙ moved make commutes (finite.get items db) ∙ sym (made_in_meant make))
      (λ q r apart. ap (option_map (with_kept (store_at aside q r))) (store_elsewhere items db name test make q r apart))
