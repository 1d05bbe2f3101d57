-- What was kept aside comes back.
--     meant_nothing        nothing is kept aside: the databases are as they are meant
--     none_past, one_fewer  the last of several, and how many are left without one
--     one_back              a store has its indexes again, and they are no longer kept aside
--     last_back, last_broken        the stores of a database have them again;  one of them is broken then
--     meant_empty          nothing is kept any more
use Rattle.std.proofs.Common.{◌≡◌, ℕ, zero, suc, ◌+◌, ◌-◌, ◌<◌, Bool, true, false, ◌&&◌, cond, List, [], ◌∷◌, length, slice_get, Option, Some, None, option_map, is_some, refl, sym, ap, subst, ◌∙◌, arith}
use Rattle.std.proofs.lemmas.Option.{same_Some}
use Rattle.std.specs.FinMap as finite
use Rattle.std.specs.FinMap.{FinMap}
use Rattle.object_stores.specs.Store.{Store}
use Rattle.item_changes.specs.Items.{Name, name_cmp, is_same_name, Database, Items, store_at}
use Rattle.item_changes.specs.Effects.{if_there, is_store_with}
use Rattle.item_changes.proofs.Laws.{names_total, same_name}
use Rattle.idb_databases.specs.Stores.{Stores}
use Rattle.store_changes.specs.Making.{breaks}
use Rattle.log_history.specs.Replayed.{are_unbroken}
use Rattle.record_changes.specs.Loosened.{with_indexes, with_kept, meant, aside_of, HasBrokenStore, with_indexes_at}
use Rattle.record_changes.proofs.Maps.{itself, store_in, same_items}
use Rattle.record_changes.proofs.Meant.{version_meant, store_meant, same_meant, version_made, store_here, store_elsewhere, both_same}
use Rattle.record_changes.proofs.EachKind.{none_kept}
use Rattle.record_changes.proofs.Asides.{made_there}
use Rattle.record_changes.proofs.Unbroken.{broken_there}

pub meant_nothing : (items aside : Items) → ((q r : Name) → store_at aside q r ≡ None) → meant items aside ≡ items
meant_nothing items aside none = same_items (meant items aside) items (version_meant items aside) (λ q r.
    store_meant items aside q r ∙ ap (λ k. option_map (with_kept k) (store_at items q r)) (none q r) ∙ none_kept (store_at items q r))

pub nothing_kept : (q r : Name) → store_at finite.empty q r ≡ None
nothing_kept q r = ap (store_in r) (finite.get-empty name_cmp q)

in_one : (b : Bool) (r : Name) (d : Database) → store_in r (cond b (Some d) None) ≡ cond b (finite.get d.stores r) None
in_one true r d = refl
in_one false r d = refl

pub aside_has : (db : Name) (stores : Stores) (q r : Name) → store_at (aside_of db stores) q r ≡ cond (is_same_name q db) (finite.get stores r) None
aside_has db stores q r =
    let d : Database = record { version = 1; stores = stores } in
    ap (store_in r) (finite.get-insert names_total finite.empty db d q ∙ ap (cond (is_same_name q db) (Some d)) (finite.get-empty name_cmp q)) ∙ in_one (is_same_name q db) r d

none_either : (b : Bool) → ◌≡◌ {A = Option Store} (cond b None None) None
none_either true = refl
none_either false = refl

pub meant_no_stores : (items : Items) (db : Name) (stores : Stores) → stores ≡ finite.empty → meant items (aside_of db stores) ≡ items
meant_no_stores items db stores e = meant_nothing items (aside_of db stores) (λ q r.
    aside_has db stores q r ∙ ap (λ (o : Option Store). cond (is_same_name q db) o None) (ap (λ (s : Stores). finite.get s r) e ∙ finite.get-empty name_cmp r) ∙ none_either (is_same_name q db))

-- ---- one after the other
pub none_past : {X : Type 0} (xs : List X) (i : ℕ) → slice_get xs i ≡ None → i < length xs → ⊥
none_past [] i e h = omega arith
none_past (x ∷ xs) zero e h = cc
none_past (x ∷ xs) (suc i) e h = none_past xs i e (omega arith)

pub last_stands : {X : Type 0} (m : FinMap name_cmp X) (last : ℕ) → last + 1 ≡ finite.len m → None ≡ slice_get (finite.entries m) last → ⊥
last_stands m last e none = none_past (finite.entries m) last (sym none) (omega (arith, e, finite.len-entries m))

fewer : (a n : ℕ) (b : Bool) → b ≡ true → a ≡ cond b (n - 1) n → 0 < n → a + 1 ≡ n
fewer a n true t e h = omega arith
fewer a n false t e h = absurd cc

pub one_fewer : {X : Type 0} (m : FinMap name_cmp X) (k : Name) (x : X) → finite.get m k ≡ Some x → 0 < finite.len m → finite.len (finite.remove m k) + 1 ≡ finite.len m
one_fewer m k x there some = fewer (finite.len (finite.remove m k)) (finite.len m) (finite.contains_key m k) (ap is_some there) (finite.len-remove names_total m k) some

-- ---- one store
module _ (items : Items) (db name : Name) (stores : Stores) (kept : Store) (there : finite.get stores name ≡ Some kept) where
  kept_no_more : (b : Bool) → is_same_name db db ≡ b → cond b (finite.get (finite.remove stores name) name) None ≡ None
  kept_no_more true e = finite.get-remove names_total stores name name ∙ ap (λ b. cond b None (finite.get stores name)) (itself name)
  kept_no_more false e = refl

  back_here : (o : Option Store) → option_map (with_indexes kept.info.indexes) o ≡ option_map (with_kept (Some kept)) o
  back_here None = refl
  back_here (Some x) = refl

  other_kept : (b : Bool) (q r : Name) → is_same_name q db ≡ b → (b && is_same_name r name) ≡ false → cond b (finite.get (finite.remove stores name) r) None ≡ cond b (finite.get stores r) None
  other_kept true q r e apart = finite.get-remove names_total stores name r ∙ ap (λ b. cond b None (finite.get stores r)) apart
  other_kept false q r e apart = refl

  pub one_back : meant (with_indexes_at items db name kept.info.indexes) (aside_of db (finite.remove stores name)) ≡ meant items (aside_of db stores)
  one_back =
      let make : Option Store → Option Store = if_there (with_indexes kept.info.indexes) in
      let last : Items = with_indexes_at items db name kept.info.indexes in
      let left : Items = aside_of db (finite.remove stores name) in
      let aside : Items = aside_of db stores in
      same_meant items aside last left (version_made items db name (is_store_with (λ _. true)) make) (λ q r.
      elim (is_same_name q db && is_same_name r name) as (λ b. (is_same_name q db && is_same_name r name) ≡ b → option_map (with_kept (store_at left q r)) (store_at last q r) ≡ option_map (with_kept (store_at aside q r)) (store_at items q r)) [
        | true ↦ λ t. let same = both_same q db r name t in
            subst (λ (n : Name). option_map (with_kept (store_at left n r)) (store_at last n r) ≡ option_map (with_kept (store_at aside n r)) (store_at items n r)) (sym same.0)
            (subst (λ (n : Name). option_map (with_kept (store_at left db n)) (store_at last db n) ≡ option_map (with_kept (store_at aside db n)) (store_at items db n)) (sym same.1)
            (ap (λ k. option_map (with_kept k) (store_at last db name)) (aside_has db (finite.remove stores name) db name ∙ kept_no_more (is_same_name db db) refl)
            ∙ none_kept (store_at last db name)
            ∙ store_here items db name (is_store_with (λ _. true)) make ∙ made_there name (with_indexes kept.info.indexes) (finite.get items db)
            ∙ back_here (store_at items db name)
            ∙ ap (λ k. option_map (with_kept k) (store_at items db name)) (sym (aside_has db stores db name ∙ ap (λ b. cond b (finite.get stores name) None) (itself db) ∙ there))))
        | false ↦ λ t.
            ap (λ k. option_map (with_kept k) (store_at last q r)) (aside_has db (finite.remove stores name) q r ∙ other_kept (is_same_name q db) q r refl t ∙ sym (aside_has db stores q r))
            ∙ ap (option_map (with_kept (store_at aside q r))) (store_elsewhere items db name (is_store_with (λ _. true)) make q r t)
      ] refl)

  pub meant_here : store_at (meant items (aside_of db stores)) db name ≡ option_map (with_indexes kept.info.indexes) (store_at items db name)
  meant_here =
      store_meant items (aside_of db stores) db name
      ∙ ap (λ k. option_map (with_kept k) (store_at items db name)) (aside_has db stores db name ∙ ap (λ b. cond b (finite.get stores name) None) (itself db) ∙ there)
      ∙ sym (back_here (store_at items db name))

-- ---- one database
module _ (items aside : Items) (db : Name) (d : Database) (there : finite.get aside db ≡ Some d) where
  only_here : (q r : Name) → is_same_name q db ≡ true → store_at aside q r ≡ finite.get d.stores r
  only_here q r e = ap (store_in r) (ap (finite.get aside) (same_name q db e) ∙ there)

  left_in : (b : Bool) (o : Option Database) (r : Name) → store_in r (cond b None o) ≡ cond b None (store_in r o)
  left_in true o r = refl
  left_in false o r = refl

  left_has : (q r : Name) → store_at (finite.remove aside db) q r ≡ cond (is_same_name q db) None (store_at aside q r)
  left_has q r = ap (store_in r) (finite.get-remove names_total aside db q) ∙ left_in (is_same_name q db) (finite.get aside q) r

  one_of_both : (b : Bool) (q r : Name) → is_same_name q db ≡ b → (o : Option Store) → option_map (with_kept (cond b None (store_at aside q r))) (option_map (with_kept (cond b (finite.get d.stores r) None)) o) ≡ option_map (with_kept (store_at aside q r)) o
  one_of_both true q r e o = none_kept (option_map (with_kept (finite.get d.stores r)) o) ∙ ap (λ k. option_map (with_kept k) o) (sym (only_here q r e))
  one_of_both false q r e o = ap (option_map (with_kept (store_at aside q r))) (none_kept o)

  database_back : meant (meant items (aside_of db d.stores)) (finite.remove aside db) ≡ meant items aside
  database_back = same_meant items aside (meant items (aside_of db d.stores)) (finite.remove aside db) (version_meant items (aside_of db d.stores)) (λ q r.
      ap (λ k. option_map (with_kept k) (store_at (meant items (aside_of db d.stores)) q r)) (left_has q r)
      ∙ ap (option_map (with_kept (cond (is_same_name q db) None (store_at aside q r)))) (store_meant items (aside_of db d.stores) q r ∙ ap (λ k. option_map (with_kept k) (store_at items q r)) (aside_has db d.stores q r))
      ∙ one_of_both (is_same_name q db) q r refl (store_at items q r))

  -- what its stores are meant to be
  meant_in_database : (r : Name) → store_at (meant items aside) db r ≡ store_at (meant items (aside_of db d.stores)) db r
  meant_in_database r =
      store_meant items aside db r
      ∙ ap (λ k. option_map (with_kept k) (store_at items db r)) (only_here db r (itself db) ∙ sym (aside_has db d.stores db r ∙ ap (λ b. cond b (finite.get d.stores r) None) (itself db)))
      ∙ sym (store_meant items (aside_of db d.stores) db r)

-- of the last database, these stores were kept aside
found_with : (o : Option Database) (stores : Stores) → option_map (λ d. d.stores) o ≡ Some stores → (d : Database) × (o ≡ Some d) × (d.stores ≡ stores)
found_with None stores e = absurd cc
found_with (Some d) stores e = (d, refl, same_Some d.stores stores e)

module _ (items aside : Items) (db : Name) (stores : Stores) (there : option_map (λ d. d.stores) (finite.get aside db) ≡ Some stores) where
  pub last_back : (last left : Items) → left ≡ finite.remove aside db → last ≡ meant items (aside_of db stores) → meant last left ≡ meant items aside
  last_back last left gone is =
      let d = found_with (finite.get aside db) stores there in
      (λ i. meant ((is ∙ ap (λ s. meant items (aside_of db s)) (sym d.2)) i) (gone i)) ∙ database_back items aside db d.0 d.1

  pub last_broken : HasBrokenStore db (meant items (aside_of db stores)) → are_unbroken (meant items aside) ≡ false
  last_broken broken =
      let d = found_with (finite.get aside db) stores there in
      broken_there (meant items aside) db broken.name (ap breaks (meant_in_database items aside db d.0 d.1 broken.name ∙ ap (λ s. store_at (meant items (aside_of db s)) db broken.name) d.2) ∙ broken.broken)

pub meant_empty : (items aside : Items) → finite.len aside ≡ 0 → meant items aside ≡ items
meant_empty items aside e = meant_nothing items aside (λ q r. ap (λ m. store_at m q r) (finite.empty_of_len aside e) ∙ nothing_kept q r)
