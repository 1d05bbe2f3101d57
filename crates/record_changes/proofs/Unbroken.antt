-- Where no unique index has two rows of one key.
--     broken_there          a store that is broken is found among all
--     standing              a store that stands in databases is as it should be
--     all_whole             databases as they should be are unbroken
use Rattle.std.proofs.Common.{◌≡◌, ℕ, zero, suc, Bool, true, false, not, ◌&&◌, cond, List, [], ◌∷◌, map, slice_get, Option, Some, None, refl, sym, ap, ◌∙◌}
use Rattle.std.proofs.lemmas.Option.{same_Some}
use Rattle.std.specs.List.{list_all}
use Rattle.std.specs.FinMap as finite
use Rattle.std.specs.FinMap.{FinMap, find}
use Rattle.sorted_table.proofs.Laws.{stands, found_of}
use Rattle.object_stores.specs.Store.{Store}
use Rattle.item_changes.specs.Items.{Name, name_cmp, is_same_name, Database, Items, store_at}
use Rattle.item_changes.proofs.Laws.{names_total}
use Rattle.idb_databases.specs.Items.{AreItems}
use Rattle.idb_databases.specs.Stores.{IsStoreNamed}
use Rattle.store_changes.specs.Making.{breaks}
use Rattle.log_history.specs.Replayed.{keeps_unique, stores_keep_unique, are_unbroken}
use Rattle.record_changes.proofs.Maps.{store_in}

-- what stands at a place is found by its name
pub entry_found : {X : Type 0} (m : FinMap name_cmp X) (i : ℕ) (e : Name × X) → slice_get (finite.entries m) i ≡ Some e → finite.get m e.0 ≡ Some e.1
entry_found m i e at =
    finite.get-entries m e.0
    ∙ found_of names_total (finite.entries m) i e.0 e.1 (stands names_total (finite.entries m) i e.0 e.1 (finite.entries_sorted m) at) at

module _ {X : Type 0} (test : X → Bool) where
  one_fails : (q : Name) (es : List (Name × X)) (x : X) → find name_cmp q es ≡ Some x → test x ≡ false → list_all test (map (λ e. e.1) es) ≡ false
  one_fails q [] x e fails = cc
  one_fails q (d ∷ es) x e fails =
      elim (is_same_name q d.0) as (λ b. cond b (Some d.1) (find name_cmp q es) ≡ Some x → (test d.1 && list_all test (map (λ e. e.1) es)) ≡ false) [
        | true ↦ λ f. ap (λ b. b && list_all test (map (λ e. e.1) es)) (ap test (same_Some d.1 x f) ∙ fails)
        | false ↦ λ f. ap (λ b. test d.1 && b) (one_fails q es x f fails) ∙ never (test d.1)
      ] e
    where
      never : (b : Bool) → (b && false) ≡ false
      never true = refl
      never false = refl

  pub value_fails : (m : FinMap name_cmp X) (q : Name) (x : X) → finite.get m q ≡ Some x → test x ≡ false → list_all test (finite.values m) ≡ false
  value_fails m q x e fails = one_fails q (finite.entries m) x (sym (finite.get-entries m q) ∙ e) fails

  all_pass : (es : List (Name × X)) → ((i : ℕ) (e : Name × X) → slice_get es i ≡ Some e → test e.1 ≡ true) → list_all test (map (λ e. e.1) es) ≡ true
  all_pass [] each = refl
  all_pass (d ∷ es) each = ap (λ b. b && list_all test (map (λ e. e.1) es)) (each zero d refl) ∙ all_pass es (λ i e at. each (suc i) e at)

  pub values_pass : (m : FinMap name_cmp X) → ((q : Name) (x : X) → finite.get m q ≡ Some x → test x ≡ true) → list_all test (finite.values m) ≡ true
  values_pass m each = all_pass (finite.entries m) (λ i e at. each e.0 e.1 (entry_found m i e at))

stands_in : (items : Items) (db name : Name) (there : Option Database) (x : Store) → AreItems items → finite.get items db ≡ there → store_in name there ≡ Some x → IsStoreNamed name x
stands_in items db name None x sound at e = absurd cc
stands_in items db name (Some d) x sound at e = (sound db d at).stores name x e

pub standing : (items : Items) (db name : Name) (x : Store) → AreItems items → store_at items db name ≡ Some x → IsStoreNamed name x
standing items db name x sound e = stands_in items db name (finite.get items db) x sound refl e

broken_in : (items : Items) (db name : Name) (there : Option Database) → finite.get items db ≡ there → breaks (store_in name there) ≡ true → are_unbroken items ≡ false
broken_in items db name None at e = absurd cc
broken_in items db name (Some d) at e =
    elim (finite.get d.stores name) as (λ o. finite.get d.stores name ≡ o → breaks o ≡ true → are_unbroken items ≡ false) [
      | None ↦ λ here f. absurd cc
      | Some x ↦ λ here f. value_fails stores_keep_unique items db d at (value_fails keeps_unique d.stores name x here (ap not f))
    ] refl e

pub broken_there : (items : Items) (db name : Name) → breaks (store_at items db name) ≡ true → are_unbroken items ≡ false
broken_there items db name e = broken_in items db name (finite.get items db) refl e

pub all_whole : (items : Items) → AreItems items → are_unbroken items ≡ true
all_whole items sound = values_pass stores_keep_unique items (λ db d at. values_pass keeps_unique d.stores (λ name x there. ap not ((sound db d at).stores name x there).1.content.unique))
