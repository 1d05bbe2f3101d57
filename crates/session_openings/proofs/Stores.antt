-- The definitions of stores, in the order of their names.
--     info_there            the definition of the store of an entry
--     AreNamed, named_in    each store stands under its own name
--     may_push              their names rise, up to the store at a place
--     info_found            the definition that a name finds in a schema is that of the store that it finds
use Rattle.std.proofs.Common.{◌≡◌, ℕ, zero, suc, ◌+◌, ◌&&◌, Bool, true, false, cond, T, if◌then◌else◌, List, [], ◌∷◌, ◌++◌, map, take, Option, Some, option_map, refl, sym, ◌∙◌, ap, subst}
use Rattle.std.proofs.lemmas.List.{map_push}
use Rattle.std.specs.Cmp.{eq_by_cmp_equiv}
use Rattle.std.specs.FinMap as finite
use Rattle.std.specs.FinMap.{find, is_sorted}
use Rattle.std.specs.FinMap.Entries.{below_all}
use Rattle.std.specs.List.{AllByRecursion, slice_get}
use Rattle.std.specs.Ordering.{is_lt}
use Rattle.clone_values.specs.Names.{is_rising, rises_after}
use Rattle.idb_schema.specs.declared.definitions.StoreInfo.{StoreInfo}
use Rattle.idb_schema.specs.Definitions.{store_names}
use Rattle.idb_schema.specs.Schemas.{entries_from}
use Rattle.sorted_table.proofs.Laws.{first, second}
use Rattle.object_stores.specs.Store.{Store}
use Rattle.item_changes.specs.Items.{Name, name_cmp, is_same_name}
use Rattle.item_changes.proofs.Laws.{names_total, one_name}
use Rattle.idb_databases.specs.Stores.{Stores, AreStores}
use Rattle.machine_laws.specs.Keeping.{info_named}
use Rattle.session_databases.proofs.Laws.{all_entries}
use Rattle.session_openings.proofs.Listing.{listed_more}

abbrev pub AreNamed : List (Name × Store) → Type 0
AreNamed es = AllByRecursion (λ e. e.1.info.name ≡ e.0) es

abbrev pub info_there : Name × Store → StoreInfo
info_there e = e.1.info

pub named_in : (stores : Stores) → AreStores stores → AreNamed (finite.entries stores)
named_in stores sound = all_entries name_cmp names_total one_name (λ name x. x.info.name ≡ name) stores (λ name x at. (sound name x at).0)

-- ---- names that rise
holds : (b : Bool) → T b → b ≡ true
holds true h = refl
holds false h = absurd h

both_true : (a b : Bool) → a ≡ true → b ≡ true → (a && b) ≡ true
both_true a b p q = rw p q

rises_behind : (name : Name) (es : List (Name × Store)) (count : ℕ) → AreNamed es → T (below_all name_cmp name es) → T (is_sorted name_cmp es) → rises_after name (store_names (map info_there (take count es))) ≡ true
rises_behind name es zero named below sorted = refl
rises_behind name [] (suc count) named below sorted = refl
rises_behind name (e ∷ es) (suc count) named below sorted =
    both_true _ _
    (ap (λ n. is_lt (name_cmp name n)) named.0 ∙ holds _ (first _ _ below))
    (subst (λ n. rises_after n (store_names (map info_there (take count es))) ≡ true) (sym named.0) (rises_behind e.0 es count named.1 (first _ _ sorted) (second _ _ sorted)))

rises : (es : List (Name × Store)) (count : ℕ) → AreNamed es → T (is_sorted name_cmp es) → is_rising (store_names (map info_there (take count es))) ≡ true
rises es zero named sorted = refl
rises [] (suc count) named sorted = refl
rises (e ∷ es) (suc count) named sorted = subst (λ n. rises_after n (store_names (map info_there (take count es))) ≡ true) (sym named.0) (rises_behind e.0 es count named.1 (first _ _ sorted) (second _ _ sorted))

pub may_push : (stores : Stores) (place : ℕ) (x : Name × Store) (infos : List StoreInfo) (info : StoreInfo) → AreStores stores → slice_get (finite.entries stores) place ≡ Some x → infos ≡ map info_there (take place (finite.entries stores)) → info ≡ x.1.info
    → is_rising (store_names infos ++ info.name ∷ []) ≡ true
may_push stores place x infos info sound at so_far one =
    ap is_rising (sym (map_push (λ (i : StoreInfo). i.name) infos info) ∙ ap store_names (listed_more info_there (finite.entries stores) place x infos (infos ++ info ∷ []) info at so_far one refl))
    ∙ rises (finite.entries stores) (place + 1) (named_in stores sound) (finite.entries_sorted stores)

-- ---- what a name finds
picked : (b : Bool) (x : Store) (there : Option Store) → (if b then Some x.info else option_map (λ s. s.info) there) ≡ option_map (λ s. s.info) (cond b (Some x) there)
picked true x there = refl
picked false x there = refl

pub info_found : (id : ℕ) (es : List (Name × Store)) (name : Name) → AreNamed es → info_named (entries_from id (map info_there es)) name ≡ option_map (λ s. s.info) (find name_cmp name es)
info_found id [] name named = refl
info_found id (e ∷ es) name named =
    ap (λ there. if is_same_name e.1.info.name name then Some e.1.info else there) (info_found (id + 1) es name named.1)
    ∙ ap (λ n. if is_same_name n name then Some e.1.info else option_map (λ (s : Store). s.info) (find name_cmp name es)) named.0
    ∙ ap (λ b. if b then Some e.1.info else option_map (λ (s : Store). s.info) (find name_cmp name es)) ((eq_by_cmp_equiv names_total).symm e.0 name)
    ∙ picked (is_same_name name e.0) e.1 (find name_cmp name es)
