-- The schemas of databases show them.
--     shows_items           they are those of the databases
--     are_openable          no two have one name, and each has a version from 1 on
--     are_few               none has more stores than it may
use Rattle.std.proofs.Common.{◌≡◌, ℕ, ◌+◌, ◌≤◌, Bool, true, false, cond, nat_eq, T, List, [], ◌∷◌, map, length, Option, Some, None, option_map, is_some, refl, sym, ◌∙◌, ap, subst, arith}
use Rattle.std.proofs.lemmas.Bool.{and_parts, leb-true}
use Rattle.std.proofs.lemmas.List.{length-map}
use Rattle.std.proofs.lemmas.Option.{none-some}
use Rattle.std.specs.Cmp.{eq_by_cmp_equiv}
use Rattle.std.specs.Cmp.Lexicographic.{pointwise, texts_ties}
use Rattle.std.specs.FinMap as finite
use Rattle.std.specs.FinMap.{is_sorted}
use Rattle.std.specs.FinMap.Entries.{below_all}
use Rattle.std.specs.List as list
use Rattle.std.specs.List.{AllByRecursion, list_all}
use Rattle.std.specs.Ordering.{is_eq}
use Rattle.idb_schema.specs.declared.definitions.StoreInfo.{StoreInfo}
use Rattle.idb_schema.specs.Schemas.{SchemaData, IsSchema, entries_from}
use Rattle.sorted_table.proofs.Laws.{first, second, is_less}
use Rattle.object_stores.specs.Store.{Store}
use Rattle.item_changes.specs.Items.{Name, name_cmp, is_same_name, Database, Items}
use Rattle.item_changes.proofs.Laws.{names_total, one_name, same_name}
use Rattle.idb_databases.specs.Items.{AreItems, fits_stores, is_within_limits}
use Rattle.idb_databases.specs.Stores.{AreStores}
use Rattle.idb_databases.proofs.Laws.{all_found}
use Rattle.list_machine.specs.declared.limits.TheConstants.{GREATEST_STORE_COUNT}
use Rattle.machine_laws.specs.Keeping.{Shows, info_named}
use Rattle.desk_facts.specs.Databases.{AreOpenable, is_schema_named}
use Rattle.legal_sessions.specs.Histories.{has_schema_name, ShowsItems}
use Rattle.session_facts.specs.Fitting.{AreFew}
use Rattle.session_databases.proofs.Laws.{all_entries}
use Rattle.session_openings.specs.Opened.{infos_in, opened_schema}
use Rattle.session_openings.proofs.Listing.{all_made, all_listed}
use Rattle.session_openings.proofs.Stores.{named_in, info_found}

-- ---- one database
some_of : (there : Option Store) (info : StoreInfo) → option_map (λ s. s.info) there ≡ Some info → is_some there ≡ true
some_of None info e = absurd (none-some info e)
some_of (Some x) info e = refl

shown : (name : Name) (d : Database) → AreStores d.stores → Shows true (opened_schema (name, d)) (Some d)
shown name d sound = record {
  named = λ n x at. found n ∙ ap (option_map (λ (s : Store). s.info)) at;
  database = λ _. refl;
  all = λ _ n info there. some_of (finite.get d.stores n) info (sym (found n) ∙ there);
}
  where
    found : (n : Name) → info_named (opened_schema (name, d)).entries n ≡ option_map (λ s. s.info) (finite.get d.stores n)
    found n = info_found 0 (finite.entries d.stores) n (named_in d.stores sound) ∙ ap (option_map (λ (s : Store). s.info)) (sym (finite.get-entries d.stores n))

-- ---- the schema that a name finds
found_or : (b : Bool) (name : Name) (e : Name × Database) (there : Option Database) → (b ≡ true → e.0 ≡ name)
    → cond b (Some (opened_schema e)) (option_map (λ d. opened_schema (name, d)) there) ≡ option_map (λ d. opened_schema (name, d)) (cond b (Some e.1) there)
found_or true name e there same = ap (λ n. Some (opened_schema (n, e.1))) (same refl)
found_or false name e there same = refl

schema_found : (es : List (Name × Database)) (name : Name) → list.find (has_schema_name name) (map opened_schema es) ≡ option_map (λ d. opened_schema (name, d)) (finite.find name_cmp name es)
schema_found [] name = refl
schema_found (e ∷ es) name =
    ap (cond (pointwise nat_eq e.0 name) (Some (opened_schema e))) (schema_found es name)
    ∙ ap (λ b. cond b (Some (opened_schema e)) (option_map (λ (d : Database). opened_schema (name, d)) (finite.find name_cmp name es))) (texts_ties e.0 name ∙ (eq_by_cmp_equiv names_total).symm e.0 name)
    ∙ found_or (is_same_name name e.0) name e (finite.find name_cmp name es) (λ same. sym (same_name name e.0 same))

names_made : (es : List (Name × Database)) → map (λ (s : SchemaData). s.name) (map opened_schema es) ≡ map (λ (e : Name × Database). e.0) es
names_made [] = refl
names_made (e ∷ es) = ap (λ ns. e.0 ∷ ns) (names_made es)

pub shows_items : (items : Items) (schemas : List SchemaData) → schemas ≡ map opened_schema (finite.entries items) → AllByRecursion IsSchema schemas → AreItems items → ShowsItems schemas items
shows_items items schemas made valid sound = subst (λ ss. ShowsItems ss items) (sym made) (record {
  each = λ name d at. (
    opened_schema (name, d),
    schema_found (finite.entries items) name ∙ ap (option_map (λ (x : Database). opened_schema (name, x))) (sym (finite.get-entries items name) ∙ at),
    record {
      sound = all_found name_cmp one_name (λ n x. IsSchema (opened_schema (n, x))) name (finite.entries items) d all_valid (sym (finite.get-entries items name) ∙ at);
      version = refl;
      stores = shown name d (sound name d at).stores;
    },
  );
  only = all_made opened_schema (λ s. is_some (finite.get items s.name) ≡ true) (finite.entries items) (all_entries name_cmp names_total one_name (λ name d. is_some (finite.get items name) ≡ true) items (λ name d at. ap is_some at));
  names = names_made (finite.entries items);
})
  where
    all_valid : AllByRecursion (λ e. IsSchema (opened_schema (e.0, e.1))) (finite.entries items)
    all_valid = all_listed opened_schema IsSchema (finite.entries items) (subst (AllByRecursion IsSchema) made valid)

-- ---- names and versions
apart_from : (e : Name × Database) (es : List (Name × Database)) → T (below_all name_cmp e.0 es) → AllByRecursion (λ t. is_schema_named t.name (opened_schema e) ≡ false) (map opened_schema es)
apart_from e [] below = tt
apart_from e (f ∷ es) below = (texts_ties e.0 f.0 ∙ ap is_eq (is_less _ (first _ _ below)), apart_from e es (second _ _ below))

all_openable : (es : List (Name × Database)) → T (is_sorted name_cmp es) → AllByRecursion (λ e. 1 ≤ e.1.version) es → AreOpenable (map opened_schema es)
all_openable [] sorted all = tt
all_openable (e ∷ es) sorted all = (all.0, apart_from e es (first _ _ sorted), all_openable es (second _ _ sorted) all.1)

pub are_openable : (items : Items) (schemas : List SchemaData) → schemas ≡ map opened_schema (finite.entries items) → AreItems items → AreOpenable schemas
are_openable items schemas made sound = subst AreOpenable (sym made) (all_openable (finite.entries items) (finite.entries_sorted items)
    (all_entries name_cmp names_total one_name (λ name d. 1 ≤ d.version) items (λ name d at. (sound name d at).version.0)))

-- ---- counts
count_from : (id : ℕ) (infos : List StoreInfo) → length (entries_from id infos) ≡ length infos
count_from id [] = refl
count_from id (info ∷ infos) = let rest = count_from (id + 1) infos in omega (arith, rest)

few_stores : (e : Name × Database) → fits_stores e.1 ≡ true → length (opened_schema e).entries ≤ GREATEST_STORE_COUNT
few_stores e fits = omega (arith, leb-true _ _ fits, count_from 0 (infos_in e.1.stores), length-map (finite.entries e.1.stores) (λ (s : Name × Store). s.1.info), finite.len-entries e.1.stores)

all_few : (es : List (Name × Database)) → list_all fits_stores (map (λ e. e.1) es) ≡ true → AreFew (map opened_schema es)
all_few [] fit = tt
all_few (e ∷ es) fit = let parts = and_parts (fits_stores e.1) (list_all fits_stores (map (λ (x : Name × Database). x.1) es)) fit in (few_stores e parts.0, all_few es parts.1)

pub are_few : (items : Items) (schemas : List SchemaData) → schemas ≡ map opened_schema (finite.entries items) → is_within_limits items ≡ true → AreFew schemas
are_few items schemas made within = subst AreFew (sym made) (all_few (finite.entries items) (and_parts _ _ within).1)
