-- Each operation as changes of single records.
--     stored_changes        storing is the generator's number, and then the record
--     deleted_changes       deleting a range is removing each of its keys in order
--     cleared_changes       clearing is removing all
use Rattle.std.specs.Prelude.{◌≡◌, Bool, true, false, cond, not, ◌||◌, List, [], ◌∷◌, map, if◌then◌else◌, Option, Some, None, refl}
use Rattle.std.proofs.Common.{sym, ap, ◌∙◌}
use Rattle.std.specs.List.{filter, list_any}
use Rattle.std.specs.Ordering.{is_eq}
use Rattle.std.specs.Cmp.{Equal-is}
use Rattle.std.specs.FinMap as finite
use Rattle.std.specs.FinMap.{get, get-remove, get-retain_keys, get-entries, get-empty, find, same_map}
use Rattle.std.proofs.lemmas.Bool.{true≢false}
use Rattle.clone_values.specs.Tree.{Tree}
use Rattle.clone_values.specs.KeyTree.{KeyTree}
use Rattle.key_order.specs.KeyOrder.{key_cmp}
use Rattle.key_order.proofs.Laws.{key_cmp_total, key_cmp_same}
use Rattle.idb_keys.specs.KeyRange.{Range, includes}
use Rattle.idb_keys.specs.declared.names.Over.TheVariants.{Store as itself}
use Rattle.index_tables.specs.Rows.{RowTree}
use Rattle.index_tables.specs.RecordRows.{Records}
use Rattle.store_contents.specs.Reading.{selected, primary_keys}
use Rattle.store_contents.specs.Store.{Store}
use Rattle.store_contents.specs.Changed.{store_with_record, store_without_record, without_records, without_range, outside_range, cleared, with_current}
use Rattle.store_contents.specs.Showing.{shown_in}
use Rattle.store_contents.specs.Storing.{Entry, entry_for, Outcome, refused, stored, outcome_of, stored_as, is_refused, with_entry}

-- ---- storing
by_test : (store new : Store) (k : KeyTree) (b : Bool) (x : Entry) → ◌≡◌ {A = Outcome} (if b then refused else stored x.key (with_entry store x)) (stored k new) → (k ≡ x.key) × (new ≡ with_entry store x)
by_test store new k true x e = cc
by_test store new k false x e = (cc, cc)

by_entry : (store new : Store) (add : Bool) (k : KeyTree) (o : Option Entry) → outcome_of store add o ≡ stored k new → (x : Entry) × (o ≡ Some x) × (k ≡ x.key) × (new ≡ with_entry store x)
by_entry store new add k None e = cc
by_entry store new add k (Some x) e = let parts = by_test store new k (is_refused store.info.indexes store.records add x.key x.value) x e in (x, refl, parts.0, parts.1)

pub stored_changes : (store new : Store) (value : Tree) (key : Option KeyTree) (add : Bool) (k : KeyTree) → stored_as store value key add ≡ stored k new
    → (x : Entry) × (entry_for store.info.path store.info.auto store.current value key ≡ Some x) × (k ≡ x.key) × (new ≡ store_with_record (with_current store x.current) x.key x.value)
stored_changes store new value key add k e = by_entry store new add k (entry_for store.info.path store.info.auto store.current value key) e

-- ---- removing several
abbrev is_one : KeyTree → List KeyTree → Bool
is_one q ks = list_any (λ k. is_eq (key_cmp q k)) ks

skips : (a b : Bool) (o : Option Tree) → cond b None (cond a None o) ≡ cond (a || b) None o
skips true true o = refl
skips true false o = refl
skips false b o = refl

left_of : (store : Store) (ks : List KeyTree) (q : KeyTree) → get (without_records store ks).records q ≡ cond (is_one q ks) None (get store.records q)
left_of store [] q = refl
left_of store (k ∷ ks) q =
    left_of (store_without_record store k) ks q
    ∙ ap (cond (is_one q ks) None) (get-remove key_cmp_total store.records k q)
    ∙ skips (is_eq (key_cmp q k)) (is_one q ks) (get store.records q)

same_rest : (store : Store) (ks : List KeyTree) → without_records store ks ≡ record store { records = (without_records store ks).records }
same_rest store [] = refl
same_rest store (k ∷ ks) = same_rest (store_without_record store k) ks

-- ---- deleting a range
abbrev own : KeyTree × Tree → RowTree
own e = (e.0, e.0)

abbrev inside : Range → List (KeyTree × Tree) → List KeyTree
inside range es = primary_keys (filter (λ (m : RowTree). includes range m.0) (map own es))

same_key : (q k : KeyTree) → is_eq (key_cmp q k) ≡ true → q ≡ k
same_key q k t = key_cmp_same q k ((Equal-is _).0 t)

-- a key outside is none of those
none_outside : (range : Range) (q : KeyTree) → includes range q ≡ false → (es : List (KeyTree × Tree)) → is_one q (inside range es) ≡ false
none_outside range q out [] = refl
none_outside range q out (e ∷ es) =
    elim (includes range e.0) as (λ b. includes range e.0 ≡ b → is_one q (primary_keys (cond b (own e ∷ filter (λ (m : RowTree). includes range m.0) (map own es)) (filter (λ (m : RowTree). includes range m.0) (map own es)))) ≡ false) [
      | true ↦ λ t. elim (is_eq (key_cmp q e.0)) as (λ b. is_eq (key_cmp q e.0) ≡ b → (b || is_one q (inside range es)) ≡ false) [
        | true ↦ λ tie. absurd (true≢false (sym t ∙ ap (includes range) (sym (same_key q e.0 tie)) ∙ out))
        | false ↦ λ tie. none_outside range q out es
      ] refl
      | false ↦ λ t. none_outside range q out es
    ] refl

-- a key inside that is none of those has no record
none_left : (range : Range) (q : KeyTree) → includes range q ≡ true → (es : List (KeyTree × Tree)) → is_one q (inside range es) ≡ false → find key_cmp q es ≡ None
none_left range q within [] none = refl
none_left range q within (e ∷ es) none =
    elim (includes range e.0) as (λ b. includes range e.0 ≡ b → is_one q (primary_keys (cond b (own e ∷ filter (λ (m : RowTree). includes range m.0) (map own es)) (filter (λ (m : RowTree). includes range m.0) (map own es)))) ≡ false → cond (is_eq (key_cmp q e.0)) (Some e.1) (find key_cmp q es) ≡ None) [
      | true ↦ λ t no. elim (is_eq (key_cmp q e.0)) as (λ b. (b || is_one q (inside range es)) ≡ false → cond b (Some e.1) (find key_cmp q es) ≡ None) [
        | true ↦ λ h. cc
        | false ↦ λ h. none_left range q within es h
      ] no
      | false ↦ λ t no. elim (is_eq (key_cmp q e.0)) as (λ b. is_eq (key_cmp q e.0) ≡ b → cond b (Some e.1) (find key_cmp q es) ≡ None) [
        | true ↦ λ tie. absurd (true≢false (sym within ∙ ap (includes range) (same_key q e.0 tie) ∙ t))
        | false ↦ λ tie. none_left range q within es no
      ] refl
    ] refl none

kept_or_none : (m : Records) (q : KeyTree) (b : Bool) → (b ≡ false → get m q ≡ None) → cond b None (get m q) ≡ None
kept_or_none m q true h = refl
kept_or_none m q false h = h refl

range_removed : (store : Store) (range : Range) → (without_records store (inside range (finite.entries store.records))).records ≡ outside_range store.records range
range_removed store range = same_map key_cmp_total key_cmp_same _ _ (λ q.
    left_of store (inside range (finite.entries store.records)) q
    ∙ elim (includes range q) as (λ b. includes range q ≡ b → cond (is_one q (inside range (finite.entries store.records))) None (get store.records q) ≡ cond (not b) (get store.records q) None) [
      | true ↦ λ t. kept_or_none store.records q _ (λ none. get-entries store.records q ∙ none_left range q t (finite.entries store.records) none)
      | false ↦ λ t. ap (λ b. cond b None (get store.records q)) (none_outside range q t (finite.entries store.records))
    ] refl
    ∙ sym (get-retain_keys store.records (λ key. not (includes range key)) q (λ x tie. ap (λ k. not (includes range k)) (sym (key_cmp_same q x tie)))))

pub deleted_changes : (store : Store) (range : Range) → without_range store range ≡ without_records store (primary_keys (selected range (shown_in store itself)))
deleted_changes store range =
    sym (same_rest store (inside range (finite.entries store.records)) ∙ ap (λ m. record store { records = m }) (range_removed store range))

-- ---- clearing
none_had : (q : KeyTree) (es : List (KeyTree × Tree)) → is_one q (map (λ (e : KeyTree × Tree). e.0) es) ≡ false → find key_cmp q es ≡ None
none_had q [] none = refl
none_had q (e ∷ es) none =
    elim (is_eq (key_cmp q e.0)) as (λ b. (b || is_one q (map (λ (e : KeyTree × Tree). e.0) es)) ≡ false → cond b (Some e.1) (find key_cmp q es) ≡ None) [
      | true ↦ λ h. cc
      | false ↦ λ h. none_had q es h
    ] none

pub cleared_changes : (store : Store) → cleared store ≡ without_records store (finite.keys store.records)
cleared_changes store =
    sym (same_rest store (finite.keys store.records) ∙ ap (λ m. record store { records = m }) (same_map key_cmp_total key_cmp_same _ _ (λ q.
    left_of store (finite.keys store.records) q
    ∙ kept_or_none store.records q _ (λ none. get-entries store.records q ∙ none_had q (finite.entries store.records) none)
    ∙ sym (get-empty key_cmp q))))
