-- The names of a schema once a call is made.
--     new_store, dropped_store, new_index, dropped_index      the names that come and go
--     stores_stay_with, stores_stay_without      the names of the stores where an index comes or goes
--     others_with, others_without      and the indexes of the other stores
use Rattle.std.proofs.Common.{◌≡◌, ◌≢◌, ℕ, zero, suc, ◌<◌, Bool, true, false, nat_eq, if◌then◌else◌, List, [], ◌∷◌, ◌++◌, map, length, take, drop, slice_get, Option, Some, None, option_map, unwrap_or, arith, refl, sym, ◌∙◌, ap}
use Rattle.std.specs.Prelude.{not, ◌&&◌, ◌||◌, ◌==◌, is_some}
use Rattle.std.specs.Option.{option_and_then}
use Rattle.std.specs.List.{position, AllByRecursion}
use Rattle.std.specs.Ordering.{nat_cmp, is_lt}
use Rattle.std.specs.Cmp.Lexicographic.{slice_cmp, pointwise}
use Rattle.std.proofs.lemmas.Bool.{eqb-true}
use Rattle.std.proofs.lemmas.List.Quantifiers.{position-Some}
use Rattle.std.proofs.lemmas.Option.{slice_get-get_or}
use Rattle.clone_values.specs.Names.{is_rising}
use Rattle.idb_schema.specs.declared.entries.StoreEntry.{StoreEntry}
use Rattle.idb_schema.specs.declared.definitions.IndexInfo.{IndexInfo}
use Rattle.idb_schema.specs.declared.definitions.StoreInfo.{StoreInfo}
use Rattle.idb_schema.specs.declared.identities.StoreId.{StoreId}
use Rattle.idb_schema.specs.Definitions.{store_names, index_names, store_named, index_named, has_name, are_distinct, is_store_info, IsStoreInfo}
use Rattle.idb_schema.specs.Schemas.{SchemaData, IsSchema, infos_of, entry_names, stores_of, indexes_at, place_of, put_in_order, change_at, with_store, without_store, with_index, without_index, entry_with_index, entry_without_index, new_entry}
use Rattle.idb_schema.specs.Sound.{AreSound}
use Rattle.version_upgrade.specs.Upgrades.{has_store, has_index, indexes_of, without_named, with_index_at, without_index_named}
use Rattle.version_upgrade.proofs.NamesLemmas.{some_named, rising_distinct, pushed_name, removed_name, absent_name}

-- ---- stores
or_swap : (a b c : Bool) → (a || (b || c)) ≡ (b || (a || c))
or_swap true true c = refl
or_swap true false c = refl
or_swap false b c = refl

put_name : (es : List StoreEntry) (e : StoreEntry) (o : List ℕ) → has_name o (entry_names (put_in_order es e)) ≡ (pointwise nat_eq e.info.name o || has_name o (entry_names es))
put_name [] e o = refl
put_name (d ∷ ds) e o =
    elim (is_lt (slice_cmp nat_cmp e.info.name d.info.name)) as (λ b. has_name o (entry_names (if b then e ∷ d ∷ ds else d ∷ put_in_order ds e)) ≡ (pointwise nat_eq e.info.name o || (pointwise nat_eq d.info.name o || has_name o (entry_names ds))))
    [ true ↦ refl | false ↦ ap (λ b. pointwise nat_eq d.info.name o || b) (put_name ds e o) ∙ or_swap (pointwise nat_eq d.info.name o) (pointwise nat_eq e.info.name o) _ ]

pub new_store : (schema : SchemaData) (info : StoreInfo) (o : List ℕ) → has_store (with_store schema info) o ≡ (pointwise nat_eq info.name o || has_store schema o)
new_store schema info o =
    some_named (λ s. s.name) (stores_of (with_store schema info)) o
    ∙ put_name schema.entries (new_entry info schema.next_id) o
    ∙ ap (λ b. pointwise nat_eq info.name o || b) (sym (some_named (λ s. s.name) (stores_of schema) o))

map-remove : {X Y : Type 0} (f : X → Y) (xs : List X) (i : ℕ) → map f (take i xs ++ drop (suc i) xs) ≡ take i (map f xs) ++ drop (suc i) (map f xs)
map-remove f [] zero = refl
map-remove f [] (suc i) = refl
map-remove f (x ∷ xs) zero = refl
map-remove f (x ∷ xs) (suc i) = ap (λ r. f x ∷ r) (map-remove f xs i)

names_removed : (es : List StoreEntry) (i : ℕ) → entry_names (take i es ++ drop (suc i) es) ≡ take i (entry_names es) ++ drop (suc i) (entry_names es)
names_removed es i = ap (λ is. map (λ s. s.name) is) (map-remove (λ e. e.info) es i) ∙ map-remove (λ s. s.name) (infos_of es) i

pub dropped_store : (schema : SchemaData) (n o : List ℕ) → is_rising (entry_names schema.entries) ≡ true
    → ((p : ℕ) → store_named (stores_of schema) n ≡ Some p → slice_get (store_names (stores_of schema)) p ≡ Some n)
    → (found : Option ℕ) → store_named (stores_of schema) n ≡ found
    → has_store (unwrap_or (option_map (without_store schema) found) schema) o ≡ (has_store schema o && not (pointwise nat_eq n o))
dropped_store schema n o rising stands None e =
    let names = some_named (λ s. s.name) (stores_of schema) in
    names o ∙ absent_name (store_names (stores_of schema)) n o (sym (names n) ∙ ap is_some e) ∙ ap (λ b. b && not (pointwise nat_eq n o)) (sym (names o))
dropped_store schema n o rising stands (Some p) e =
    some_named (λ s. s.name) (stores_of (without_store schema p)) o
    ∙ ap (λ ns. has_name o ns) (names_removed schema.entries p)
    ∙ removed_name (entry_names schema.entries) p n o (rising_distinct (entry_names schema.entries) rising) (stands p e)
    ∙ ap (λ b. b && not (pointwise nat_eq n o)) (sym (some_named (λ s. s.name) (stores_of schema) o))

-- ---- indexes
same_names : (f : StoreEntry → StoreEntry) → ((e : StoreEntry) → (f e).info.name ≡ e.info.name) → (es : List StoreEntry) (i : ℕ) → entry_names (change_at es i f) ≡ entry_names es
same_names f same [] i = refl
same_names f same (e ∷ es) zero = ap (λ n. n ∷ entry_names es) (same e)
same_names f same (e ∷ es) (suc i) = ap (λ r. e.info.name ∷ r) (same_names f same es i)

changed_names : (schema after : SchemaData) (o : List ℕ) → entry_names after.entries ≡ entry_names schema.entries → has_store after o ≡ has_store schema o
changed_names schema after o same =
    some_named (λ s. s.name) (stores_of after) o ∙ ap (λ ns. has_name o ns) same ∙ sym (some_named (λ s. s.name) (stores_of schema) o)

pub stores_stay_with : (schema : SchemaData) (index : IndexInfo) (o : List ℕ) (found : Option ℕ)
    → has_store (unwrap_or (option_map (λ place. with_index schema place index) found) schema) o ≡ has_store schema o
stores_stay_with schema index o None = refl
stores_stay_with schema index o (Some place) = changed_names schema (with_index schema place index) o (same_names (λ e. entry_with_index e index) (λ e. refl) schema.entries place)

stays_without : (schema : SchemaData) (place : ℕ) (o : List ℕ) (found : Option ℕ) → has_store (unwrap_or (option_map (without_index schema place) found) schema) o ≡ has_store schema o
stays_without schema place o None = refl
stays_without schema place o (Some at) = changed_names schema (without_index schema place at) o (same_names (λ e. entry_without_index e at) (λ e. refl) schema.entries place)

pub stores_stay_without : (schema : SchemaData) (n o : List ℕ) (found : Option ℕ)
    → has_store (unwrap_or (option_and_then (λ place. option_map (without_index schema place) (index_named (indexes_at schema place) n)) found) schema) o ≡ has_store schema o
stores_stay_without schema n o None = refl
stores_stay_without schema n o (Some place) = stays_without schema place o (index_named (indexes_at schema place) n)

changed_get : (es : List StoreEntry) (i : ℕ) (f : StoreEntry → StoreEntry) → slice_get (change_at es i f) i ≡ option_map f (slice_get es i)
changed_get [] i f = refl
changed_get (e ∷ es) zero f = refl
changed_get (e ∷ es) (suc i) f = changed_get es i f

stands_at : {X : Type 0} (test : X → Bool) (xs : List X) (i : ℕ) → position test xs ≡ Some i → (x : X) × (slice_get xs i ≡ Some x)
stands_at test [] i e = cc
stands_at test (x ∷ xs) i e = (_, slice_get-get_or (x ∷ xs) i x (position-Some test (x ∷ xs) i x e).0)

module _ (schema : SchemaData) (store : StoreId) (o : List ℕ) where
  -- by the place of the store
  there : (place : ℕ) → place_of schema store ≡ Some place → has_index schema store o ≡ has_name o (index_names (indexes_at schema place))
  there place at = ap (λ p. is_some (index_named (unwrap_or (option_map (indexes_at schema) p) []) o)) at ∙ some_named (λ i. i.name) (indexes_at schema place) o

  nowhere : place_of schema store ≡ None → has_index schema store o ≡ false
  nowhere at = ap (λ p. is_some (index_named (unwrap_or (option_map (indexes_at schema) p) []) o)) at

indexes_changed : (schema after : SchemaData) (place : ℕ) (f : StoreEntry → StoreEntry) (e : StoreEntry) → after.entries ≡ change_at schema.entries place f → slice_get schema.entries place ≡ Some e
    → indexes_at after place ≡ (f e).info.indexes
indexes_changed schema after place f e made at =
    ap (λ d. unwrap_or (option_map (λ e. e.info.indexes) d) []) (ap (λ es. slice_get es place) made ∙ changed_get schema.entries place f ∙ ap (λ d. option_map f d) at)

indexes_there : (schema : SchemaData) (place : ℕ) (e : StoreEntry) → slice_get schema.entries place ≡ Some e → indexes_at schema place ≡ e.info.indexes
indexes_there schema place e at = ap (λ d. unwrap_or (option_map (λ e. e.info.indexes) d) []) at

pushed_names : (is : List IndexInfo) (i : IndexInfo) → index_names (is ++ i ∷ []) ≡ index_names is ++ i.name ∷ []
pushed_names [] i = refl
pushed_names (j ∷ js) i = ap (λ ns. j.name ∷ ns) (pushed_names js i)

pub new_index : (schema : SchemaData) (store : StoreId) (index : IndexInfo) (o : List ℕ) → ((place : ℕ) → place_of (with_index schema place index) store ≡ place_of schema store)
    → (found : Option ℕ) → found ≢ None → place_of schema store ≡ found
    → has_index (unwrap_or (option_map (λ place. with_index schema place index) found) schema) store o ≡ (pointwise nat_eq index.name o || has_index schema store o)
new_index schema store index o keeps None some at = absurd (some refl)
new_index schema store index o keeps (Some place) some at =
    let e = stands_at _ schema.entries place at in
    let after = with_index schema place index in
    there after store o place (keeps place ∙ at)
    ∙ ap (λ is. has_name o (index_names is)) (indexes_changed schema after place (λ d. entry_with_index d index) e.0 refl e.1)
    ∙ ap (λ ns. has_name o ns) (pushed_names e.0.info.indexes index)
    ∙ pushed_name (index_names e.0.info.indexes) index.name o
    ∙ ap (λ b. pointwise nat_eq index.name o || b) (sym (there schema store o place at ∙ ap (λ is. has_name o (index_names is)) (indexes_there schema place e.0 e.1)))

both : (a b : Bool) → (a && b) ≡ true → (a ≡ true) × (b ≡ true)
both true b e = (refl, e)
both false b e = cc

sound_at : (es : List StoreEntry) (i : ℕ) (e : StoreEntry) → AreSound es → slice_get es i ≡ Some e → are_distinct (index_names e.info.indexes) ≡ true
sound_at [] i e sound at = cc
sound_at (d ∷ ds) zero e sound at = let same : d ≡ e = cc in ap (λ k. are_distinct (index_names k.info.indexes)) (sym same) ∙ (both _ _ sound.0).1
sound_at (d ∷ ds) (suc i) e sound at = sound_at ds i e sound.1 at

module _ (schema : SchemaData) (store : StoreId) (n o : List ℕ) (sound : AreSound schema.entries)
    (stands : (is : List IndexInfo) (p : ℕ) → index_named is n ≡ Some p → slice_get (index_names is) p ≡ Some n)
    (keeps : (place at : ℕ) → place_of (without_index schema place at) store ≡ place_of schema store) where
  lost : (place : ℕ) → place_of schema store ≡ Some place → (found : Option ℕ) → index_named (indexes_at schema place) n ≡ found
      → has_index (unwrap_or (option_map (without_index schema place) found) schema) store o ≡ (has_index schema store o && not (pointwise nat_eq n o))
  lost place at None e =
      let names = some_named (λ i. i.name) (indexes_at schema place) in
      there schema store o place at ∙ absent_name (index_names (indexes_at schema place)) n o (sym (names n) ∙ ap is_some e) ∙ ap (λ b. b && not (pointwise nat_eq n o)) (sym (there schema store o place at))
  lost place at (Some p) e =
      let d = stands_at _ schema.entries place at in
      let after = without_index schema place p in
      let is = indexes_there schema place d.0 d.1 in
      there after store o place (keeps place p ∙ at)
      ∙ ap (λ is. has_name o (index_names is)) (indexes_changed schema after place (λ k. entry_without_index k p) d.0 refl d.1)
      ∙ ap (λ ns. has_name o ns) (map-remove (λ i. i.name) d.0.info.indexes p)
      ∙ removed_name (index_names d.0.info.indexes) p n o (sound_at schema.entries place d.0 sound d.1) (stands d.0.info.indexes p (ap (λ k. index_named k n) (sym is) ∙ e))
      ∙ ap (λ b. b && not (pointwise nat_eq n o)) (sym (there schema store o place at ∙ ap (λ is. has_name o (index_names is)) is))

  pub dropped_index : (found : Option ℕ) → place_of schema store ≡ found
      → has_index (unwrap_or (option_and_then (λ place. option_map (without_index schema place) (index_named (indexes_at schema place) n)) found) schema) store o
      ≡ (has_index schema store o && not (pointwise nat_eq n o))
  dropped_index None at = let none = nowhere schema store o at in none ∙ ap (λ b. b && not (pointwise nat_eq n o)) (sym none)
  dropped_index (Some place) at = lost place at (index_named (indexes_at schema place) n) refl

-- ---- the other stores
changed_other : (es : List StoreEntry) (i j : ℕ) (f : StoreEntry → StoreEntry) → i ≢ j → slice_get (change_at es i f) j ≡ slice_get es j
changed_other [] i j f apart = refl
changed_other (e ∷ es) zero zero f apart = absurd (apart refl)
changed_other (e ∷ es) zero (suc j) f apart = refl
changed_other (e ∷ es) (suc i) zero f apart = refl
changed_other (e ∷ es) (suc i) (suc j) f apart = changed_other es i j f (λ same. apart (ap suc same))

one_id : (es : List StoreEntry) (m n p : ℕ) → position (λ e. e.id == m) es ≡ Some p → position (λ e. e.id == n) es ≡ Some p → m ≡ n
one_id [] m n p a b = cc
one_id (e ∷ es) m n p a b =
    let here = eqb-true _ _ (position-Some (λ d. d.id == m) (e ∷ es) p e a).1 in
    let there = eqb-true _ _ (position-Some (λ d. d.id == n) (e ∷ es) p e b).1 in
    sym here ∙ there

module _ (schema after : SchemaData) (id : StoreId) (p : ℕ) (f : StoreEntry → StoreEntry) (made : after.entries ≡ change_at schema.entries p f) (keeps : place_of after id ≡ place_of schema id) (other : place_of schema id ≢ Some p) where
  at_other : (found : Option ℕ) → place_of schema id ≡ found → unwrap_or (option_map (indexes_at after) found) [] ≡ unwrap_or (option_map (indexes_at schema) found) []
  at_other None e = refl
  at_other (Some q) e =
      ap (λ d. unwrap_or (option_map (λ k. k.info.indexes) d) [])
      (ap (λ es. slice_get es q) made ∙ changed_other schema.entries p q f (λ same. other (e ∙ ap Some (sym same))))

  stay : indexes_of after id ≡ indexes_of schema id
  stay = ap (λ found. unwrap_or (option_map (indexes_at after) found) []) keeps ∙ at_other (place_of schema id) refl

elsewhere : (schema : SchemaData) (store id : StoreId) (p : ℕ) → id ≢ store → place_of schema store ≡ Some p → place_of schema id ≢ Some p
elsewhere schema store id p apart a b = apart (ap (λ n. record { number = n }) (one_id schema.entries id.number store.number p b a))

pub others_with : (schema : SchemaData) (store id : StoreId) (index : IndexInfo) → id ≢ store → ((place : ℕ) → place_of (with_index schema place index) id ≡ place_of schema id) → (found : Option ℕ) → place_of schema store ≡ found
    → indexes_of (unwrap_or (option_map (λ place. with_index schema place index) found) schema) id ≡ indexes_of schema id
others_with schema store id index apart keeps None e = refl
others_with schema store id index apart keeps (Some p) e = stay schema (with_index schema p index) id p (λ k. entry_with_index k index) refl (keeps p) (elsewhere schema store id p apart e)

gone : (schema : SchemaData) (store id : StoreId) (p : ℕ) → id ≢ store → ((place at : ℕ) → place_of (without_index schema place at) id ≡ place_of schema id) → place_of schema store ≡ Some p → (found : Option ℕ)
    → indexes_of (unwrap_or (option_map (without_index schema p) found) schema) id ≡ indexes_of schema id
gone schema store id p apart keeps e None = refl
gone schema store id p apart keeps e (Some at) = stay schema (without_index schema p at) id p (λ k. entry_without_index k at) refl (keeps p at) (elsewhere schema store id p apart e)

pub others_without : (schema : SchemaData) (store id : StoreId) (n : List ℕ) → id ≢ store → ((place at : ℕ) → place_of (without_index schema place at) id ≡ place_of schema id) → (found : Option ℕ) → place_of schema store ≡ found
    → indexes_of (unwrap_or (option_and_then (λ place. option_map (without_index schema place) (index_named (indexes_at schema place) n)) found) schema) id ≡ indexes_of schema id
others_without schema store id n apart keeps None e = refl
others_without schema store id n apart keeps (Some p) e = gone schema store id p apart keeps e (index_named (indexes_at schema p) n)
