-- Each answer is a well formed value.
--     value_formed, key_formed, count_formed, values_formed, keys_formed, cursor_formed       of each call
use Rattle.std.proofs.Common.{◌≡◌, ℕ, suc, ◌<◌, ◌≤◌, nat_le, pos, Bool, true, false, if◌then◌else◌, List, [], ◌∷◌, map, length, Option, Some, None, option_map, IsSome, arith, refl, sym, ◌∙◌, ap, subst}
use Rattle.std.specs.Prelude.{slice_get, unwrap_or, codes}
use Rattle.std.specs.Str.{IsAscii}
use Rattle.std.proofs.lemmas.Str.{IsUtf8-from_ascii, is_utf8-from_IsUtf8}
use Rattle.std.proofs.lemmas.Str.Ascii.{IsAscii-nil, IsAscii-cons}
use Rattle.std.specs.Option.{option_and_then}
use Rattle.std.specs.declared.cmp.Ordering.{Ordering}
use Rattle.std.specs.declared.cmp.Ordering.TheVariants.{Less, Equal, Greater}
use Rattle.std.specs.Ordering.{int_cmp, is_eq, is_lt, is_le, ordering_reverse}
use Rattle.std.specs.Cmp.{tied_itself}
use Rattle.std.proofs.lemmas.Cmp.{int_cmp_total}
use Rattle.std.proofs.lemmas.Option.{slice_get-map}
use Rattle.std.proofs.lemmas.Map.Keys.{any_passes_from_place}
use Rattle.std.specs.List.{All, AllByRecursion}
use Rattle.std.specs.FinMap as finite
use Rattle.std.proofs.lemmas.Bool.{le-leb, leb-true}
use Rattle.idb_base.specs.declared.limits.TheConstants.{GREATEST_INT, GREATEST_LENGTH}
use Rattle.clone_values.specs.Tree.{Tree, object, trees_of, list_of_trees, members_of}
use Rattle.clone_values.specs.Names.{is_rising}
use Rattle.clone_values.specs.KeyTree.{KeyTree}
use Rattle.clone_values.specs.KeyValues.{IsKey, value_of_key}
use Rattle.clone_values.specs.WellFormed.{IsValue, is_int, is_text, are_values, is_within_limit}
use Rattle.clone_values.proofs.Laws.{trees_again}
use Rattle.key_order.specs.KeyOrder.{key_cmp}
use Rattle.key_order.proofs.Laws.{key_cmp_same}
use Rattle.path_grammar.specs.KeyPath.{is_key_path}
use Rattle.key_paths.specs.Evaluation.{Extract, AreKeys, one, many, invalid, failure}
use Rattle.key_paths.proofs.Laws.{value_formed as key_value, extracted_formed}
use Rattle.idb_keys.specs.KeyRange.{Range, includes}
use Rattle.idb_keys.specs.declared.names.Over.{Over}
use Rattle.idb_keys.specs.declared.names.Over.TheVariants.{Store as OfStore, Index}
use Rattle.idb_schema.specs.declared.definitions.IndexInfo.{IndexInfo}
use Rattle.idb_cursors.specs.Cursors.{CursorData, TurnData, iterated, cursor_after}
use Rattle.index_tables.specs.Rows.{RowTree, is_row, among, rows_of}
use Rattle.index_tables.specs.Orders.{row_cmp_total}
use Rattle.index_tables.specs.RecordRows.{index_rows, gives_key, is_one_of, extracted_keys, index_keys}
use Rattle.range_reads.proofs.Laws.{row_shown_by_key}
use Rattle.indexed_records.specs.Reading.{limited, primary_keys, values_in, first_primary}
use Rattle.object_stores.specs.Store.{Store}
use Rattle.object_stores.specs.IsStore.{IsStore}
use Rattle.object_stores.specs.Showing.{shown_in}
use Rattle.store_cursors.specs.Members.{member_value, valued, member_taken}
use Rattle.store_cursors.proofs.Laws.{shown_has_value}
use Rattle.store_requests.specs.Answers.{in_reach, or_undefined, array_of, value_answer, key_answer, values_answer, keys_answer, count_answer, count_shown, cursor_answer, member_answer}
use Rattle.idb_calls.specs.declared.calls.Call.{Call}
use Rattle.request_lists.specs.declared.entries.FrontCursor.{FrontCursor}
use Rattle.request_lists.specs.Fronts.{Front, cursor_of}
use Rattle.request_lists.specs.Running.{cursor_turned}
use Rattle.list_machine.specs.Requests.{place_taken}
use Rattle.placed_calls.specs.Fitting.{IsAtKeyOf, AreFit}
use Rattle.placed_calls.proofs.Laws.{turned_fit}
use Rattle.request_reads.specs.Reads.{HasValidPath, has_few_items, cursors_at, with_turn_made}
use Rattle.request_reads.proofs.Members.{all_placed, all_filtered, all_limited, first_holds, all_mapped, all_found}

or_value : (o : Option Tree) → ((v : Tree) → o ≡ Some v → IsValue v) → IsValue (or_undefined o)
or_value None f = refl
or_value (Some v) f = f v refl

trees_formed : (ts : List Tree) → AllByRecursion IsValue ts → are_values (trees_of ts) ≡ true
trees_formed [] h = refl
trees_formed (t ∷ ts) h = rw h.0 (trees_formed ts h.1)

array_formed : (ts : List Tree) → AllByRecursion IsValue ts → length ts ≤ GREATEST_LENGTH → IsValue (array_of ts)
array_formed ts h few = rw (trees_formed ts h) (rw (trees_again ts) (rw (le-leb (length ts) GREATEST_LENGTH few) refl))

-- ---- the names of a cursor's member
ascii : (bs : List ℕ) → AllByRecursion (λ b. b < 128) bs → IsAscii bs
ascii [] h = IsAscii-nil
ascii (b ∷ bs) h = IsAscii-cons b bs h.0 (ascii bs h.1)

ascii_text : (bs : List ℕ) → AllByRecursion (λ b. b < 128) bs → is_within_limit bs ≡ true → is_text bs ≡ true
ascii_text bs h few = rw (is_utf8-from_IsUtf8 bs (IsUtf8-from_ascii bs (ascii bs h))) few

key_text : is_text (codes "key") ≡ true
key_text = ascii_text (codes "key") (omega arith, (omega arith, (omega arith, tt))) refl

primary_text : is_text (codes "primaryKey") ≡ true
primary_text = ascii_text (codes "primaryKey") (omega arith, (omega arith, (omega arith, (omega arith, (omega arith, (omega arith, (omega arith, (omega arith, (omega arith, (omega arith, tt)))))))))) refl

value_text : is_text (codes "value") ≡ true
value_text = ascii_text (codes "value") (omega arith, (omega arith, (omega arith, (omega arith, (omega arith, tt))))) refl

two_formed : (a b : List ℕ) (v w : Tree) → is_text a ≡ true → is_text b ≡ true → is_rising (a ∷ b ∷ []) ≡ true → IsValue v → IsValue w → IsValue (object (members_of ((a, v) ∷ (b, w) ∷ [])))
two_formed a b v w p q rises x y = rw x (rw y (rw p (rw q (rw rises refl))))

three_formed : (a b c : List ℕ) (v w u : Tree) → is_text a ≡ true → is_text b ≡ true → is_text c ≡ true → is_rising (a ∷ b ∷ c ∷ []) ≡ true → IsValue v → IsValue w → IsValue u
    → IsValue (object (members_of ((a, v) ∷ (b, w) ∷ (c, u) ∷ [])))
three_formed a b c v w u p q r rises x y z = rw x (rw y (rw z (rw p (rw q (rw r (rw rises refl))))))

module _ (store : Store) (sound : IsStore store) where
  stored_value : (k : KeyTree) (v : Tree) → finite.get store.records k ≡ Some v → IsValue v
  stored_value k v e = (sound.content.records k v e).value

  stored_key : (k : KeyTree) (o : Option Tree) → finite.get store.records k ≡ o → IsSome o → IsKey k
  stored_key k None e some = cc
  stored_key k (Some v) e some = (sound.content.records k v e).key

  abbrev HasRecord : RowTree → Type 0
  HasRecord m = IsSome (member_value store m)

  reached : (over : Over) (range : Range) → AllByRecursion HasRecord (in_reach store over range)
  reached over range = all_filtered HasRecord (λ m. includes range m.0) (shown_in store over) (all_placed HasRecord (shown_in store over) (shown_has_value store over))

  abbrev HasKeyOf : RowTree → Type 0
  HasKeyOf m = IsKey m.1

  keyed : (m : RowTree) → HasRecord m → IsKey m.1
  keyed m h = stored_key m.1 (finite.get store.records m.1) refl h

  keys_reached : (over : Over) (range : Range) (limit : ℕ) → AllByRecursion IsKey (primary_keys (limited limit (in_reach store over range)))
  keys_reached over range limit = all_mapped HasRecord IsKey (λ m. m.1) keyed _ (all_limited HasRecord limit _ (reached over range))

  pub value_formed : (over : Over) (range : Range) → IsValue (value_answer store over range)
  value_formed over range = at (first_primary (in_reach store over range))
    where
      at : (o : Option KeyTree) → IsValue (or_undefined (option_and_then (λ k. finite.get store.records k) o))
      at None = refl
      at (Some k) = or_value (finite.get store.records k) (stored_value k)

  pub key_formed : (over : Over) (range : Range) → IsValue (key_answer store over range)
  key_formed over range = at (first_primary (in_reach store over range)) refl
    where
      at : (o : Option KeyTree) → first_primary (in_reach store over range) ≡ o → IsValue (or_undefined (option_map value_of_key o))
      at None e = refl
      at (Some k) e = key_value k (first_holds IsKey (primary_keys (in_reach store over range)) k (all_mapped HasRecord IsKey (λ m. m.1) keyed _ (reached over range)) e)

  pub values_formed : (over : Over) (range : Range) (limit : ℕ) → length (values_in store.records (limited limit (in_reach store over range))) ≤ GREATEST_LENGTH → IsValue (values_answer store over range limit)
  values_formed over range limit few = array_formed _ (all_found IsValue (λ m. finite.get store.records m.1) (λ m. stored_value m.1) (limited limit (in_reach store over range))) few

  pub keys_formed : (over : Over) (range : Range) (limit : ℕ) → length (map value_of_key (primary_keys (limited limit (in_reach store over range)))) ≤ GREATEST_LENGTH → IsValue (keys_answer store over range limit)
  keys_formed over range limit few = array_formed _ (all_mapped IsKey IsValue value_of_key key_value _ (keys_reached over range limit)) few

  member_formed : (keys_only : Bool) (m : RowTree) (v : Tree) → IsKey m.0 → IsKey m.1 → IsValue v → IsValue (member_answer keys_only m v)
  member_formed keys_only m v first second value = elim keys_only as (λ b. IsValue (member_answer b m v)) [
    | true ↦ two_formed (codes "key") (codes "primaryKey") (value_of_key m.0) (value_of_key m.1) key_text primary_text refl (key_value m.0 first) (key_value m.1 second)
    | false ↦ three_formed (codes "key") (codes "primaryKey") (codes "value") (value_of_key m.0) (value_of_key m.1) v key_text primary_text value_text refl (key_value m.0 first) (key_value m.1 second) value
  ]

  -- ---- the key of a member
  tied : (k j : KeyTree) → is_eq (key_cmp k j) ≡ true → k ≡ j
  tied k j e = key_cmp_same k j (equal (key_cmp k j) e)
    where
      equal : (r : Ordering) → is_eq r ≡ true → r ≡ Equal
      equal Less e = cc
      equal Equal e = refl
      equal Greater e = cc

  one_of_keys : (k : KeyTree) (ks : List KeyTree) → AllByRecursion IsKey ks → is_one_of ks k ≡ true → IsKey k
  one_of_keys k [] h e = cc
  one_of_keys k (j ∷ ks) h e = at (one_of_keys k ks h.1) (is_eq (key_cmp k j)) refl
    where
      at : (is_one_of ks k ≡ true → IsKey k) → (b : Bool) → is_eq (key_cmp k j) ≡ b → IsKey k
      at rest true t = subst IsKey (sym (tied k j t)) h.0
      at rest false t = rest (rw t at e)

  all_keys : (ks : List KeyTree) → All IsKey ks → AllByRecursion IsKey ks
  all_keys [] h = tt
  all_keys (k ∷ ks) h = (h 0 k (omega arith), all_keys ks (λ i d l. h (suc i) d (omega (arith, l))))

  keys_extracted : (x : Extract) → AreKeys x → AllByRecursion IsKey (extracted_keys x)
  keys_extracted (one k) h = (h, tt)
  keys_extracted (many ks) h = all_keys ks h
  keys_extracted invalid h = tt
  keys_extracted failure h = tt

  given_key : (index : IndexInfo) (m : RowTree) (o : Option Tree) → is_key_path index.path ≡ true → finite.get store.records m.1 ≡ o → gives_key index m.0 o ≡ true → IsKey m.0
  given_key index m None valid at is = cc
  given_key index m (Some v) valid at is = one_of_keys m.0 (index_keys index v) (keys_extracted _ (extracted_formed index.path index.multi v valid (stored_value m.1 v at))) is

  own_key : (place : ℕ) (m : RowTree) (e : Option (KeyTree × Tree)) → slice_get (finite.entries store.records) place ≡ e → option_map (λ e. (e.0, e.0)) e ≡ Some m → m.1 ≡ m.0
  own_key place m None at is = cc
  own_key place m (Some e) at is = cc

  row_key : (index place : ℕ) (m : RowTree) (o : Option IndexInfo) → HasValidPath store.info.indexes (Index index) → slice_get store.info.indexes index ≡ o
      → slice_get (unwrap_or (option_map (λ i. rows_of (index_rows i store.records)) o) []) place ≡ Some m → IsKey m.0
  row_key index place m None valid at is = cc
  row_key index place m (Some info) valid at is =
      let shown = (λ (o : Option IndexInfo). unwrap_or (option_map (λ i. rows_of (index_rows i store.records)) o) []) in
      let there : among (shown (slice_get store.info.indexes index)) m ≡ true = ap (λ o. among (shown o) m) at ∙ any_passes_from_place (is_row m) (shown (Some info)) place m is (ap is_eq (tied_itself row_cmp_total m)) in
      given_key info m (finite.get store.records m.1) (valid info at) refl (sym (row_shown_by_key store.info.indexes store.records index info m at) ∙ there)

  member_key : (over : Over) → HasValidPath store.info.indexes over → (place : ℕ) (m : RowTree) → slice_get (shown_in store over) place ≡ Some m → IsKey m.0
  member_key over valid place m = elim over as (λ over. HasValidPath store.info.indexes over → slice_get (shown_in store over) place ≡ Some m → IsKey m.0) [
    | OfStore ↦ λ valid is. subst IsKey (own_key place m _ refl (sym (slice_get-map (λ e. (e.0, e.0)) (finite.entries store.records) place) ∙ is)) (keyed m (shown_has_value store OfStore place m is))
    | Index index ↦ λ valid. row_key index place m _ valid refl
  ] valid

  -- where a turn leads, a record may be stored
  pub stored_place : (over : Over) (place : ℕ) (m : RowTree) → slice_get (shown_in store over) place ≡ Some m → IsAtKeyOf (Some m)
  stored_place over place m e = at (finite.get store.records m.1) refl (shown_has_value store over place m e)
    where
      at : (o : Option Tree) → finite.get store.records m.1 ≡ o → IsSome o → IsAtKeyOf (Some m)
      at None got some = cc
      at (Some v) got some = let stored = sound.content.records m.1 v got in (stored.key, stored.depth)

  pub turn_fits : {D : Type 0} (front : Front D) (number : ℕ) (over : Over) (call : Call) → AreFit front → AreFit (with_turn_made front number store over call)
  turn_fits {D} front number over call f = at (cursor_of front number)
    where
      after_place : (cursor : CursorData) (place : ℕ) (o : Option RowTree) → slice_get (shown_in store over) place ≡ o → IsAtKeyOf o
      after_place cursor place None e = tt
      after_place cursor place (Some m) e = stored_place over place m e

      after : (cursor : CursorData) (o : Option ℕ) → IsAtKeyOf cursor.place → IsAtKeyOf (cursor_after (shown_in store over) cursor o).place
      after cursor None h = h
      after cursor (Some place) h = after_place cursor place (slice_get (shown_in store over) place) refl

      at : (o : Option (FrontCursor D)) → AreFit (record front { cursors = cursors_at number store over call o front.cursors })
      at None = record { waiting = f.waiting; cursors = f.cursors }
      at (Some c) = turned_fit front number (cursor_turned (shown_in store over) (place_taken store over c.cursor call)) (λ d h. after d.cursor (place_taken store over c.cursor call) h) f

  pub cursor_formed : (over : Over) → HasValidPath store.info.indexes over → (keys_only : Bool) (turn : TurnData) (more : ℕ) → IsValue (cursor_answer keys_only (member_taken store over turn more))
  cursor_formed over valid keys_only turn more = by_place (iterated (shown_in store over) turn more)
    where
      by_value : (place : ℕ) (m : RowTree) → slice_get (shown_in store over) place ≡ Some m → (o : Option Tree) → member_value store m ≡ o → IsValue (cursor_answer keys_only (option_map (λ value. (m, value)) o))
      by_value place m e None at = refl
      by_value place m e (Some v) at = member_formed keys_only m v (member_key over valid place m e) (keyed m (shown_has_value store over place m e)) (stored_value m.1 v at)

      by_member : (place : ℕ) (o : Option RowTree) → slice_get (shown_in store over) place ≡ o → IsValue (cursor_answer keys_only (option_and_then (valued store) o))
      by_member place None e = refl
      by_member place (Some m) e = by_value place m e (member_value store m) refl

      by_place : (o : Option ℕ) → IsValue (cursor_answer keys_only (option_and_then (valued store) (option_and_then (slice_get (shown_in store over)) o)))
      by_place None = refl
      by_place (Some place) = by_member place (slice_get (shown_in store over) place) refl

turned : (r : Ordering) → is_lt r ≡ false → is_le (ordering_reverse r) ≡ true
turned Less e = cc
turned Equal e = refl
turned Greater e = refl

pub count_formed : (store : Store) (over : Over) (range : Range) → IsValue (count_answer store over range)
count_formed store over range = shown (length (in_reach store over range))
  where
    shown : (n : ℕ) → is_int (count_shown n) ≡ true
    shown n = at (is_lt (int_cmp GREATEST_INT (pos n))) refl
      where
        at : (b : Bool) → is_lt (int_cmp GREATEST_INT (pos n)) ≡ b → is_int (if b then GREATEST_INT else pos n) ≡ true
        at true e = refl
        at false e = rw (int_cmp_total.antisymm (pos n) GREATEST_INT) (turned (int_cmp GREATEST_INT (pos n)) e)

-- ---- lists that are not too long
few_listed : (t : Tree) (ts : List Tree) → t ≡ array_of ts → has_few_items t ≡ true → length ts ≤ GREATEST_LENGTH
few_listed t ts is few = leb-true (length ts) GREATEST_LENGTH (ap (λ us. nat_le (length us) GREATEST_LENGTH) (sym (trees_again ts)) ∙ subst (λ u. has_few_items u ≡ true) is few)

pub few_values : (store : Store) → IsStore store → (over : Over) (range : Range) (limit : ℕ) (t : Tree) → t ≡ values_answer store over range limit → has_few_items t ≡ true → IsValue t
few_values store sound over range limit t is few = subst IsValue (sym is) (values_formed store sound over range limit (few_listed t _ is few))

pub few_keys : (store : Store) → IsStore store → (over : Over) (range : Range) (limit : ℕ) (t : Tree) → t ≡ keys_answer store over range limit → has_few_items t ≡ true → IsValue t
few_keys store sound over range limit t is few = subst IsValue (sym is) (keys_formed store sound over range limit (few_listed t _ is few))

pub few_items : (ts : List Tree) → nat_le (length ts) GREATEST_LENGTH ≡ nat_le (length (list_of_trees (trees_of ts))) GREATEST_LENGTH
few_items ts = ap (λ us. nat_le (length us) GREATEST_LENGTH) (sym (trees_again ts))
