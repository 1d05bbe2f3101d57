-- A value is read exactly where it is spelled.
use Rattle.std.proofs.Common.{◌≡◌, ℕ, zero, suc, ◌-◌, ◌<◌, ◌≤◌, ◌^◌, Bool, true, false, ◌&&◌, ◌||◌, List, [], ◌∷◌, ◌++◌, length, drop, map, Some, refl, sym, ap, subst, ◌∙◌, arith, true≢false}
use Rattle.std.specs.List.{flat_map, AllByRecursion, list_all}
use Rattle.std.specs.Cmp.{first_so, second_so}
use Rattle.clone_values.specs.Tree.{Tree, Trees, Members, PairTrees, undefined, null, boolean, int, text, date, bytes, array, object, map_object, set_object, function, trees_of, members_of, pairs_of, list_of_trees, list_of_members, list_of_pairs}
use Rattle.clone_values.specs.Names.{names_of, is_rising}
use Rattle.clone_values.specs.WellFormed.{are_values, member_values, pair_values, is_within_limit, is_text, is_byte_string, is_int, is_date, are_once, is_array_name, are_properties}
use Rattle.clone_values.specs.Values.{depth_of, members_depth, members_hold_function, trees_hold_function}
use Rattle.clone_values.proofs.Laws.{trees_again, members_again, pairs_again, array_again, object_again, map_again, set_again}
use Rattle.clone_values.proofs.Laws as law
use Rattle.value_bytes.specs.declared.kinds.Kind.{Kind}
use Rattle.value_bytes.specs.declared.kinds.Kind.TheVariants as kind
use Rattle.value_bytes.specs.Spelling.{count_bytes, number_bytes, string_bytes, SpellsValue, spelling_of, items_spelling, members_spelling, pairs_spelling}
use Rattle.value_bytes.specs.Steps.{◌>>=◌, byte_at, whole_number_at, string_at, text_at, mapped_at, checked_at, pair_at, counted_at}
use Rattle.value_bytes.specs.Reading.{kind_of, properties_at, array_at, map_at, set_at, body_at, value_at}
use Rattle.value_bytes.proofs.Formats.{IsBytes, behind, bind_some, some_is, Took, Format, checked, pair, this_kind, first_byte, Gave, made, remade, within_limit, limit_within}
use Rattle.value_bytes.proofs.FieldFormats.{number, int_fits, date_fits, byte_string, IsText, counted}
use Rattle.value_bytes.proofs.FieldFormats as field
use Rattle.value_bytes.proofs.Grammars.{Grammar}
use Rattle.value_bytes.proofs.Fits.{Fits, MemberFits, PairFits, neither, items_fit, items_each, members_fit, members_each, pairs_fit, pairs_each, trees_listed, members_listed, pairs_listed, member_bytes, pair_bytes, items_bytes, members_bytes, pairs_bytes}

-- ---- the byte of a kind
abbrev pub byte_of : Kind → ℕ
byte_of kind.Undefined = 0
byte_of kind.Null = 1
byte_of kind.False = 2
byte_of kind.True = 3
byte_of kind.Int = 4
byte_of kind.Text = 5
byte_of kind.Date = 6
byte_of kind.Bytes = 7
byte_of kind.Array = 8
byte_of kind.Object = 9
byte_of kind.Map = 10
byte_of kind.Set = 11

kind_is : (b : ℕ) (k : Kind) → kind_of b ≡ Some k → b ≡ byte_of k
kind_is b k =
    this_kind byte_of b 0 kind.Undefined k _ refl (this_kind byte_of b 1 kind.Null k _ refl (this_kind byte_of b 2 kind.False k _ refl (this_kind byte_of b 3 kind.True k _ refl
    (this_kind byte_of b 4 kind.Int k _ refl (this_kind byte_of b 5 kind.Text k _ refl (this_kind byte_of b 6 kind.Date k _ refl (this_kind byte_of b 7 kind.Bytes k _ refl
    (this_kind byte_of b 8 kind.Array k _ refl (this_kind byte_of b 9 kind.Object k _ refl (this_kind byte_of b 10 kind.Map k _ refl (this_kind byte_of b 11 kind.Set k _ refl (λ e. absurd cc))))))))))))

-- ---- tests that passed together
pub three : (a b c : Bool) → (a && b && c) ≡ true → (a ≡ true) × (b ≡ true) × (c ≡ true)
three a b c h = let front = first_so (a && b) c h in (first_so a b front, second_so a b front, second_so (a && b) c h)

-- ---- the bodies whose members are read by a reader that fits
module _ (d : ℕ) (value : Format (value_at d) spelling_of (Fits d)) where
  abbrev ItemsGood : List Tree → Type 0
  ItemsGood ts = (length ts < 2 ^ 32) × AllByRecursion (Fits d) ts

  abbrev items_word : List Tree → List ℕ
  items_word ts = count_bytes (length ts) ++ flat_map spelling_of ts

  abbrev PropsGood : List (List ℕ × Tree) → Type 0
  PropsGood ms = ((length ms < 2 ^ 32) × AllByRecursion (MemberFits d) ms) × (is_rising (names_of ms) ≡ true)

  abbrev props_word : List (List ℕ × Tree) → List ℕ
  props_word ms = count_bytes (length ms) ++ flat_map member_bytes ms

  abbrev PairsGood : List (Tree × Tree) → Type 0
  PairsGood ps = (length ps < 2 ^ 32) × AllByRecursion (PairFits d) ps

  abbrev pairs_word : List (Tree × Tree) → List ℕ
  pairs_word ps = count_bytes (length ps) ++ flat_map pair_bytes ps

  items : Format (counted_at (value_at d)) items_word ItemsGood
  items = counted (value_at d) spelling_of (Fits d) value

  props : Format (properties_at (value_at d)) props_word PropsGood
  props = checked (λ ms. is_rising (names_of ms)) (counted_at (pair_at text_at (value_at d))) props_word (λ ms. (length ms < 2 ^ 32) × AllByRecursion (MemberFits d) ms)
      (counted (pair_at text_at (value_at d)) member_bytes (MemberFits d) (pair text_at string_bytes IsText (value_at d) spelling_of (Fits d) field.text value))

  arrays : Format (array_at (value_at d)) (λ x. items_word x.0 ++ props_word x.1) (λ x. (ItemsGood x.0 × PropsGood x.1) × (list_all is_array_name (names_of x.1) ≡ true))
  arrays = checked (λ x. list_all is_array_name (names_of x.1)) (pair_at (counted_at (value_at d)) (properties_at (value_at d))) (λ x. items_word x.0 ++ props_word x.1) (λ x. ItemsGood x.0 × PropsGood x.1)
      (pair (counted_at (value_at d)) items_word ItemsGood (properties_at (value_at d)) props_word PropsGood items props)

  maps : Format (map_at (value_at d)) pairs_word (λ ps. PairsGood ps × (are_once (map (λ p. p.0) ps) ≡ true))
  maps = checked (λ ps. are_once (map (λ p. p.0) ps)) (counted_at (pair_at (value_at d) (value_at d))) pairs_word PairsGood
      (counted (pair_at (value_at d) (value_at d)) pair_bytes (PairFits d) (pair (value_at d) spelling_of (Fits d) (value_at d) spelling_of (Fits d) value value))

  sets : Format (set_at (value_at d)) items_word (λ ts. ItemsGood ts × (are_once ts ≡ true))
  sets = checked are_once (counted_at (value_at d)) items_word ItemsGood items

  -- ---- their bytes are those of the tree
  items_same : (ts : Trees) → count_bytes (length (list_of_trees ts)) ++ items_spelling ts ≡ items_word (list_of_trees ts)
  items_same ts = ap (λ w. count_bytes (length (list_of_trees ts)) ++ w) (items_bytes ts)

  props_same : (ms : Members) → count_bytes (length (list_of_members ms)) ++ members_spelling ms ≡ props_word (list_of_members ms)
  props_same ms = ap (λ w. count_bytes (length (list_of_members ms)) ++ w) (members_bytes ms)

  pairs_same : (ps : PairTrees) → count_bytes (length (list_of_pairs ps)) ++ pairs_spelling ps ≡ pairs_word (list_of_pairs ps)
  pairs_same ps = ap (λ w. count_bytes (length (list_of_pairs ps)) ++ w) (pairs_bytes ps)

  items_again : (ts : List Tree) → items_word ts ≡ count_bytes (length (list_of_trees (trees_of ts))) ++ items_spelling (trees_of ts)
  items_again ts = sym (items_same (trees_of ts) ∙ ap items_word (trees_again ts))

  props_again : (ms : List (List ℕ × Tree)) → props_word ms ≡ count_bytes (length (list_of_members (members_of ms))) ++ members_spelling (members_of ms)
  props_again ms = sym (props_same (members_of ms) ∙ ap props_word (members_again ms))

  pairs_once_more : (ps : List (Tree × Tree)) → pairs_word ps ≡ count_bytes (length (list_of_pairs (pairs_of ps))) ++ pairs_spelling (pairs_of ps)
  pairs_once_more ps = sym (pairs_same (pairs_of ps) ∙ ap pairs_word (pairs_again ps))

  -- ---- they are fit where the tree is
  props_formed : (ms : List (List ℕ × Tree)) → PropsGood ms → are_properties (list_of_members (members_of ms)) ≡ true
  props_formed ms good =
      let limit : is_within_limit (list_of_members (members_of ms)) ≡ true = ap (λ (l : List (List ℕ × Tree)). is_within_limit l) (members_again ms) ∙ within_limit ms good.0.0 in
      let rising : is_rising (names_of (list_of_members (members_of ms))) ≡ true = ap (λ (l : List (List ℕ × Tree)). is_rising (names_of l)) (members_again ms) ∙ good.1 in
      let names = (members_fit d ms good.0.1).names in
      λ i. limit i && names i && rising i

  props_good : (ms : Members) → member_values ms ≡ true → are_properties (list_of_members ms) ≡ true → members_hold_function ms ≡ false → members_depth ms ≤ d → PropsGood (list_of_members ms)
  props_good ms formed named plain depth =
      let parts = three (is_within_limit (list_of_members ms)) (list_all is_text (names_of (list_of_members ms))) (is_rising (names_of (list_of_members ms))) named in
      ((limit_within (list_of_members ms) parts.0, members_each d ms (record { formed = formed; names = parts.1; plain = plain; depth = depth })), parts.2)

  array_fits : (x : List Tree × List (List ℕ × Tree)) → (ItemsGood x.0 × PropsGood x.1) × (list_all is_array_name (names_of x.1) ≡ true)
      → (8 ∷ (items_word x.0 ++ props_word x.1) ≡ spelling_of (array (trees_of x.0) (members_of x.1))) × Fits (suc d) (array (trees_of x.0) (members_of x.1))
  array_fits x good =
      let ts = items_fit d x.0 good.0.0.1 in
      let ms = members_fit d x.1 good.0.1.0.1 in
      let limit : is_within_limit (list_of_trees (trees_of x.0)) ≡ true = ap (λ (l : List Tree). is_within_limit l) (trees_again x.0) ∙ within_limit x.0 good.0.0.0 in
      let named = props_formed x.1 good.0.1 in
      let may : list_all is_array_name (names_of (list_of_members (members_of x.1))) ≡ true = ap (λ (l : List (List ℕ × Tree)). list_all is_array_name (names_of l)) (members_again x.1) ∙ good.1 in (
        λ i. 8 ∷ (items_again x.0 i ++ props_again x.1 i),
        record { formed = array_again (trees_of x.0) (members_of x.1) (record { items = ts.formed; count = limit; values = ms.formed; props = named; names = may }); plain = λ i. ts.plain i || ms.plain i; depth = omega (arith, ts.depth, ms.depth) },
      )

  object_fits : (ms : List (List ℕ × Tree)) → PropsGood ms → (9 ∷ props_word ms ≡ spelling_of (object (members_of ms))) × Fits (suc d) (object (members_of ms))
  object_fits ms good =
      let fit = members_fit d ms good.0.1 in
      let named = props_formed ms good in
      (ap (λ w. 9 ∷ w) (props_again ms), record { formed = object_again (members_of ms) (record { values = fit.formed; props = named }); plain = fit.plain; depth = omega (arith, fit.depth) })

  map_fits : (ps : List (Tree × Tree)) → PairsGood ps × (are_once (map (λ p. p.0) ps) ≡ true) → (10 ∷ pairs_word ps ≡ spelling_of (map_object (pairs_of ps))) × Fits (suc d) (map_object (pairs_of ps))
  map_fits ps good =
      let fit = pairs_fit d ps good.0.1 in
      let limit : is_within_limit (list_of_pairs (pairs_of ps)) ≡ true = ap (λ (l : List (Tree × Tree)). is_within_limit l) (pairs_again ps) ∙ within_limit ps good.0.0 in
      let once : are_once (map (λ p. p.0) (list_of_pairs (pairs_of ps))) ≡ true = ap (λ (l : List (Tree × Tree)). are_once (map (λ p. p.0) l)) (pairs_again ps) ∙ good.1 in
      (ap (λ w. 10 ∷ w) (pairs_once_more ps), record { formed = map_again (pairs_of ps) (record { pairs = fit.formed; count = limit; once = once }); plain = fit.plain; depth = omega (arith, fit.depth) })

  set_fits : (ts : List Tree) → ItemsGood ts × (are_once ts ≡ true) → (11 ∷ items_word ts ≡ spelling_of (set_object (trees_of ts))) × Fits (suc d) (set_object (trees_of ts))
  set_fits ts good =
      let fit = items_fit d ts good.0.1 in
      let limit : is_within_limit (list_of_trees (trees_of ts)) ≡ true = ap (λ (l : List Tree). is_within_limit l) (trees_again ts) ∙ within_limit ts good.0.0 in
      let once : are_once (list_of_trees (trees_of ts)) ≡ true = ap are_once (trees_again ts) ∙ good.1 in
      (ap (λ w. 11 ∷ w) (items_again ts), record { formed = set_again (trees_of ts) (record { items = fit.formed; count = limit; once = once }); plain = fit.plain; depth = omega (arith, fit.depth) })

  single : (b : ℕ) (t : Tree) (bs : List ℕ) (x : Tree × List ℕ) → spelling_of t ≡ b ∷ [] → Fits (suc d) t → IsBytes bs → Some (t, bs) ≡ Some x → Gave spelling_of (Fits (suc d)) (b ∷ bs) x
  single b t bs x word fine fits e = subst (λ y. Gave spelling_of (Fits (suc d)) (b ∷ bs) y) (some_is (t, bs) x e) (record { parts = ap (λ w. w ++ bs) (sym word); rest = fits; fits = fine })

  body_sound : (k : Kind) (bs : List ℕ) (x : Tree × List ℕ) → IsBytes bs → body_at (value_at d) k bs ≡ Some x → Gave spelling_of (Fits (suc d)) (byte_of k ∷ bs) x
  body_sound kind.Undefined bs x = single 0 undefined bs x refl (record { formed = refl; plain = refl; depth = omega arith })
  body_sound kind.Null bs x = single 1 null bs x refl (record { formed = refl; plain = refl; depth = omega arith })
  body_sound kind.False bs x = single 2 (boolean false) bs x refl (record { formed = refl; plain = refl; depth = omega arith })
  body_sound kind.True bs x = single 3 (boolean true) bs x refl (record { formed = refl; plain = refl; depth = omega arith })
  body_sound kind.Int bs x = made spelling_of (Fits (suc d)) 4 int (checked_at is_int whole_number_at) number_bytes (λ z. is_int z ≡ true) (number is_int int_fits)
      (λ z good. (refl, record { formed = good; plain = refl; depth = omega arith })) bs x
  body_sound kind.Text bs x = made spelling_of (Fits (suc d)) 5 text text_at string_bytes IsText field.text
      (λ s good. (refl, record { formed = good; plain = refl; depth = omega arith })) bs x
  body_sound kind.Date bs x = made spelling_of (Fits (suc d)) 6 date (checked_at is_date whole_number_at) number_bytes (λ z. is_date z ≡ true) (number is_date date_fits)
      (λ z good. (refl, record { formed = good; plain = refl; depth = omega arith })) bs x
  body_sound kind.Bytes bs x = made spelling_of (Fits (suc d)) 7 bytes string_at string_bytes (λ s. is_byte_string s ≡ true) byte_string
      (λ s good. (refl, record { formed = good; plain = refl; depth = omega arith })) bs x
  body_sound kind.Array bs x = made spelling_of (Fits (suc d)) 8 (λ y. array (trees_of y.0) (members_of y.1)) (array_at (value_at d)) (λ y. items_word y.0 ++ props_word y.1)
      (λ y. (ItemsGood y.0 × PropsGood y.1) × (list_all is_array_name (names_of y.1) ≡ true)) arrays array_fits bs x
  body_sound kind.Object bs x = made spelling_of (Fits (suc d)) 9 (λ ms. object (members_of ms)) (properties_at (value_at d)) props_word PropsGood props object_fits bs x
  body_sound kind.Map bs x = made spelling_of (Fits (suc d)) 10 (λ ps. map_object (pairs_of ps)) (map_at (value_at d)) pairs_word (λ ps. PairsGood ps × (are_once (map (λ p. p.0) ps) ≡ true)) maps map_fits bs x
  body_sound kind.Set bs x = made spelling_of (Fits (suc d)) 11 (λ ts. set_object (trees_of ts)) (set_at (value_at d)) items_word (λ ts. ItemsGood ts × (are_once ts ≡ true)) sets set_fits bs x

  value_sound : (bs : List ℕ) (x : Tree × List ℕ) → IsBytes bs → value_at (suc d) bs ≡ Some x → Took bs (spelling_of x.0) x.1 × Fits (suc d) x.0
  unfolding value_at
  value_sound bs x fits e =
      let a = bind_some (byte_at bs) (λ b. kind_of b.0 >>= λ k. body_at (value_at d) k b.1) x e in
      let k = bind_some (kind_of a.0.0) (λ j. body_at (value_at d) j a.0.1) x a.2 in
      let whole = first_byte bs a.0 a.1 in
      let got = body_sound k.0 a.0.1 x (behind (a.0.0 ∷ []) a.0.1 (subst IsBytes whole fits)) k.2 in
      (record { parts = whole ∙ ap (λ b. b ∷ a.0.1) (kind_is a.0.0 k.0 k.1) ∙ got.parts; fits = got.rest }, got.fits)

  value_again : (t : Tree) (rest : List ℕ) → Fits (suc d) t → value_at (suc d) (spelling_of t ++ rest) ≡ Some (t, rest)
  unfolding value_at
  value_again undefined rest f = refl
  value_again null rest f = refl
  value_again (boolean false) rest f = refl
  value_again (boolean true) rest f = refl
  value_again (int z) rest f = remade int (checked_at is_int whole_number_at) number_bytes (λ n. is_int n ≡ true) (number is_int int_fits) z rest f.formed
  value_again (text s) rest f = remade text text_at string_bytes IsText field.text s rest f.formed
  value_again (date z) rest f = remade date (checked_at is_date whole_number_at) number_bytes (λ n. is_date n ≡ true) (number is_date date_fits) z rest f.formed
  value_again (bytes s) rest f = remade bytes string_at string_bytes (λ b. is_byte_string b ≡ true) byte_string s rest f.formed
  value_again (array ts ms) rest f =
      let parts = law.array_fits ts ms f.formed in
      let plain = neither (trees_hold_function ts) (members_hold_function ms) f.plain in
      let each = items_each d ts (record { formed = parts.items; plain = plain.0; depth = omega (arith, f.depth) }) in
      let limit = limit_within (list_of_trees ts) parts.count in
      let named = props_good ms parts.values parts.props plain.1 (omega (arith, f.depth)) in
      (λ i. mapped_at (λ l. array (trees_of l.0) (members_of l.1)) (array_at (value_at d)) ((items_same ts i ++ props_same ms i) ++ rest))
      ∙ remade (λ l. array (trees_of l.0) (members_of l.1)) (array_at (value_at d)) (λ l. items_word l.0 ++ props_word l.1)
      (λ l. (ItemsGood l.0 × PropsGood l.1) × (list_all is_array_name (names_of l.1) ≡ true)) arrays (list_of_trees ts, list_of_members ms) rest (((limit, each), named), parts.names)
      ∙ (λ i. Some (array (trees_listed ts i) (members_listed ms i), rest))
  value_again (object ms) rest f =
      let parts = law.object_fits ms f.formed in
      let good = props_good ms parts.values parts.props f.plain (omega (arith, f.depth)) in
      ap (λ w. mapped_at (λ l. object (members_of l)) (properties_at (value_at d)) (w ++ rest)) (props_same ms)
      ∙ remade (λ l. object (members_of l)) (properties_at (value_at d)) props_word PropsGood props (list_of_members ms) rest good
      ∙ ap (λ l. Some (object l, rest)) (members_listed ms)
  value_again (map_object ps) rest f =
      let parts = law.map_fits ps f.formed in
      let each = pairs_each d ps (record { formed = parts.pairs; plain = f.plain; depth = omega (arith, f.depth) }) in
      ap (λ w. mapped_at (λ l. map_object (pairs_of l)) (map_at (value_at d)) (w ++ rest)) (pairs_same ps)
      ∙ remade (λ l. map_object (pairs_of l)) (map_at (value_at d)) pairs_word (λ l. PairsGood l × (are_once (map (λ p. p.0) l) ≡ true)) maps (list_of_pairs ps) rest ((limit_within (list_of_pairs ps) parts.count, each), parts.once)
      ∙ ap (λ l. Some (map_object l, rest)) (pairs_listed ps)
  value_again (set_object ts) rest f =
      let parts = law.set_fits ts f.formed in
      let each = items_each d ts (record { formed = parts.items; plain = f.plain; depth = omega (arith, f.depth) }) in
      ap (λ w. mapped_at (λ l. set_object (trees_of l)) (set_at (value_at d)) (w ++ rest)) (items_same ts)
      ∙ remade (λ l. set_object (trees_of l)) (set_at (value_at d)) items_word (λ l. ItemsGood l × (are_once l ≡ true)) sets (list_of_trees ts) rest ((limit_within (list_of_trees ts) parts.count, each), parts.once)
      ∙ ap (λ l. Some (set_object l, rest)) (trees_listed ts)
  value_again function rest f = absurd (true≢false f.plain)

none_so_shallow : (t : Tree) → depth_of t ≤ 0 → ⊥
none_so_shallow undefined h = omega arith
none_so_shallow null h = omega arith
none_so_shallow (boolean b) h = omega arith
none_so_shallow (int z) h = omega arith
none_so_shallow (text s) h = omega arith
none_so_shallow (date z) h = omega arith
none_so_shallow (bytes s) h = omega arith
none_so_shallow (array ts ms) h = omega arith
none_so_shallow (object ms) h = omega arith
none_so_shallow (map_object ps) h = omega arith
none_so_shallow (set_object ts) h = omega arith
none_so_shallow function h = omega arith

pub value : (d : ℕ) → Format (value_at d) spelling_of (Fits d)
unfolding value_at
value zero = record { sound = λ bs x fits e. absurd cc; again = λ t rest f. absurd (none_so_shallow t f.depth) }
value (suc d) = record { sound = value_sound d (value d); again = value_again d (value d) }

pub value_grammar : Grammar (value_at 100) spelling_of (Fits 100) SpellsValue
value_grammar = record {
  format = value 100;
  spelled = λ word t s. s.spelled;
  fits = λ word t s. record { formed = s.well_formed; plain = s.cloneable.0; depth = s.cloneable.1 };
  spells = λ word t e f. record { spelled = e; well_formed = f.formed; cloneable = (f.plain, f.depth) };
}
