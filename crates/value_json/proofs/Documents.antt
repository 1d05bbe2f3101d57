-- A document's lists and objects beside the vectors and maps that they are kept in.
use Rattle.std.proofs.Common.{◌≡◌, ℕ, suc, ◌+◌, ◌<◌, ◌≤◌, List, [], ◌∷◌, ◌++◌, length, map, drop, get_or, true, Option, Some, None, option_map, option_and_then, String, Global, string_bytes, refl, sym, ap, ◌∙◌, le-leb, arith, append_assoc, append-nil}
use Rattle.std.proofs.lemmas.Bool.{lt-leb}
use Rattle.std.proofs.lemmas.List.{drop_all, map-append}
use Rattle.std.specs.List.{fold, list_all}
use Rattle.clone_values.specs.Names.{set_member}
use Rattle.std.specs.Str.{IsUtf8, is_utf8}
use Rattle.std.proofs.lemmas.Str.{is_utf8-from_IsUtf8}
use Rattle.clone_values.specs.WellFormed.{is_text, is_byte}
use Rattle.clone_values.specs.Tree.{Tree}
use Rattle.clone_values.specs.View.{tree_of}
use Rattle.clone_values.specs.declared.value_types.Value.{Value as ClonedValue}
use Rattle.serde_json.specs.Data.{Data, array, Items, no_items}
use Rattle.serde_json.specs.Events.{items_len, members_len}
use Rattle.serde_json.specs.View.{view, items_view, members_view}
use Rattle.serde_json.specs.declared.value.Value.{Value}
use Rattle.serde_json.proofs.Views.{Entry, items_len-items_view, members_len-members_view}
use Rattle.value_json.specs.Reading.{short_list, tree_in, trees_in, members_in, object_in, full_array, list_in, named_in, pair_list_in, pair_in}
use Rattle.value_json.specs.Marks.{is_full_array}

short : {A : Type 0} (n : ℕ) (o : Option A) → n ≤ 4294967295 → short_list n o ≡ o
short n o h = rw (le-leb n 4294967295 h) refl

long : {A : Type 0} (n : ℕ) (o : Option A) → 4294967295 < n → short_list n o ≡ None
long n o h = rw (lt-leb n 4294967295 h) refl

pub short_items : {A : Type 0} (vs : List Value) (o : Option A) → length vs ≤ 4294967295 → short_list (items_len (items_view vs)) o ≡ o
short_items vs o h = rw (items_len-items_view vs) (short (length vs) o h)

pub long_items : {A : Type 0} (vs : List Value) (o : Option A) → 4294967295 < length vs → short_list (items_len (items_view vs)) o ≡ None
long_items vs o h = rw (items_len-items_view vs) (long (length vs) o h)

pub short_members : {A : Type 0} (es : List (String Global × Value)) (o : Option A) → length es ≤ 4294967295 → short_list (members_len (members_view es)) o ≡ o
short_members es o h = rw (members_len-members_view es) (short (length es) o h)

pub long_members : {A : Type 0} (es : List (String Global × Value)) (o : Option A) → 4294967295 < length es → short_list (members_len (members_view es)) o ≡ None
long_members es o h = rw (members_len-members_view es) (long (length es) o h)

-- ---- texts and byte strings
pub is_unicode : (s : List ℕ) → IsUtf8 s → is_utf8 s ≡ true
is_unicode s h = is_utf8-from_IsUtf8 s h

pub all_bytes : (bs : List ℕ) → ((i : ℕ) → get_or bs i 0 < 256) → list_all is_byte bs ≡ true
all_bytes [] h = refl
all_bytes (b ∷ bs) h = grind (arith, h 0, all_bytes bs (λ i. h (suc i)))

-- ---- loops

-- all is read
pub all_read : {B : Type 0} (f : Items → Option (List B)) → f no_items ≡ Some [] → (vs ws : List Value) (i : ℕ) (done : List B) → ws ≡ vs → length ws ≤ i → length vs ≤ 4294967295
    → option_map (λ rest. done ++ rest) (f (items_view (drop i ws))) ≡ f (items_view ws) → short_list (items_len (items_view vs)) (f (items_view vs)) ≡ Some done
all_read f end vs ws i done same past few e =
    short_items vs (f (items_view vs)) few
    ∙ ap (λ us. f (items_view us)) (sym same) ∙ sym e ∙ ap (λ us. option_map (λ rest. done ++ rest) (f (items_view us))) (drop_all i ws past)
    ∙ ap (option_map (λ rest. done ++ rest)) end ∙ ap Some (append-nil done)

-- one more is read
moved : (done : List ClonedValue) (v : ClonedValue) (o : Option (List Tree))
    → option_map (λ rest. map tree_of (done ++ v ∷ []) ++ rest) o ≡ option_map (λ rest. map tree_of done ++ rest) (option_map (λ ts. tree_of v ∷ ts) o)
moved done v None = refl
moved done v (Some ts) = ap Some (ap (λ xs. xs ++ ts) (map-append tree_of done (v ∷ [])) ∙ append_assoc (map tree_of done) (tree_of v ∷ []) ts)

pub read_one : (vs : List Value) (i : ℕ) (x : Value) (done more : List ClonedValue) (v : ClonedValue) → drop i vs ≡ x ∷ drop (i + 1) vs → tree_in (view x) ≡ Some (tree_of v) → more ≡ done ++ v ∷ []
    → option_map (λ rest. map tree_of done ++ rest) (trees_in (items_view (drop i vs))) ≡ trees_in (items_view vs)
    → option_map (λ rest. map tree_of more ++ rest) (trees_in (items_view (drop (i + 1) vs))) ≡ trees_in (items_view vs)
read_one vs i x done more v here one grown e =
    let left = items_view (drop (i + 1) vs) in
    rw grown (moved done v (trees_in left)
    ∙ sym (ap (λ us. option_map (λ rest. map tree_of done ++ rest) (trees_in (items_view us))) here ∙ ap (λ o. option_map (λ rest. map tree_of done ++ rest) (option_and_then (λ t. option_map (λ ts. t ∷ ts) (trees_in left)) o)) one)
    ∙ e)

-- one more property is read
set : (props : List (List ℕ × Tree)) (name : List ℕ) (t : Tree) (o : Option (List (List ℕ × Tree)))
    → option_map (fold (λ done m. set_member done m.0 m.1) (set_member props name t)) o ≡ option_map (fold (λ done m. set_member done m.0 m.1) props) (option_map (λ ps. (name, t) ∷ ps) o)
set props name t None = refl
set props name t (Some ps) = refl

pub set_one : (es left : List Entry) (e : Entry) (props new : List (List ℕ × Tree)) (t : Tree) → es ≡ e ∷ left → is_text (string_bytes e.0) ≡ true → tree_in (view e.1) ≡ Some t → new ≡ set_member props (string_bytes e.0) t
    → option_map (fold (λ done m. set_member done m.0 m.1) new) (members_in (members_view left)) ≡ option_map (fold (λ done m. set_member done m.0 m.1) props) (members_in (members_view es))
set_one es left e props new t here within one grown =
    rw (here, grown, within, one) (set props (string_bytes e.0) t (members_in (members_view left)))

-- ---- an object of two members

pub two_members : (es left more : List Entry) (m o : Entry) → es ≡ m ∷ left → left ≡ o ∷ more → more ≡ [] → is_full_array (string_bytes m.0) (string_bytes o.0) ≡ true
    → object_in (members_view es) ≡ full_array (list_in (view m.1)) (named_in true (pair_list_in (view o.1)))
two_members es left more m o first second end names = rw (first, second, end, names) refl

-- ---- a list of two

pub two : (d : Data) (vs ws : List Value) (a b : Value) → d ≡ array (items_view vs) → ws ≡ vs → length ws ≡ 2 → a ≡ get_or ws 0 a → b ≡ get_or ws 1 b
    → pair_in d ≡ option_and_then (λ s. option_map (λ t. (s, t)) (tree_in (view b))) (tree_in (view a))
two d vs [] a b seen same count first second = absurd (omega arith)
two d vs (v ∷ []) a b seen same count first second = absurd (omega arith)
two d vs (v ∷ w ∷ []) a b seen same count first second = rw (seen, ← same, first, second) refl
two d vs (v ∷ w ∷ x ∷ xs) a b seen same count first second = absurd (omega arith)

pub not_two : (d : Data) (vs ws : List Value) → d ≡ array (items_view vs) → ws ≡ vs → (length ws ≡ 2 → ⊥) → pair_in d ≡ None
not_two d vs [] seen same other = rw (seen, ← same) refl
not_two d vs (v ∷ []) seen same other = rw (seen, ← same) refl
not_two d vs (v ∷ w ∷ []) seen same other = absurd (other refl)
not_two d vs (v ∷ w ∷ x ∷ xs) seen same other = rw (seen, ← same) refl
