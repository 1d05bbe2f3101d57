-- What a key path gives is a key.
--     flip                  two keys tie whichever is first
--     given_by              a value comes to a key where it has one, which ties with it
--     given_key             the same without multi-entry
--     Gives, gives_whole    the values of a list's strings are these keys, and what this says of the whole list
--     by_first              by the first string and key
--     no_key_left, no_string_left, key_left       where either list ends
use Rattle.std.proofs.Common.{◌≡◌, ℕ, Bool, true, false, ◌&&◌, List, [], ◌∷◌, map, Option, Some, None, is_some, option_map, Less, Equal, Greater, refl, sym, ◌∙◌, ap}
use Rattle.std.specs.List.{list_all}
use Rattle.std.specs.Ordering.{is_eq, ordering_reverse}
use Rattle.std.specs.Cmp.{tied_then}
use Rattle.std.specs.declared.cmp.Ordering.{Ordering}
use Rattle.clone_values.specs.Tree.{Tree, undefined, null, boolean, int, text, date, bytes, array, object, map_object, set_object, function, no_members, trees_of}
use Rattle.clone_values.specs.KeyTree.{KeyTree, KeyTrees, no_keys, key_more, key_trees_of}
use Rattle.clone_values.specs.KeyTree as keys
use Rattle.clone_values.specs.declared.path_types.PathSpec.TheVariants.{Many}
use Rattle.key_order.specs.KeyOrder.{key_cmp, keys_cmp}
use Rattle.key_order.proofs.Laws.{key_cmp_total}
use Rattle.key_paths.specs.Comparing.{as_key, as_keys, comes_to, is_item}
use Rattle.key_order.specs.Conversion.{key_of, fits_in_array}
use Rattle.key_paths.specs.Evaluation.{one_or_invalid, converted, all_there, string_evaluated, extracted_from, extracted}
use Rattle.key_paths.proofs.Convertible.{has_key, array_tests}
use Rattle.key_paths.proofs.Extracting.{all_fit, turned}

turned_round : (o : Ordering) → is_eq (ordering_reverse o) ≡ is_eq o
turned_round Less = refl
turned_round Equal = refl
turned_round Greater = refl

pub flip : (j k : KeyTree) → is_eq (key_cmp j k) ≡ is_eq (key_cmp k j)
flip j k = ap is_eq (key_cmp_total.antisymm j k) ∙ turned_round (key_cmp k j)

converted_one : (t : Tree) → converted false t ≡ one_or_invalid (key_of t)
converted_one undefined = refl
converted_one null = refl
converted_one (boolean b) = refl
converted_one (int n) = refl
converted_one (text s) = refl
converted_one (date d) = refl
converted_one (bytes b) = refl
converted_one (array ts ms) = refl
converted_one (object ms) = refl
converted_one (map_object ps) = refl
converted_one (set_object ts) = refl
converted_one function = refl

by_there : (o : Option KeyTree) (j k : KeyTree) → (is_some o ≡ true → o ≡ Some j) → comes_to (one_or_invalid o) k ≡ (is_some o && is_eq (key_cmp j k))
by_there None j k f = refl
by_there (Some i) j k f = ap (λ o. comes_to (one_or_invalid o) k) (f refl)

pub given_by : (t : Tree) (k : KeyTree) → comes_to (one_or_invalid (key_of t)) k ≡ (is_some (key_of t) && is_eq (key_cmp (as_key t) k))
given_by t k = by_there (key_of t) (as_key t) k (λ e. (has_key t e).1)

pub given_key : (t : Tree) (k : KeyTree) (b : Bool) → b ≡ is_some (key_of t) → (b && is_eq (key_cmp k (as_key t))) ≡ comes_to (converted false t) k
given_key t k b e = (λ i. e i && flip k (as_key t) i) ∙ sym (given_by t k) ∙ sym (ap (λ x. comes_to x k) (converted_one t))

-- ---- a list of strings
never : (b : Bool) → (b && false) ≡ false
never true = refl
never false = refl

abbrev Same : Option (List Tree) → KeyTrees → Bool
Same None ks = false
Same (Some ts) ks = list_all fits_in_array ts && is_eq (keys_cmp (as_keys (trees_of ts)) ks)

there : (o : Option (List Tree)) (ks : KeyTrees) → Same o ks ≡ comes_to (extracted_from false (option_map (λ ts. array (trees_of ts) no_members) o)) (keys.array ks)
there None ks = refl
there (Some ts) ks =
    ap (λ b. b && is_eq (keys_cmp (as_keys (trees_of ts)) ks)) (sym (all_fit ts) ∙ sym (array_tests (trees_of ts) no_members))
    ∙ sym (given_by (array (trees_of ts) no_members) (keys.array ks))

abbrev pub Gives : Tree → List (List ℕ) → List KeyTree → Bool
Gives t ss ks = Same (all_there (map (λ s. string_evaluated s t) ss)) (key_trees_of ks)

pub gives_whole : (t : Tree) (ss : List (List ℕ)) (ks : List KeyTree) → Gives t ss ks ≡ comes_to (extracted (Many ss) false t) (keys.array (key_trees_of ks))
gives_whole t ss ks = there (all_there (map (λ s. string_evaluated s t) ss)) (key_trees_of ks)

then_there : (t : Tree) (o : Option (List Tree)) (k : KeyTree) (ks : KeyTrees) → Same (option_map (λ ts. t ∷ ts) o) (key_more k ks) ≡ (is_item (Some t) k && Same o ks)
then_there t None k ks = sym (never (is_item (Some t) k))
then_there t (Some ts) k ks =
    ap (λ b. (fits_in_array t && list_all fits_in_array ts) && b) (sym (tied_then (key_cmp (as_key t) k) (keys_cmp (as_keys (trees_of ts)) ks)))
    ∙ turned (fits_in_array t) (list_all fits_in_array ts) (is_eq (key_cmp (as_key t) k)) (is_eq (keys_cmp (as_keys (trees_of ts)) ks))

one_more : (o : Option Tree) (os : List (Option Tree)) (k : KeyTree) (ks : KeyTrees) → Same (all_there (o ∷ os)) (key_more k ks) ≡ (is_item o k && Same (all_there os) ks)
one_more None os k ks = refl
one_more (Some t) os k ks = then_there t (all_there os) k ks

pub by_first : (t : Tree) (ss rest : List (List ℕ)) (s : List ℕ) (js ks : List KeyTree) (k : KeyTree) (o : Option Tree) → ss ≡ s ∷ rest → js ≡ k ∷ ks → o ≡ string_evaluated s t
    → Gives t ss js ≡ (is_item o k && Gives t rest ks)
by_first t ss rest s js ks k o e f g =
    (λ i. Gives t (e i) (f i)) ∙ one_more (string_evaluated s t) (map (λ s. string_evaluated s t) rest) k (key_trees_of ks) ∙ ap (λ x. is_item x k && Gives t rest ks) (sym g)

longer : (t : Tree) (o : Option (List Tree)) → Same (option_map (λ ts. t ∷ ts) o) no_keys ≡ false
longer t None = refl
longer t (Some ts) = never (fits_in_array t && list_all fits_in_array ts)

too_long : (o : Option Tree) (os : List (Option Tree)) → Same (all_there (o ∷ os)) no_keys ≡ false
too_long None os = refl
too_long (Some t) os = longer t (all_there os)

pub no_key_left : (t : Tree) (ss rest : List (List ℕ)) (s : List ℕ) (ks : List KeyTree) → ss ≡ s ∷ rest → ks ≡ [] → Gives t ss ks ≡ false
no_key_left t ss rest s ks e f = (λ i. Gives t (e i) (f i)) ∙ too_long (string_evaluated s t) (map (λ s. string_evaluated s t) rest)

pub no_string_left : (t : Tree) (ss : List (List ℕ)) (ks : List KeyTree) → ss ≡ [] → ks ≡ [] → Gives t ss ks ≡ true
no_string_left t ss ks e f = λ i. Gives t (e i) (f i)

pub key_left : (t : Tree) (ss : List (List ℕ)) (ks rest : List KeyTree) (k : KeyTree) → ss ≡ [] → ks ≡ k ∷ rest → Gives t ss ks ≡ false
key_left t ss ks rest k e f = λ i. Gives t (e i) (f i)
