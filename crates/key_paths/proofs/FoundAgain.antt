-- What was placed at the end of a path is found by evaluating it.
use Rattle.std.proofs.Common.{◌≡◌, ℕ, ◌≤◌, ◌==◌, cond, arith, Bool, true, false, not, ◌&&◌, List, [], ◌∷◌, length, Option, Some, None, option_map, unwrap_or, refl, sym, ◌∙◌, ap, nat_eq}
use Rattle.std.specs.Prelude.{if◌then◌else◌}
use Rattle.std.specs.Option.{option_and_then, is_some}
use Rattle.std.specs.Cmp.{first_so, second_so}
use Rattle.std.specs.Cmp.Lexicographic.{slice_cmp, pointwise, texts_ties}
use Rattle.std.specs.List.{find}
use Rattle.std.specs.Ordering.{nat_cmp, is_eq, match_ordering, ordering_reverse}
use Rattle.std.specs.declared.cmp.Ordering.TheVariants.{Less, Equal, Greater}
use Rattle.std.proofs.lemmas.Cmp.{nat_list_cmp_total, tied_itself}
use Rattle.clone_values.specs.Tree.{Tree, undefined, null, boolean, int, text, date, bytes, array, object, map_object, set_object, function, no_members}
use Rattle.clone_values.proofs.Laws.{members_again}
use Rattle.clone_values.specs.KeyTree.{KeyTree}
use Rattle.clone_values.specs.KeyTree as keys
use Rattle.clone_values.specs.Names.{get_member, set_member}
use Rattle.clone_values.specs.declared.path_types.PathSpec.TheVariants.{One}
use Rattle.path_grammar.specs.KeyPath.{parts_of}
use Rattle.path_grammar.proofs.Laws.{some_part}
use Rattle.clone_values.specs.KeyValues.{value_of_key}
use Rattle.key_paths.specs.Evaluation.{evaluated, walked, step_of, takes_length, length_of, property_of, named_properties, unless_undefined, is_length}
use Rattle.key_paths.specs.Injection.{can_inject, is_holder, all_but_last, ends_at_holder, with_properties, held_under, placed}
use Rattle.key_paths.proofs.PathEnds.{no_length, holder_so, ends_inside}

-- ---- an Object or Array with other properties
pub holder_defined : (t : Tree) → is_holder t ≡ true → unless_undefined (Some t) ≡ Some t
holder_defined (array ts ms) h = refl
holder_defined (object ms) h = refl
holder_defined undefined h = cc
holder_defined null h = refl
holder_defined (boolean b) h = refl
holder_defined (int n) h = refl
holder_defined (text s) h = refl
holder_defined (date d) h = refl
holder_defined (bytes b) h = refl
holder_defined (map_object ps) h = refl
holder_defined (set_object ts) h = refl
holder_defined function h = refl

module _ (t : Tree) (h : is_holder t ≡ true) (ps : List (List ℕ × Tree)) where
  data_of : (u : Tree) → is_holder u ≡ true → (named_properties (with_properties u ps) ≡ ps) × (is_holder (with_properties u ps) ≡ true) × (is_some (length_of (with_properties u ps)) ≡ is_some (length_of u))
  data_of (array ts ms) e = (members_again ps, refl, refl)
  data_of (object ms) e = (members_again ps, refl, refl)
  data_of undefined e = cc
  data_of null e = cc
  data_of (boolean b) e = cc
  data_of (int n) e = cc
  data_of (text s) e = cc
  data_of (date d) e = cc
  data_of (bytes b) e = cc
  data_of (map_object qs) e = cc
  data_of (set_object ts) e = cc
  data_of function e = cc

  same_properties : named_properties (with_properties t ps) ≡ ps
  same_properties = (data_of t h).0

  still_holder : is_holder (with_properties t ps) ≡ true
  still_holder = (data_of t h).1

  same_length : (n : List ℕ) → takes_length n (with_properties t ps) ≡ takes_length n t
  same_length n = ap (λ b. is_length n && b) (data_of t h).2

-- ---- a property that was set
itself : (n : List ℕ) → pointwise nat_eq n n ≡ true
itself n = texts_ties n n ∙ ap is_eq (tied_itself nat_list_cmp_total n)

another : (n m : List ℕ) → slice_cmp nat_cmp n m ≡ Greater → pointwise nat_eq m n ≡ false
another n m e = texts_ties m n ∙ ap is_eq (nat_list_cmp_total.antisymm m n ∙ ap ordering_reverse e)

first_got : (ms : List (List ℕ × Tree)) (n : List ℕ) (v : Tree) → get_member ((n, v) ∷ ms) n ≡ Some v
first_got ms n v = ap (λ b. option_map (λ m. m.1) (cond b (Some (n, v)) (find (λ m. pointwise nat_eq m.0 n) ms))) (itself n)

got_set : (ms : List (List ℕ × Tree)) (n : List ℕ) (v : Tree) → get_member (set_member ms n v) n ≡ Some v
got_set [] n v = first_got [] n v
got_set (m ∷ ms) n v =
    elim (slice_cmp nat_cmp n m.0) as (λ o. slice_cmp nat_cmp n m.0 ≡ o → get_member (match_ordering o ((n, v) ∷ m ∷ ms) ((n, v) ∷ ms) (m ∷ set_member ms n v)) n ≡ Some v) [
      | Less ↦ λ e. first_got (m ∷ ms) n v
      | Equal ↦ λ e. first_got ms n v
      | Greater ↦ λ e. ap (λ b. option_map (λ p. p.1) (cond b (Some m) (find (λ p. pointwise nat_eq p.0 n) (set_member ms n v)))) (another n m.0 e) ∙ got_set ms n v
    ] refl

pub turned : (b : Bool) → not b ≡ true → b ≡ false
turned true e = sym e
turned false e = refl

-- a step that isn't to a length
pub plain_step : (t : Tree) (n : List ℕ) → not (takes_length n t) ≡ true → step_of n t ≡ property_of n t
plain_step t n h = ap (λ b. if b then length_of t else property_of n t) (turned (takes_length n t) h)

property_set : (t : Tree) (n : List ℕ) (v : Tree) → is_holder t ≡ true → unless_undefined (Some v) ≡ Some v → not (takes_length n t) ≡ true
    → step_of n (with_properties t (set_member (named_properties t) n v)) ≡ Some v
property_set t n v h d f =
    let ms = set_member (named_properties t) n v in
    plain_step (with_properties t ms) n (ap not (same_length t h ms n) ∙ f)
    ∙ ap (λ us. unless_undefined (get_member us n)) (same_properties t h ms) ∙ ap unless_undefined (got_set (named_properties t) n v) ∙ d

-- ---- an Object that was made
and_false : (b : Bool) → (b && false) ≡ false
and_false true = refl
and_false false = refl

pub no_step : (n : List ℕ) → step_of n (object no_members) ≡ None
no_step n = ap (λ b. if b then length_of (object no_members) else property_of n (object no_members)) (and_false (is_length n))

pub new_holder : (ns : List (List ℕ)) → ends_at_holder ns (object no_members) ≡ true
new_holder [] = refl
new_holder (n ∷ ns) = ap (λ b. true && not b && true) (and_false (is_length n))

-- ---- step by step
pub gives_none : (o : Option Tree) → is_some o ≡ true → option_and_then (walked []) o ≡ None → ⊥
gives_none None h e = cc
gives_none (Some t) h e = cc

module _ (v : Tree) (d : unless_undefined (Some v) ≡ Some v) where
  found : (n : List ℕ) (ns : List (List ℕ)) (t : Tree) → ends_at_holder (all_but_last (n ∷ ns)) t ≡ true → walked (n ∷ ns) t ≡ None → walked (n ∷ ns) (placed (n ∷ ns) t v) ≡ Some v
  found n [] t h e =
      let misses : not (takes_length n t) ≡ true =
      elim (takes_length n t) as (λ b. takes_length n t ≡ b → not b ≡ true) [
        | false ↦ λ q. refl
        | true ↦ λ q. absurd (gives_none (length_of t) (second_so (is_length n) (is_some (length_of t)) q) (ap (λ b. option_and_then (walked []) (if b then length_of t else property_of n t)) (sym q) ∙ e))
      ] refl in
      ap (option_and_then (walked [])) (property_set t n v h d misses)
  found n (m ∷ ns) t h e =
      let rest = all_but_last (m ∷ ns) in
      let plain = no_length n rest t h in
      let inner : (ends_at_holder rest (held_under n (named_properties t)) ≡ true) × (walked (m ∷ ns) (held_under n (named_properties t)) ≡ None) =
      elim (get_member (named_properties t) n) as (λ o. get_member (named_properties t) n ≡ o → (ends_at_holder rest (unwrap_or o (object no_members)) ≡ true) × (walked (m ∷ ns) (unwrap_or o (object no_members)) ≡ None)) [
        | None ↦ λ q. (new_holder rest, ap (option_and_then (walked ns)) (no_step m))
        | Some u ↦ λ q.
            let g : ends_at_holder rest u ≡ true = ap (λ o. unwrap_or (option_map (ends_at_holder rest) o) true) (sym q) ∙ ends_inside n rest t h in
            (g, sym (ap (option_and_then (walked (m ∷ ns))) (plain_step t n plain ∙ ap unless_undefined q ∙ holder_defined u (holder_so rest u g))) ∙ e)
      ] refl in
      let w = placed (m ∷ ns) (held_under n (named_properties t)) v in
      let is_one : is_holder w ≡ true = still_holder (held_under n (named_properties t)) (holder_so rest (held_under n (named_properties t)) inner.0) _ in
      ap (option_and_then (walked (m ∷ ns))) (property_set t n w (holder_so (n ∷ rest) t h) (holder_defined w is_one) plain) ∙ found m ns (held_under n (named_properties t)) inner.0 inner.1

  found_by : (ps : List (List ℕ)) (t : Tree) → 1 ≤ length ps → ends_at_holder (all_but_last ps) t ≡ true → walked ps t ≡ None → walked ps (placed ps t v) ≡ Some v
  found_by [] t l h e = absurd (omega arith)
  found_by (n ∷ ns) t l h e = found n ns t h e

key_defined : (k : KeyTree) → unless_undefined (Some (value_of_key k)) ≡ Some (value_of_key k)
key_defined (keys.number n) = refl
key_defined (keys.date n) = refl
key_defined (keys.text s) = refl
key_defined (keys.binary b) = refl
key_defined (keys.array ks) = refl

pub string_found : (s : List ℕ) (t : Tree) (k : KeyTree) → can_inject (One s) t ≡ true → evaluated (One s) t ≡ None → evaluated (One s) (placed (parts_of s) t (value_of_key k)) ≡ Some (value_of_key k)
string_found s t k h e =
    let ends = ends_at_holder (all_but_last (parts_of s)) t in
    let full : (length s == 0) ≡ false = turned (length s == 0) (first_so (not (length s == 0)) ends h) in
    let whole : (x : Tree) → evaluated (One s) x ≡ walked (parts_of s) x = λ x. ap (λ b. if b then Some x else walked (parts_of s) x) full in
    whole (placed (parts_of s) t (value_of_key k))
    ∙ found_by (value_of_key k) (key_defined k) (parts_of s) t (some_part s) (second_so (not (length s == 0)) ends h) (sym (whole t) ∙ e)
