-- Injection by a key path leaves a well formed value well formed.
use Rattle.std.proofs.Common.{cond, ◌≡◌, ℕ, suc, ◌≤◌, ◌==◌, nat_eq, nat_lt, ltb-true, leb-true, Bool, true, false, ◌&&◌, not, List, [], ◌∷◌, length, Option, Some, None, option_map, unwrap_or, refl, sym, ◌∙◌, ap, arith}
use Rattle.std.specs.Prelude.{if◌then◌else◌}
use Rattle.std.specs.Option.{is_some, option_and_then}
use Rattle.std.specs.Cmp.{first_so, second_so}
use Rattle.std.specs.Cmp.Lexicographic.{slice_cmp, pointwise, texts_ties}
use Rattle.std.specs.List.{find, list_all}
use Rattle.std.specs.Ordering.{nat_cmp, is_lt, is_eq, match_ordering, ordering_reverse}
use Rattle.std.specs.declared.cmp.Ordering.{Ordering}
use Rattle.std.specs.declared.cmp.Ordering.TheVariants.{Less, Equal, Greater}
use Rattle.std.proofs.lemmas.Cmp.{nat_list_cmp_total}
use Rattle.idb_base.specs.declared.limits.TheConstants.{GREATEST_LENGTH}
use Rattle.clone_values.specs.Tree.{Tree, undefined, null, boolean, int, text, date, bytes, array, object, map_object, set_object, function, no_members, members_of, list_of_members}
use Rattle.clone_values.specs.KeyTree.{KeyTree}
use Rattle.clone_values.specs.Names.{names_of, rises_after, is_rising, set_member, get_member}
use Rattle.clone_values.specs.WellFormed.{is_value, member_values, is_text, is_within_limit, are_properties, are_digits, is_array_name, IsValue}
use Rattle.clone_values.specs.KeyValues.{IsKey, value_of_key}
use Rattle.clone_values.proofs.Laws.{members_again, both_so, array_fits, array_again, object_fits, object_again, set_longer, values_set, names_set, properties_set}
use Rattle.clone_values.specs.declared.path_types.PathSpec.{PathSpec}
use Rattle.clone_values.specs.declared.path_types.PathSpec.TheVariants.{One, Many}
use Rattle.path_grammar.specs.KeyPath.{parts_of, is_part_name, is_key_path}
use Rattle.path_grammar.proofs.Laws.{some_part, parts_are_names}
use Rattle.key_paths.specs.Evaluation.{evaluated, walked, takes_length, length_of, property_of, named_properties, unless_undefined, is_length}
use Rattle.key_paths.specs.Injection.{can_inject, injected, is_holder, all_but_last, ends_at_holder, with_properties, held_under, placed, has_room_along, has_room_for}
use Rattle.key_paths.proofs.PathEnds.{no_length, holder_so, ends_inside}
use Rattle.key_paths.proofs.FoundAgain.{holder_defined, turned, plain_step, no_step, new_holder, gives_none}
use Rattle.key_order.proofs.Laws.{value_formed}
use Rattle.key_paths.proofs.StaysCloneable.{members_back}
use Rattle.key_paths.proofs.ValuesFound.{properties_formed}

-- ---- how long a list of properties is once one is set
unlike : (n m : List ℕ) (o : Ordering) → slice_cmp nat_cmp n m ≡ o → is_eq (ordering_reverse o) ≡ false → pointwise nat_eq m n ≡ false
unlike n m o e f = texts_ties m n ∙ ap is_eq (nat_list_cmp_total.antisymm m n ∙ ap ordering_reverse e) ∙ f

is_less : (o : Ordering) → is_lt o ≡ true → o ≡ Less
is_less Less h = refl
is_less Equal h = cc
is_less Greater h = cc

rising_rest : (k : List ℕ × Tree) (ms : List (List ℕ × Tree)) → is_rising (names_of (k ∷ ms)) ≡ true → is_rising (names_of ms) ≡ true
rising_rest k [] h = refl
rising_rest k (l ∷ ms) h = second_so (is_lt (slice_cmp nat_cmp k.0 l.0)) (rises_after l.0 (names_of ms)) h

-- a name below the first is not there
not_there : (ms : List (List ℕ × Tree)) (m : List ℕ × Tree) (n : List ℕ) → is_rising (names_of (m ∷ ms)) ≡ true → slice_cmp nat_cmp n m.0 ≡ Less → is_some (get_member (m ∷ ms) n) ≡ false
not_there [] m n h e = ap (λ b. is_some (option_map (λ p. p.1) (cond b (Some m) (find (λ p. pointwise nat_eq p.0 n) [])))) (unlike n m.0 Less e refl)
not_there (l ∷ ms) m n h e =
    let below : slice_cmp nat_cmp m.0 l.0 ≡ Less = is_less (slice_cmp nat_cmp m.0 l.0) (first_so (is_lt (slice_cmp nat_cmp m.0 l.0)) (rises_after l.0 (names_of ms)) h) in
    ap (λ b. is_some (option_map (λ p. p.1) (cond b (Some m) (find (λ p. pointwise nat_eq p.0 n) (l ∷ ms))))) (unlike n m.0 Less e refl)
    ∙ not_there ms l n (rising_rest m (l ∷ ms) h) (nat_list_cmp_total.trans n m.0 l.0 e below)

same_length : (ps : List (List ℕ × Tree)) (n : List ℕ) (w : Tree) → is_rising (names_of ps) ≡ true → is_some (get_member ps n) ≡ true → length (set_member ps n w) ≡ length ps
same_length [] n w h g = cc
same_length (m ∷ ps) n w h g =
    elim (slice_cmp nat_cmp n m.0) as (λ o. slice_cmp nat_cmp n m.0 ≡ o → length (match_ordering o ((n, w) ∷ m ∷ ps) ((n, w) ∷ ps) (m ∷ set_member ps n w)) ≡ length (m ∷ ps)) [
      | Less ↦ λ e. let wrong : true ≡ false = sym g ∙ not_there ps m n h e in cc
      | Equal ↦ λ e. refl
      | Greater ↦ λ e. ap suc (same_length ps n w (rising_rest m ps h) (ap (λ b. is_some (option_map (λ p. p.1) (cond b (Some m) (find (λ p. pointwise nat_eq p.0 n) ps)))) (sym (unlike n m.0 Greater e refl)) ∙ g))
    ] refl

still_short : (ps : List (List ℕ × Tree)) (n : List ℕ) (w : Tree) (o : Option Tree) (f : Tree → Bool) → are_properties ps ≡ true → get_member ps n ≡ o
    → unwrap_or (option_map f o) (nat_lt (length ps) GREATEST_LENGTH) ≡ true → length (set_member ps n w) ≤ GREATEST_LENGTH
still_short ps n w None f h e room = omega (arith, set_longer ps n w, ltb-true (length ps) GREATEST_LENGTH room)
still_short ps n w (Some u) f h e room =
    let ab = first_so (is_within_limit ps && list_all is_text (names_of ps)) (is_rising (names_of ps)) h in
    omega (
      arith,
      same_length ps n w (second_so (is_within_limit ps && list_all is_text (names_of ps)) (is_rising (names_of ps)) h) (ap is_some e),
      leb-true (length ps) GREATEST_LENGTH (first_so (is_within_limit ps) (list_all is_text (names_of ps)) ab),
    )

held_formed : (ps : List (List ℕ × Tree)) (n : List ℕ) → member_values (members_of ps) ≡ true → is_value (held_under n ps) ≡ true
held_formed [] n h = refl
held_formed (m ∷ ps) n h =
    elim (pointwise nat_eq m.0 n) as (λ b. is_value (unwrap_or (option_map (λ p. p.1) (cond b (Some m) (find (λ p. pointwise nat_eq p.0 n) ps))) (object no_members)) ≡ true) [
      | true ↦ first_so (is_value m.1) _ h
      | false ↦ held_formed ps n (second_so (is_value m.1) _ h)
    ]

-- ---- an Object or Array with one property set
set_in : (t : Tree) (n : List ℕ) (w : Tree) (f : Tree → Bool) → is_holder t ≡ true → not (takes_length n t) ≡ true → is_part_name n ≡ true → is_value t ≡ true → is_value w ≡ true
    → unwrap_or (option_map f (get_member (named_properties t) n)) (nat_lt (length (named_properties t)) GREATEST_LENGTH) ≡ true
    → is_value (with_properties t (set_member (named_properties t) n w)) ≡ true
set_in (object ms) n w f h l name v g room =
    let ps = list_of_members ms in
    let one = object_fits ms v in
    let new = set_member ps n w in
    object_again (members_of new) (record {
      values = values_set ps n w (ap member_values (members_back ms) ∙ one.values) g;
      props = ap are_properties (members_again new) ∙ properties_set ps n w one.props (first_so (is_text n) _ name) (still_short ps n w (get_member ps n) f one.props refl room);
    })
set_in (array ts ms) n w f h l name v g room =
    let ps = list_of_members ms in
    let one = array_fits ts ms v in
    let no : not (is_length n) ≡ true = plain (is_length n) l in
    let allowed : is_array_name n ≡ true = both_so (not (is_length n)) (not (are_digits n)) no (second_so (is_text n) _ name) in
    let new = set_member ps n w in
    array_again ts (members_of new) (record {
      items = one.items;
      count = one.count;
      values = values_set ps n w (ap member_values (members_back ms) ∙ one.values) g;
      props = ap are_properties (members_again new) ∙ properties_set ps n w one.props (first_so (is_text n) _ name) (still_short ps n w (get_member ps n) f one.props refl room);
      names = ap (λ us. list_all is_array_name (names_of us)) (members_again new) ∙ names_set is_array_name ps n w one.names allowed;
    })
  where
    plain : (b : Bool) → not (b && true) ≡ true → not b ≡ true
    plain true e = e
    plain false e = refl
set_in undefined n w f h l name v g room = cc
set_in null n w f h l name v g room = cc
set_in (boolean b) n w f h l name v g room = cc
set_in (int i) n w f h l name v g room = cc
set_in (text s) n w f h l name v g room = cc
set_in (date d) n w f h l name v g room = cc
set_in (bytes b) n w f h l name v g room = cc
set_in (map_object ps) n w f h l name v g room = cc
set_in (set_object ts) n w f h l name v g room = cc
set_in function n w f h l name v g room = cc

-- ---- along a path
-- what is known of the value behind the first identifier
record Inner (rest : List (List ℕ)) (more : List (List ℕ)) (u : Tree) : Type 0 where
  ends : ends_at_holder rest u ≡ true
  fails : walked more u ≡ None
  room : has_room_along more u ≡ true

module _ (v : Tree) (formed : is_value v ≡ true) where
  go : (n : List ℕ) (ns : List (List ℕ)) (t : Tree) → ends_at_holder (all_but_last (n ∷ ns)) t ≡ true → walked (n ∷ ns) t ≡ None → has_room_along (n ∷ ns) t ≡ true → list_all is_part_name (n ∷ ns) ≡ true → is_value t ≡ true
      → is_value (placed (n ∷ ns) t v) ≡ true
  go n [] t h e room names f =
      let misses : not (takes_length n t) ≡ true =
      elim (takes_length n t) as (λ b. takes_length n t ≡ b → not b ≡ true) [
        | false ↦ λ q. refl
        | true ↦ λ q. absurd (gives_none (length_of t) (second_so (is_length n) (is_some (length_of t)) q) (ap (λ b. option_and_then (walked []) (if b then length_of t else property_of n t)) (sym q) ∙ e))
      ] refl in
      set_in t n v (has_room_along []) h misses (first_so (is_part_name n) _ names) f formed room
  go n (m ∷ ns) t h e room names f =
      let rest = all_but_last (m ∷ ns) in
      let plain = no_length n rest t h in
      let inner : Inner rest (m ∷ ns) (held_under n (named_properties t)) =
      elim (get_member (named_properties t) n) as (λ o. get_member (named_properties t) n ≡ o → Inner rest (m ∷ ns) (unwrap_or o (object no_members))) [
        | None ↦ λ q. record { ends = new_holder rest; fails = ap (option_and_then (walked ns)) (no_step m); room = refl }
        | Some u ↦ λ q.
            let g : ends_at_holder rest u ≡ true = ap (λ o. unwrap_or (option_map (ends_at_holder rest) o) true) (sym q) ∙ ends_inside n rest t h in
            record {
              ends = g;
              fails = sym (ap (option_and_then (walked (m ∷ ns))) (plain_step t n plain ∙ ap unless_undefined q ∙ holder_defined u (holder_so rest u g))) ∙ e;
              room = ap (λ o. unwrap_or (option_map (has_room_along (m ∷ ns)) o) (nat_lt (length (named_properties t)) GREATEST_LENGTH)) (sym q) ∙ room;
            }
      ] refl in
      let w = go m ns (held_under n (named_properties t)) inner.ends inner.fails inner.room (second_so (is_part_name n) _ names) (held_formed (named_properties t) n (properties_formed t f)) in
      set_in t n (placed (m ∷ ns) (held_under n (named_properties t)) v) (has_room_along (m ∷ ns)) (holder_so (n ∷ rest) t h) plain (first_so (is_part_name n) _ names) f w room

  go_by : (ps : List (List ℕ)) (t : Tree) → 1 ≤ length ps → ends_at_holder (all_but_last ps) t ≡ true → walked ps t ≡ None → has_room_along ps t ≡ true → list_all is_part_name ps ≡ true → is_value t ≡ true
      → is_value (placed ps t v) ≡ true
  go_by [] t l h e room names f = absurd (omega arith)
  go_by (n ∷ ns) t l h e room names f = go n ns t h e room names f

pub injected_formed : (path : PathSpec) (t : Tree) (k : KeyTree) → is_key_path path ≡ true → can_inject path t ≡ true → evaluated path t ≡ None → has_room_for path t ≡ true → IsValue t → IsKey k
    → IsValue (injected path t k)
injected_formed (One s) t k path h e room f g =
    let ends = ends_at_holder (all_but_last (parts_of s)) t in
    let full : (length s == 0) ≡ false = turned (length s == 0) (first_so (not (length s == 0)) ends h) in
    go_by (value_of_key k) (value_formed k g) (parts_of s) t (some_part s) (second_so (not (length s == 0)) ends h) (ap (λ b. if b then Some t else walked (parts_of s) t) (sym full) ∙ e) room (parts_are_names s path full) f
injected_formed (Many ss) t k path h e room f g = f
