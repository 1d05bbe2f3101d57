-- One step along the values of parts, and what two parts come to.
use Rattle.std.proofs.Common.{◌≡◌, ◌+◌, ◌-◌, ◌*◌, ◌/◌, ◌<◌, ◌≤◌, ℕ, zero, suc, Bool, true, false, List, [], ◌∷◌, ◌++◌, length, take, drop, get_or, Option, Some, None, refl, sym, ap, ◌∙◌, subst, append_assoc, length-drop, add-one, arith}
use Rattle.std.specs.Prelude.{IsTrue, ◌↔◌, Result, Ok, Err, IfOk}
use Rattle.clone_values.specs.Tree.{Tree, boolean, object, list_of_members, members_of}
use Rattle.clone_values.specs.Names.{set_member}
use Rattle.clone_values.specs.Sameness.{same_tree, put_pair}
use Rattle.clone_values.proofs.Laws.{trees_again, members_again, pairs_again, same_tree_decides}
use Rattle.clone_values.specs.View.{tree_of}
use Rattle.clone_values.specs.declared.value_types.Value.{Value}
use Rattle.clone_values.specs.declared.value_types.Value.TheVariants as value
use Rattle.script_exprs.specs.Expression.{Expression, expression_size, parts_size, expressions_of}
use Rattle.script_values.specs.Evaluating.{Variables, value_in, value_kept, given_by, entries_put, with_property}

-- ---- the first values
pub first_on : (xs items whole : List Tree) (i n m : ℕ) (t : Tree) → drop i xs ≡ t ∷ drop (i + 1) xs → n ≡ m + 1 → items ++ take n (drop i xs) ≡ whole → (items ++ t ∷ []) ++ take m (drop (i + 1) xs) ≡ whole
first_on xs items whole i n m t stands more so_far =
    let one : take n (drop i xs) ≡ t ∷ take m (drop (i + 1) xs) = rw stands (rw more (rw (add-one) refl)) in
    append_assoc items (t ∷ []) (take m (drop (i + 1) xs)) ∙ ap (λ ts. items ++ ts) (sym one) ∙ so_far

-- ---- entries
pub entry_on : (xs : List Tree) (done whole : List (Tree × Tree)) (i j n : ℕ) (k v : Tree) → drop i xs ≡ k ∷ drop (i + 1) xs → j ≡ i + 1 → drop j xs ≡ v ∷ drop (j + 1) xs → n ≡ j + 1 → entries_put done (drop i xs) ≡ whole → entries_put (put_pair done k v) (drop n xs) ≡ whole
entry_on xs done whole i j n k v key next value more so_far =
    let two : drop i xs ≡ k ∷ v ∷ drop n xs = key ∙ ap (λ ts. k ∷ ts) (ap (λ m. drop m xs) (sym next) ∙ value ∙ ap (λ m. v ∷ drop m xs) (sym more)) in
    let given : entries_put done (k ∷ v ∷ drop n xs) ≡ whole = ap (entries_put done) (sym two) ∙ so_far in
    given

pub entries_end : (done : List (Tree × Tree)) (xs : List Tree) → length xs ≤ 1 → entries_put done xs ≡ done
entries_end done [] h = refl
entries_end done (k ∷ []) h = refl
entries_end done (k ∷ v ∷ xs) h = absurd (omega arith)

pub entries_all : (xs : List Tree) (done whole : List (Tree × Tree)) (i : ℕ) → length xs ≤ i + 1 → entries_put done (drop i xs) ≡ whole → done ≡ whole
entries_all xs done whole i h so_far = sym (entries_end done (drop i xs) (omega (arith, length-drop i xs))) ∙ so_far

-- ---- two parts
same_tests : (a b : Bool) (P : Type 0) → (IsTrue a ↔ P) → (IsTrue b ↔ P) → a ≡ b
same_tests true true P h k = refl
same_tests true false P h k = sym (k.1 (h.0 refl))
same_tests false true P h k = h.1 (k.0 refl)
same_tests false false P h k = refl

pub same_is : (b : Bool) (s t : Tree) → (IsTrue b ↔ (s ≡ t)) → boolean b ≡ boolean (same_tree s t)
same_is b s t h = ap boolean (same_tests b (same_tree s t) (s ≡ t) h (same_tree_decides s t (same_tree s t) refl))

pub property_is : (n : List ℕ) (ms : List (List ℕ × Tree)) (v : Tree) → object (members_of (set_member ms n v)) ≡ with_property n (object (members_of ms)) v
property_is n ms v = ap (λ ls. object (members_of (set_member ls n v))) (sym (members_again ms))

-- ---- a value that is kept is told by its tree
kept_again : (v : Value) → value_kept (tree_of v) ≡ v
kept_again value.Undefined = refl
kept_again value.Null = refl
kept_again (value.Bool b) = refl
kept_again (value.Int n) = refl
kept_again (value.Text s) = refl
kept_again (value.Date d) = refl
kept_again (value.Bytes b) = refl
kept_again (value.Array items props) = λ i. value.Array (trees_again items i) (members_again props i)
kept_again (value.Object props) = ap value.Object (members_again props)
kept_again (value.Map pairs) = ap value.Map (pairs_again pairs)
kept_again (value.Set items) = ap value.Set (trees_again items)
kept_again value.Function = refl

kept_is : (v : Value) (t : Tree) → tree_of v ≡ t → v ≡ value_kept t
kept_is v t e = sym (kept_again v) ∙ ap value_kept e

pub given_is : {E : Type 0} (r : Result Value E) (variables : Variables) (e : Expression) → IfOk r (λ v. tree_of v ≡ value_in variables e) → IfOk r (λ v. v ≡ given_by variables e)
given_is (Ok v) variables e h = kept_is v (value_in variables e) h
given_is (Err x) variables e h = tt

-- ---- a part is smaller than the whole
pub part_falls : (es : List Expression) (i : ℕ) (d : Expression) → i < length es → expression_size (get_or es i d) < parts_size (expressions_of es)
part_falls [] i d l = absurd (omega arith)
part_falls (e ∷ es) zero d l = omega arith
part_falls (e ∷ es) (suc i) d l = omega (arith, part_falls es i d (omega arith))
