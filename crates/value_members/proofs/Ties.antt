-- Two primitives tie just where they are equal values.
use Rattle.std.proofs.Common.{◌≡◌, ℕ, Bool, true, false, ◌&&◌, ◌||◌, if◌then◌else◌, List, [], ◌∷◌, Option, Some, None, nat_eq, refl, sym, ◌∙◌, ap, ℤ, true≢false, cond}
use Rattle.std.specs.List.{list_any}
use Rattle.std.specs.Map.{lookup}
use Rattle.std.specs.declared.cmp.Ordering.{Ordering}
use Rattle.std.specs.declared.cmp.Ordering.TheVariants.{Less, Equal, Greater}
use Rattle.std.specs.Ordering.{nat_cmp, int_cmp, int_eq, is_eq, ordering_then, ordering_reverse, match_ordering}
use Rattle.std.specs.Cmp.{Equal-is}
use Rattle.std.specs.FinMap.{nat_cmp-IsAntisymmetric, int_cmp-IsAntisymmetric, slice_cmp-IsAntisymmetric}
use Rattle.std.specs.BTreeSet.{insert_key}
use Rattle.std.specs.BTreeMap.{insert_entry}
use Rattle.std.specs.Cmp.Lexicographic.{slice_cmp, pointwise, texts_ties, bytes_decides}
use Rattle.std.proofs.lemmas.Cmp.{int_cmp_total, nat_cmp_total, nat_list_cmp_total, nat_list_eq_equiv, tied_itself}
use Rattle.clone_values.specs.Tree.{Tree, undefined, null, boolean, int, text}
use Rattle.clone_values.specs.Sameness.{is_primitive, repeats}
use Rattle.value_members.specs.Primitives.{Mark, mark_of, mark_cmp, has, place_in}

-- ---- marks
both_equal : (a b : Ordering) → ordering_then a b ≡ Equal → (a ≡ Equal) × (b ≡ Equal)
both_equal Less b e = cc
both_equal Equal b e = (refl, e)
both_equal Greater b e = cc

-- marks that tie are one
one_mark : (m n : Mark) → mark_cmp m n ≡ Equal → m ≡ n
one_mark m n e =
    let kinds = both_equal (nat_cmp m.0 n.0) _ e in
    let rest = both_equal (int_cmp m.1 n.1) _ kinds.1 in
    let kind = nat_cmp-IsAntisymmetric m.0 n.0 kinds.0 in
    let number = int_cmp-IsAntisymmetric m.1 n.1 rest.0 in
    let letters = slice_cmp-IsAntisymmetric nat_cmp-IsAntisymmetric m.2 n.2 rest.1 in
    λ i. (kind i, number i, letters i)

then_equal : (o : Ordering) → is_eq (ordering_then o Equal) ≡ is_eq o
then_equal Less = refl
then_equal Equal = refl
then_equal Greater = refl

turned_int : (m n : ℤ) → is_eq (ordering_then (int_cmp m n) Equal) ≡ int_eq n m
turned_int m n = then_equal (int_cmp m n) ∙ ap is_eq (int_cmp_total.antisymm m n) ∙ turned (int_cmp n m)
  where
    turned : (o : Ordering) → is_eq (ordering_reverse o) ≡ is_eq o
    turned Less = refl
    turned Equal = refl
    turned Greater = refl

turned_text : (a b : List ℕ) → is_eq (slice_cmp nat_cmp a b) ≡ pointwise nat_eq b a
turned_text a b = sym (texts_ties a b) ∙ nat_list_eq_equiv.symm a b

-- equal primitives tie, and no others
pub ties : (t u : Tree) → is_primitive u ≡ true → (is_primitive t && is_eq (mark_cmp (mark_of t) (mark_of u))) ≡ repeats u t
ties (boolean true) (boolean true) h = refl
ties (boolean true) (boolean false) h = refl
ties (boolean false) (boolean true) h = refl
ties (boolean false) (boolean false) h = refl
ties (int m) (int n) h = turned_int m n
ties (text a) (text b) h = turned_text a b
ties _ undefined h = refl
ties _ null h = refl
ties _ (boolean b) h = refl
ties _ (int n) h = refl
ties _ (text b) h = refl
ties t _ h = absurd (true≢false (sym h))

-- a primitive that repeats is the same value
pub repeats_same : (s t : Tree) → repeats s t ≡ true → s ≡ t
repeats_same undefined undefined e = refl
repeats_same null null e = refl
repeats_same (boolean true) (boolean true) e = refl
repeats_same (boolean false) (boolean false) e = refl
repeats_same (int m) (int n) e = ap int (int_cmp-IsAntisymmetric m n ((Equal-is (int_cmp m n)).0 e))
repeats_same (text s) (text t) e = ap text ((bytes_decides s t).0 e)
repeats_same _ _ e = absurd (true≢false (sym e))

mark_itself : (m : Mark) → mark_cmp m m ≡ Equal
mark_itself m = ap (λ o. ordering_then o (ordering_then (int_cmp m.1 m.1) (slice_cmp nat_cmp m.2 m.2))) (tied_itself nat_cmp_total m.0)
    ∙ ap (λ o. ordering_then o (slice_cmp nat_cmp m.2 m.2)) (tied_itself int_cmp_total m.1) ∙ tied_itself nat_list_cmp_total m.2

-- ---- keys in the order of their marks
module _ {K : Type 0} (cmp : K → K → Ordering) (mark_shown : K → Mark) (cmp_is : (x y : K) → cmp x y ≡ mark_cmp (mark_shown x) (mark_shown y)) where
  -- whether a key has this mark
  abbrev at_mark : Mark → K → Bool
  at_mark m k = is_eq (mark_cmp m (mark_shown k))

  one_test : (m : Mark) (k x : K) → cmp k x ≡ Equal → at_mark m x ≡ at_mark m k
  one_test m k x e = ap (λ n. is_eq (mark_cmp m n)) (sym (one_mark (mark_shown k) (mark_shown x) (sym (cmp_is k x) ∙ e)))

  not_both : (m : Mark) (k x : K) → cmp k x ≡ Greater → (at_mark m x && at_mark m k) ≡ false
  not_both m k x e = by (at_mark m x) (at_mark m k) refl refl
    where
      by : (a b : Bool) → at_mark m x ≡ a → at_mark m k ≡ b → (a && b) ≡ false
      by true true g h =
          let there : m ≡ mark_shown x = one_mark m (mark_shown x) ((Equal-is (mark_cmp m (mark_shown x))).0 g) in
          let here : m ≡ mark_shown k = one_mark m (mark_shown k) ((Equal-is (mark_cmp m (mark_shown k))).0 h) in
          let tie : cmp k x ≡ Equal = cmp_is k x ∙ (λ i. mark_cmp (sym here i) (sym there i)) ∙ mark_itself m in
          cc
      by true false g h = refl
      by false b g h = refl

  any_insert : (m : Mark) (k : K) (ks : List K) → list_any (at_mark m) (insert_key cmp ks k) ≡ (at_mark m k || list_any (at_mark m) ks)
  any_insert m k [] = refl
  any_insert m k (x ∷ xs) =
      elim (cmp k x) as (λ o. cmp k x ≡ o → list_any (at_mark m) (match_ordering o (k ∷ x ∷ xs) (x ∷ xs) (x ∷ insert_key cmp xs k)) ≡ (at_mark m k || list_any (at_mark m) (x ∷ xs))) [
        | Less ↦ λ e. refl
        | Equal ↦ λ e. ap (λ b. b || list_any (at_mark m) xs) (one_test m k x e) ∙ twice (at_mark m k) (list_any (at_mark m) xs) ∙ ap (λ b. at_mark m k || (b || list_any (at_mark m) xs)) (sym (one_test m k x e))
        | Greater ↦ λ e. ap (λ b. at_mark m x || b) (any_insert m k xs) ∙ turn (at_mark m x) (at_mark m k) (list_any (at_mark m) xs)
      ] refl
    where
      twice : (a b : Bool) → (a || b) ≡ (a || (a || b))
      twice true b = refl
      twice false b = refl

      turn : (a b c : Bool) → (a || (b || c)) ≡ (b || (a || c))
      turn true true c = refl
      turn true false c = refl
      turn false b c = refl

  found_insert : (m : Mark) (k : K) (v : ℕ) (es : List (K × ℕ)) → lookup (at_mark m) (insert_entry cmp es k v) ≡ cond (at_mark m k) (Some v) (lookup (at_mark m) es)
  found_insert m k v [] = refl
  found_insert m k v (x ∷ xs) =
      elim (cmp k x.0) as (λ o. cmp k x.0 ≡ o → lookup (at_mark m) (match_ordering o ((k, v) ∷ x ∷ xs) ((x.0, v) ∷ xs) (x ∷ insert_entry cmp xs k v)) ≡ cond (at_mark m k) (Some v) (lookup (at_mark m) (x ∷ xs))) [
        | Less ↦ λ e. refl
        | Equal ↦ λ e. ap (λ b. cond b (Some v) (lookup (at_mark m) xs)) (one_test m k x.0 e) ∙ twice (at_mark m k) ∙ ap (λ b. cond (at_mark m k) (Some v) (cond b (Some x.1) (lookup (at_mark m) xs))) (sym (one_test m k x.0 e))
        | Greater ↦ λ e. ap (λ o. cond (at_mark m x.0) (Some x.1) o) (found_insert m k v xs) ∙ turn (at_mark m x.0) (at_mark m k) (not_both m k x.0 e)
      ] refl
    where
      twice : (b : Bool) → cond b (Some v) (lookup (at_mark m) xs) ≡ cond b (Some v) (cond b (Some x.1) (lookup (at_mark m) xs))
      twice true = refl
      twice false = refl

      turn : (a b : Bool) → (a && b) ≡ false → cond a (Some x.1) (cond b (Some v) (lookup (at_mark m) xs)) ≡ cond b (Some v) (cond a (Some x.1) (lookup (at_mark m) xs))
      turn true true e = absurd (true≢false e)
      turn true false e = refl
      turn false b e = refl

  -- a set that got the key of a primitive
  pub noted : (old new : List K) (k : K) (u : Tree) → is_primitive u ≡ true → mark_shown k ≡ mark_of u → new ≡ insert_key cmp old k
      → (t : Tree) → has mark_shown new t ≡ (has mark_shown old t || repeats u t)
  noted old new k u primitive mark put t =
      ap (λ ks. has mark_shown ks t) put
      ∙ ap (λ b. is_primitive t && b) (any_insert (mark_of t) k old)
      ∙ spread (is_primitive t) (at_mark (mark_of t) k) (list_any (at_mark (mark_of t)) old)
      ∙ ap (λ b. has mark_shown old t || b) (ap (λ m. is_primitive t && is_eq (mark_cmp (mark_of t) m)) mark ∙ ties t u primitive)
    where
      spread : (a b c : Bool) → (a && (b || c)) ≡ ((a && c) || (a && b))
      spread true true true = refl
      spread true true false = refl
      spread true false true = refl
      spread true false false = refl
      spread false b c = refl

  -- a map that got a place for the key of a primitive
  pub kept : (old new : List (K × ℕ)) (k : K) (v : ℕ) (u : Tree) → is_primitive u ≡ true → mark_shown k ≡ mark_of u → new ≡ insert_entry cmp old k v
      → (t : Tree) → place_in mark_shown new t ≡ (if repeats u t then Some v else place_in mark_shown old t)
  kept old new k v u primitive mark put t =
      ap (λ es. place_in mark_shown es t) put
      ∙ ap (λ o. if is_primitive t then o else None) (found_insert (mark_of t) k v old)
      ∙ spread (is_primitive t) (at_mark (mark_of t) k) (lookup (at_mark (mark_of t)) old)
      ∙ ap (λ b. if b then Some v else place_in mark_shown old t) (ap (λ m. is_primitive t && is_eq (mark_cmp (mark_of t) m)) mark ∙ ties t u primitive)
    where
      spread : (a b : Bool) (o : Option ℕ) → (if a then cond b (Some v) o else None) ≡ (if a && b then Some v else (if a then o else None))
      spread true b o = refl
      spread false b o = refl

pub has_none : {K : Type 0} (mark_shown : K → Mark) (ks : List K) → ks ≡ [] → (t : Tree) → has mark_shown ks t ≡ false
has_none mark_shown ks e t = ap (λ qs. has mark_shown qs t) e ∙ never (is_primitive t)
  where
    never : (b : Bool) → (b && false) ≡ false
    never true = refl
    never false = refl
