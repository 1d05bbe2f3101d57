-- `key_cmp` is a total order in which only equal keys tie.
--     key_cmp_total, key_cmp_same
--     then_equal            two answers one after the other tie only where both do
use Rattle.std.proofs.Common.{◌≡◌, ℕ, ℤ, pos, List, [], refl, sym, ◌∙◌, ap}
use Rattle.std.specs.declared.cmp.Ordering.{Ordering}
use Rattle.std.specs.declared.cmp.Ordering.TheVariants.{Less, Equal, Greater}
use Rattle.std.specs.Str.{chars}
use Rattle.std.specs.Ordering.{nat_cmp, int_cmp, ordering_then, ordering_reverse, then_cmp, on}
use Rattle.std.specs.Cmp.{IsTotalOrder}
use Rattle.std.specs.Cmp.Lexicographic.{slice_cmp}
use Rattle.std.specs.FinMap.{IsAntisymmetric, nat_cmp-IsAntisymmetric, int_cmp-IsAntisymmetric, slice_cmp-IsAntisymmetric}
use Rattle.std.proofs.lemmas.Cmp.{nat_cmp_total, int_cmp_total, nat_list_cmp_total, on_total, then_total, alike_right}
use Rattle.clone_values.specs.KeyTree.{KeyTree, KeyTrees, number, date, text, binary, array, no_keys, key_more}
use Rattle.key_order.specs.KeyOrder.{code_units, text_cmp, type_rank, key_cmp, keys_cmp}

pub then_equal : (a b : Ordering) → ordering_then a b ≡ Equal → (a ≡ Equal) × (b ≡ Equal)
then_equal Less b e = (cc, cc)
then_equal Equal b e = (refl, e)
then_equal Greater b e = (cc, cc)

equal_then : (a : Ordering) → a ≡ ordering_then a Equal
equal_then Less = refl
equal_then Equal = refl
equal_then Greater = refl

then_reverse : (a b : Ordering) → ordering_then (ordering_reverse a) (ordering_reverse b) ≡ ordering_reverse (ordering_then a b)
then_reverse Less b = refl
then_reverse Equal b = refl
then_reverse Greater b = refl

-- three answers of one order and then three of another
then_trans : (xy yz xz a b c : Ordering) → (xy ≡ Less → yz ≡ Less → xz ≡ Less) → (xy ≡ Equal → xz ≡ yz) → (yz ≡ Equal → xz ≡ xy) → (a ≡ Less → b ≡ Less → c ≡ Less)
    → ordering_then xy a ≡ Less → ordering_then yz b ≡ Less → ordering_then xz c ≡ Less
then_trans Less Less xz a b c f g k after p q = ap (λ t. ordering_then t c) (f refl refl)
then_trans Less Equal xz a b c f g k after p q = ap (λ t. ordering_then t c) (k refl)
then_trans Equal Less xz a b c f g k after p q = ap (λ t. ordering_then t c) (g refl)
then_trans Equal Equal xz a b c f g k after p q = ap (λ t. ordering_then t c) (g refl) ∙ after p q
then_trans Greater yz xz a b c f g k after p q = cc
then_trans xy Greater xz a b c f g k after p q = cc

text_cmp_total : IsTotalOrder text_cmp
text_cmp_total = then_total (on_total code_units nat_list_cmp_total) nat_list_cmp_total

text_cmp_same : IsAntisymmetric text_cmp
text_cmp_same s t e = slice_cmp-IsAntisymmetric nat_cmp-IsAntisymmetric s t (then_equal (slice_cmp nat_cmp (code_units s) (code_units t)) (slice_cmp nat_cmp s t) e).1

-- what decides a comparison but the members of arrays
abbrev number_of : KeyTree → ℤ
number_of (number n) = n
number_of (date d) = d
number_of _ = pos 0

abbrev text_in : KeyTree → List ℕ
text_in (text s) = s
text_in _ = []

abbrev bytes_in : KeyTree → List ℕ
bytes_in (binary b) = b
bytes_in _ = []

abbrev members : KeyTree → KeyTrees
members (array ks) = ks
members _ = no_keys

abbrev outer_cmp : KeyTree → KeyTree → Ordering
outer_cmp = then_cmp (on type_rank nat_cmp) (then_cmp (on number_of int_cmp) (then_cmp (on text_in text_cmp) (on bytes_in (slice_cmp nat_cmp))))

outer_total : IsTotalOrder outer_cmp
outer_total = then_total (on_total type_rank nat_cmp_total) (then_total (on_total number_of int_cmp_total) (then_total (on_total text_in text_cmp_total) (on_total bytes_in nat_list_cmp_total)))

twice_then : (a : Ordering) → a ≡ ordering_then (ordering_then a Equal) Equal
twice_then Less = refl
twice_then Equal = refl
twice_then Greater = refl

split : (j k : KeyTree) → key_cmp j k ≡ ordering_then (outer_cmp j k) (keys_cmp (members j) (members k))
unfolding chars
split (number m) (number n) = twice_then (int_cmp m n)
split (date c) (date d) = twice_then (int_cmp c d)
split (text s) (text t) = twice_then (text_cmp s t)
split (binary a) (binary b) = equal_then (slice_cmp nat_cmp a b)
split (array js) (array ks) = refl
split j k = refl

none_trans : (js ks : KeyTrees) → keys_cmp no_keys js ≡ Less → keys_cmp js ks ≡ Less → keys_cmp no_keys ks ≡ Less
none_trans no_keys ks p q = cc
none_trans (key_more j js) no_keys p q = cc
none_trans (key_more j js) (key_more k ks) p q = refl

-- by the part that decides first, and then by what is known of the members
key_trans_by : (x y z : KeyTree) → (keys_cmp (members x) (members y) ≡ Less → keys_cmp (members y) (members z) ≡ Less → keys_cmp (members x) (members z) ≡ Less)
    → key_cmp x y ≡ Less → key_cmp y z ≡ Less → key_cmp x z ≡ Less
key_trans_by x y z after p q = split x z ∙ then_trans (outer_cmp x y) (outer_cmp y z) (outer_cmp x z) _ _ _ (outer_total.trans x y z) (outer_total.congr x y z) (λ e. sym (alike_right outer_total y z x e))
    after (sym (split x y) ∙ p) (sym (split y z) ∙ q)

mutual
  pub key_cmp_same : (x y : KeyTree) → key_cmp x y ≡ Equal → x ≡ y
  key_cmp_same (number m) (number n) e = ap number (int_cmp-IsAntisymmetric m n e)
  key_cmp_same (date c) (date d) e = ap date (int_cmp-IsAntisymmetric c d e)
  key_cmp_same (text s) (text t) e = ap text (text_cmp_same s t e)
  key_cmp_same (binary a) (binary b) e = ap binary (slice_cmp-IsAntisymmetric nat_cmp-IsAntisymmetric a b e)
  key_cmp_same (array js) (array ks) e = ap array (keys_cmp_same js ks e)
  key_cmp_same x y e = cc

  keys_cmp_same : (xs ys : KeyTrees) → keys_cmp xs ys ≡ Equal → xs ≡ ys
  keys_cmp_same no_keys no_keys e = refl
  keys_cmp_same no_keys (key_more y ys) e = cc
  keys_cmp_same (key_more x xs) no_keys e = cc
  keys_cmp_same (key_more x xs) (key_more y ys) e =
      let both = then_equal (key_cmp x y) (keys_cmp xs ys) e in λ i. key_more (key_cmp_same x y both.0 i) (keys_cmp_same xs ys both.1 i)

mutual
  key_trans : (x y z : KeyTree) → key_cmp x y ≡ Less → key_cmp y z ≡ Less → key_cmp x z ≡ Less
  key_trans (number n) y z = key_trans_by (number n) y z (none_trans (members y) (members z))
  key_trans (date d) y z = key_trans_by (date d) y z (none_trans (members y) (members z))
  key_trans (text s) y z = key_trans_by (text s) y z (none_trans (members y) (members z))
  key_trans (binary b) y z = key_trans_by (binary b) y z (none_trans (members y) (members z))
  key_trans (array js) y z = key_trans_by (array js) y z (keys_trans js (members y) (members z))

  keys_trans : (xs ys zs : KeyTrees) → keys_cmp xs ys ≡ Less → keys_cmp ys zs ≡ Less → keys_cmp xs zs ≡ Less
  keys_trans no_keys ys zs p q = none_trans ys zs p q
  keys_trans (key_more x xs) no_keys zs p q = cc
  keys_trans (key_more x xs) (key_more y ys) no_keys p q = cc
  keys_trans (key_more x xs) (key_more y ys) (key_more z zs) p q = then_trans (key_cmp x y) (key_cmp y z) (key_cmp x z) _ _ _ (key_trans x y z)
      (λ e. ap (λ k. key_cmp k z) (key_cmp_same x y e)) (λ e. sym (ap (λ k. key_cmp x k) (key_cmp_same y z e))) (keys_trans xs ys zs) p q

mutual
  key_dual : (x y : KeyTree) → key_cmp x y ≡ ordering_reverse (key_cmp y x)
  key_dual (number m) (number n) = int_cmp_total.antisymm m n
  key_dual (date c) (date d) = int_cmp_total.antisymm c d
  key_dual (text s) (text t) = text_cmp_total.antisymm s t
  key_dual (binary a) (binary b) = nat_list_cmp_total.antisymm a b
  key_dual (array js) (array ks) = keys_dual js ks
  key_dual x y = nat_cmp_total.antisymm (type_rank x) (type_rank y)

  keys_dual : (xs ys : KeyTrees) → keys_cmp xs ys ≡ ordering_reverse (keys_cmp ys xs)
  keys_dual no_keys no_keys = refl
  keys_dual no_keys (key_more y ys) = refl
  keys_dual (key_more x xs) no_keys = refl
  keys_dual (key_more x xs) (key_more y ys) = (λ i. ordering_then (key_dual x y i) (keys_dual xs ys i)) ∙ then_reverse (key_cmp y x) (keys_cmp ys xs)

pub key_cmp_total : IsTotalOrder key_cmp
key_cmp_total = record { antisymm = key_dual; trans = key_trans; congr = λ x y z e. ap (λ k. key_cmp k z) (key_cmp_same x y e) }
