-- `same_tree` holds of equal trees alone.
use Rattle.std.specs.FinMap.{int_cmp-IsAntisymmetric}
use Rattle.std.specs.Cmp.{Equal-is}
use Rattle.std.proofs.lemmas.Cmp.{int_cmp_total, tied_itself}
use Rattle.std.proofs.Common.{◌≡◌, ◌↔◌, ℤ, Bool, true, false, ◌&&◌, nat_eq, IsTrue, ◌∙◌, refl, sym, ap, true≢false}
use Rattle.std.specs.Ordering.{int_eq, int_cmp, is_eq}
use Rattle.std.specs.Cmp.{first_so, second_so}
use Rattle.std.specs.Cmp.Lexicographic.{pointwise, bytes_decides}
use Rattle.value_trees.specs.Tree.{Tree, Trees, Members, PairTrees, undefined, null, boolean, int, text, date, bytes, array, object, map_object, set_object, function, no_trees, tree_more, no_members, member_more, no_pairs, pair_more}
use Rattle.value_trees.specs.Sameness.{same_tree, same_trees, same_members, same_pairs, same_bool}

bools : (a b : Bool) → same_bool a b ≡ true → a ≡ b
bools true true e = refl
bools true false e = cc
bools false true e = cc
bools false false e = refl

bool_itself : (a : Bool) → same_bool a a ≡ true
bool_itself true = refl
bool_itself false = refl

ints : (m n : ℤ) → int_eq m n ≡ true → m ≡ n
ints m n e = int_cmp-IsAntisymmetric m n ((Equal-is (int_cmp m n)).0 e)

int_itself : (m : ℤ) → int_eq m m ≡ true
int_itself m = ap is_eq (tied_itself int_cmp_total m)

mutual
  tree_same : (s t : Tree) → same_tree s t ≡ true → s ≡ t
  tree_same undefined undefined e = refl
  tree_same null null e = refl
  tree_same (boolean a) (boolean b) e = ap boolean (bools a b e)
  tree_same (int m) (int n) e = ap int (ints m n e)
  tree_same (text s) (text t) e = ap text ((bytes_decides s t).0 e)
  tree_same (date c) (date d) e = ap date (ints c d e)
  tree_same (bytes a) (bytes b) e = ap bytes ((bytes_decides a b).0 e)
  tree_same (array ss ls) (array ts ms) e = λ i. array (trees_same ss ts (first_so (same_trees ss ts) (same_members ls ms) e) i) (members_same ls ms (second_so (same_trees ss ts) (same_members ls ms) e) i)
  tree_same (object ls) (object ms) e = ap object (members_same ls ms e)
  tree_same (map_object ps) (map_object qs) e = ap map_object (pairs_same ps qs e)
  tree_same (set_object ss) (set_object ts) e = ap set_object (trees_same ss ts e)
  tree_same function function e = refl
  tree_same s t e = absurd (true≢false (sym e))

  trees_same : (ss ts : Trees) → same_trees ss ts ≡ true → ss ≡ ts
  trees_same no_trees no_trees e = refl
  trees_same (tree_more s ss) (tree_more t ts) e = λ i. tree_more (tree_same s t (first_so (same_tree s t) (same_trees ss ts) e) i) (trees_same ss ts (second_so (same_tree s t) (same_trees ss ts) e) i)
  trees_same _ _ e = absurd (true≢false (sym e))

  members_same : (ls ms : Members) → same_members ls ms ≡ true → ls ≡ ms
  members_same no_members no_members e = refl
  members_same (member_more m s ls) (member_more n t ms) e =
      let front = first_so (pointwise nat_eq m n && same_tree s t) (same_members ls ms) e in
      λ i. member_more ((bytes_decides m n).0 (first_so (pointwise nat_eq m n) (same_tree s t) front) i) (tree_same s t (second_so (pointwise nat_eq m n) (same_tree s t) front) i)
      (members_same ls ms (second_so (pointwise nat_eq m n && same_tree s t) (same_members ls ms) e) i)
  members_same _ _ e = absurd (true≢false (sym e))

  pairs_same : (ps qs : PairTrees) → same_pairs ps qs ≡ true → ps ≡ qs
  pairs_same no_pairs no_pairs e = refl
  pairs_same (pair_more j s ps) (pair_more k t qs) e =
      let front = first_so (same_tree j k && same_tree s t) (same_pairs ps qs) e in
      λ i. pair_more (tree_same j k (first_so (same_tree j k) (same_tree s t) front) i) (tree_same s t (second_so (same_tree j k) (same_tree s t) front) i)
      (pairs_same ps qs (second_so (same_tree j k && same_tree s t) (same_pairs ps qs) e) i)
  pairs_same _ _ e = absurd (true≢false (sym e))

mutual
  tree_itself : (t : Tree) → same_tree t t ≡ true
  tree_itself undefined = refl
  tree_itself null = refl
  tree_itself (boolean b) = bool_itself b
  tree_itself (int n) = int_itself n
  tree_itself (text s) = (bytes_decides s s).1 refl
  tree_itself (date d) = int_itself d
  tree_itself (bytes b) = (bytes_decides b b).1 refl
  tree_itself (array ts ms) = λ i. trees_itself ts i && members_itself ms i
  tree_itself (object ms) = members_itself ms
  tree_itself (map_object ps) = pairs_itself ps
  tree_itself (set_object ts) = trees_itself ts
  tree_itself function = refl

  trees_itself : (ts : Trees) → same_trees ts ts ≡ true
  trees_itself no_trees = refl
  trees_itself (tree_more t ts) = λ i. tree_itself t i && trees_itself ts i

  members_itself : (ms : Members) → same_members ms ms ≡ true
  members_itself no_members = refl
  members_itself (member_more n t ms) = λ i. (bytes_decides n n).1 refl i && tree_itself t i && members_itself ms i

  pairs_itself : (ps : PairTrees) → same_pairs ps ps ≡ true
  pairs_itself no_pairs = refl
  pairs_itself (pair_more s t ps) = λ i. tree_itself s i && tree_itself t i && pairs_itself ps i

pub same_tree_decides : (s t : Tree) (r : Bool) → r ≡ same_tree s t → IsTrue r ↔ (s ≡ t)
same_tree_decides s t r e = (λ h. tree_same s t (sym e ∙ h), λ h. e ∙ ap (λ w. same_tree w t) h ∙ tree_itself t)

pub tree_decides : (s t : Tree) → (same_tree s t ≡ true) ↔ (s ≡ t)
tree_decides s t = (tree_same s t, λ h. ap (λ w. same_tree w t) h ∙ tree_itself t)
