-- A value as a plain tree, which contracts see in place of `Value` (HTML, StructuredSerializeForStorage, for the kinds).
--     Tree              a value; a text is the list of its UTF-8 bytes
--     Trees, Members, PairTrees      its lists: items, named properties, and pairs of a Map
--     trees_of, members_of, pairs_of      the same from plain lists
--     tree_size         a measure: greater than that of each part
--     tree_code         by which a proof tells two trees apart
use Rattle.std.specs.Prelude.{◌≡◌, ℕ, ◌+◌, Bool, true, false, ℤ, pos, negsuc, List, [], ◌∷◌, slice_index_or, refl}
use Rattle.std.proofs.Common.{sym, ◌∙◌, ap}
use base.Stored.{Gv, gnil, gnum, gcons, Coded}

mutual
  pub data Tree : Type 0 where
    undefined : Tree
    null : Tree
    boolean : Bool → Tree
    int : ℤ → Tree
    text : List ℕ → Tree
    date : ℤ → Tree
    bytes : List ℕ → Tree
    array : Trees → Members → Tree
    object : Members → Tree
    map_object : PairTrees → Tree
    set_object : Trees → Tree
    function : Tree

  pub data Trees : Type 0 where
    no_trees : Trees
    tree_more : Tree → Trees → Trees

  pub data Members : Type 0 where
    no_members : Members
    member_more : List ℕ → Tree → Members → Members

  pub data PairTrees : Type 0 where
    no_pairs : PairTrees
    pair_more : Tree → Tree → PairTrees → PairTrees

-- the list of trees as a part of a tree
abbrev pub trees_of : List Tree → Trees
trees_of [] = no_trees
trees_of (t ∷ ts) = tree_more t (trees_of ts)

-- the list of named properties as a part of a tree
abbrev pub members_of : List (List ℕ × Tree) → Members
members_of [] = no_members
members_of (m ∷ ms) = member_more m.0 m.1 (members_of ms)

-- the list of pairs as a part of a tree
abbrev pub pairs_of : List (Tree × Tree) → PairTrees
pairs_of [] = no_pairs
pairs_of (p ∷ ps) = pair_more p.0 p.1 (pairs_of ps)

-- and back
abbrev pub list_of_trees : Trees → List Tree
list_of_trees no_trees = []
list_of_trees (tree_more t ts) = t ∷ list_of_trees ts

abbrev pub list_of_members : Members → List (List ℕ × Tree)
list_of_members no_members = []
list_of_members (member_more n t ms) = (n, t) ∷ list_of_members ms

abbrev pub list_of_pairs : PairTrees → List (Tree × Tree)
list_of_pairs no_pairs = []
list_of_pairs (pair_more s t ps) = (s, t) ∷ list_of_pairs ps

-- how many parts a tree has, more than each part
abbrev mutual
  pub tree_size : Tree → ℕ
  tree_size undefined = 1
  tree_size null = 1
  tree_size (boolean b) = 1
  tree_size (int n) = 1
  tree_size (text s) = 1
  tree_size (date d) = 1
  tree_size (bytes b) = 1
  tree_size (array ts ms) = 1 + trees_size ts + members_size ms
  tree_size (object ms) = 1 + members_size ms
  tree_size (map_object ps) = 1 + pairs_size ps
  tree_size (set_object ts) = 1 + trees_size ts
  tree_size function = 1

  pub trees_size : Trees → ℕ
  trees_size no_trees = 1
  trees_size (tree_more t ts) = 1 + tree_size t + trees_size ts

  pub members_size : Members → ℕ
  members_size no_members = 1
  members_size (member_more n t ms) = 2 + tree_size t + members_size ms

  pub pairs_size : PairTrees → ℕ
  pairs_size no_pairs = 1
  pairs_size (pair_more s t ps) = 2 + tree_size s + tree_size t + pairs_size ps

-- ---- a code for each, and what reads it back
abbrev pub bytes_code : List ℕ → Gv
bytes_code [] = gnil
bytes_code (b ∷ bs) = gcons (gnum b) (bytes_code bs)

abbrev pub coded_bytes : Gv → List ℕ
coded_bytes (gcons (gnum b) g) = b ∷ coded_bytes g
coded_bytes _ = []

pub bytes_back : (bs : List ℕ) → coded_bytes (bytes_code bs) ≡ bs
bytes_back [] = refl
bytes_back (b ∷ bs) = ap (λ r. b ∷ r) (bytes_back bs)

abbrev pub int_code : ℤ → Gv
int_code (pos n) = gcons gnil (gnum n)
int_code (negsuc n) = gnum n

abbrev pub coded_int : Gv → ℤ
coded_int (gcons _ (gnum n)) = pos n
coded_int (gnum n) = negsuc n
coded_int _ = pos 0

pub int_back : (z : ℤ) → coded_int (int_code z) ≡ z
int_back (pos n) = refl
int_back (negsuc n) = refl

abbrev bool_code : Bool → Gv
bool_code true = gnum 0
bool_code false = gnil

abbrev coded_flag : Gv → Bool
coded_flag (gnum _) = true
coded_flag _ = false

bool_back : (b : Bool) → coded_flag (bool_code b) ≡ b
bool_back true = refl
bool_back false = refl

-- a kind's number and two parts
abbrev mutual
  pub tree_to_code : Tree → Gv
  tree_to_code undefined = gcons (gnum 0) (gcons gnil gnil)
  tree_to_code null = gcons (gnum 1) (gcons gnil gnil)
  tree_to_code (boolean b) = gcons (gnum 2) (gcons (bool_code b) gnil)
  tree_to_code (int n) = gcons (gnum 3) (gcons (int_code n) gnil)
  tree_to_code (text s) = gcons (gnum 4) (gcons (bytes_code s) gnil)
  tree_to_code (date d) = gcons (gnum 5) (gcons (int_code d) gnil)
  tree_to_code (bytes b) = gcons (gnum 6) (gcons (bytes_code b) gnil)
  tree_to_code (array ts ms) = gcons (gnum 7) (gcons (trees_to_code ts) (members_to_code ms))
  tree_to_code (object ms) = gcons (gnum 8) (gcons gnil (members_to_code ms))
  tree_to_code (map_object ps) = gcons (gnum 9) (gcons (pairs_to_code ps) gnil)
  tree_to_code (set_object ts) = gcons (gnum 10) (gcons (trees_to_code ts) gnil)
  tree_to_code function = gcons (gnum 11) (gcons gnil gnil)

  pub trees_to_code : Trees → Gv
  trees_to_code no_trees = gnil
  trees_to_code (tree_more t ts) = gcons (tree_to_code t) (trees_to_code ts)

  pub members_to_code : Members → Gv
  members_to_code no_members = gnil
  members_to_code (member_more n t ms) = gcons (bytes_code n) (gcons (tree_to_code t) (members_to_code ms))

  pub pairs_to_code : PairTrees → Gv
  pairs_to_code no_pairs = gnil
  pairs_to_code (pair_more s t ps) = gcons (tree_to_code s) (gcons (tree_to_code t) (pairs_to_code ps))

abbrev mutual
  pub code_to_tree : Gv → Tree
  code_to_tree (gcons (gnum n) (gcons a b)) = slice_index_or (undefined ∷ null ∷ boolean (coded_flag a) ∷ int (coded_int a) ∷ text (coded_bytes a)
      ∷ date (coded_int a) ∷ bytes (coded_bytes a) ∷ array (code_to_trees a) (code_to_members b) ∷ object (code_to_members b)
      ∷ map_object (code_to_pairs a) ∷ set_object (code_to_trees a) ∷ []) n function
  code_to_tree _ = function

  pub code_to_trees : Gv → Trees
  code_to_trees (gcons a b) = tree_more (code_to_tree a) (code_to_trees b)
  code_to_trees _ = no_trees

  pub code_to_members : Gv → Members
  code_to_members (gcons a (gcons b c)) = member_more (coded_bytes a) (code_to_tree b) (code_to_members c)
  code_to_members _ = no_members

  pub code_to_pairs : Gv → PairTrees
  code_to_pairs (gcons a (gcons b c)) = pair_more (code_to_tree a) (code_to_tree b) (code_to_pairs c)
  code_to_pairs _ = no_pairs

mutual
  pub tree_back : (t : Tree) → code_to_tree (tree_to_code t) ≡ t
  tree_back undefined = refl
  tree_back null = refl
  tree_back (boolean b) = ap boolean (bool_back b)
  tree_back (int n) = ap int (int_back n)
  tree_back (text s) = ap text (bytes_back s)
  tree_back (date d) = ap date (int_back d)
  tree_back (bytes b) = ap bytes (bytes_back b)
  tree_back (array ts ms) = λ i. array (trees_back ts i) (members_back ms i)
  tree_back (object ms) = ap object (members_back ms)
  tree_back (map_object ps) = ap map_object (pairs_back ps)
  tree_back (set_object ts) = ap set_object (trees_back ts)
  tree_back function = refl

  pub trees_back : (ts : Trees) → code_to_trees (trees_to_code ts) ≡ ts
  trees_back no_trees = refl
  trees_back (tree_more t ts) = λ i. tree_more (tree_back t i) (trees_back ts i)

  pub members_back : (ms : Members) → code_to_members (members_to_code ms) ≡ ms
  members_back no_members = refl
  members_back (member_more n t ms) = λ i. member_more (bytes_back n i) (tree_back t i) (members_back ms i)

  pub pairs_back : (ps : PairTrees) → code_to_pairs (pairs_to_code ps) ≡ ps
  pairs_back no_pairs = refl
  pairs_back (pair_more s t ps) = λ i. pair_more (tree_back s i) (tree_back t i) (pairs_back ps i)

abbrev pub tree_code : Coded Tree
tree_code = record { code = tree_to_code; inj = λ s t e. sym (tree_back s) ∙ ap code_to_tree e ∙ tree_back t }
