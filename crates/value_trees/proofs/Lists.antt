-- A list that is part of a tree, read back; and lists of bytes.
use Rattle.std.proofs.Common.{◌≡◌, ◌<◌, ℕ, suc, true, List, [], ◌∷◌, get_or, refl, ap, arith}
use Rattle.std.specs.List.{list_all}
use Rattle.std.specs.Str.{IsUtf8, is_utf8}
use Rattle.std.proofs.lemmas.Str.{is_utf8-from_IsUtf8}
use Rattle.value_trees.specs.WellFormed.{is_byte}
use Rattle.value_trees.specs.Tree.{Tree, trees_of, members_of, pairs_of, list_of_trees, list_of_members, list_of_pairs}

pub trees_again : (ts : List Tree) → list_of_trees (trees_of ts) ≡ ts
trees_again [] = refl
trees_again (t ∷ ts) = ap (λ r. t ∷ r) (trees_again ts)

pub members_again : (ms : List (List ℕ × Tree)) → list_of_members (members_of ms) ≡ ms
members_again [] = refl
members_again (m ∷ ms) = ap (λ r. m ∷ r) (members_again ms)

pub pairs_again : (ps : List (Tree × Tree)) → list_of_pairs (pairs_of ps) ≡ ps
pairs_again [] = refl
pairs_again (p ∷ ps) = ap (λ r. p ∷ r) (pairs_again ps)

pub is_unicode : (s : List ℕ) → IsUtf8 s → is_utf8 s ≡ true
is_unicode s h = is_utf8-from_IsUtf8 s h

pub all_bytes : (bs : List ℕ) → ((i : ℕ) → get_or bs i 0 < 256) → list_all is_byte bs ≡ true
all_bytes [] h = refl
all_bytes (b ∷ bs) h = grind (arith, h 0, all_bytes bs (λ i. h (suc i)))
