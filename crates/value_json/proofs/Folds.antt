-- Building gives back a list that is well formed already.
use Rattle.std.proofs.Common.{◌≡◌, ℕ, ◌+◌, Bool, true, false, not, ◌&&◌, ◌||◌, cond, if◌then◌else◌, List, [], ◌∷◌, ◌++◌, map, Some, None, option_map, option_and_then, length, nat_eq, refl, sym, ◌∙◌, ap, append_assoc, append-nil}
use Rattle.std.specs.declared.cmp.Ordering.{Ordering}
use Rattle.std.specs.declared.cmp.Ordering.TheVariants.{Less, Equal, Greater}
use Rattle.std.specs.Ordering.{nat_cmp, is_lt, match_ordering, ordering_reverse}
use Rattle.std.specs.Cmp.{first_so, second_so}
use Rattle.std.specs.Cmp.Lexicographic.{slice_cmp}
use Rattle.std.specs.List.{fold, list_any, list_all, position_from}
use Rattle.std.proofs.lemmas.List.Folds.{list_any-append}
use Rattle.std.proofs.lemmas.List.{map-append}
use Rattle.std.proofs.lemmas.Bool.{eq-eqb}
use Rattle.std.proofs.lemmas.Cmp.{nat_list_cmp_total}
use Rattle.clone_values.specs.Tree.{Tree, text}
use Rattle.clone_values.specs.Names.{names_of, rises_after, is_rising, set_member, set_members}
use Rattle.clone_values.specs.Sameness.{repeats, put_once, put_pair, set_at_place}
use Rattle.clone_values.specs.WellFormed.{are_once, is_array_name}
use Rattle.value_json.specs.Reading.{tested, each_named, named_apart}
use Rattle.value_json.proofs.Kept.{neither, alone_and}

-- ---- members that stand once
once_new : (done : List Tree) (t : Tree) (ts : List Tree) → are_once (done ++ t ∷ ts) ≡ true → list_any (λ s. repeats s t) done ≡ false
once_new [] t ts h = refl
once_new (s ∷ done) t ts h =
    let apart = alone_and (list_any (λ r. repeats s r) (done ++ t ∷ ts)) (are_once (done ++ t ∷ ts)) h in
    let later = neither (list_any (λ r. repeats s r) done) (list_any (λ r. repeats s r) (t ∷ ts)) (sym (list_any-append (λ r. repeats s r) done (t ∷ ts)) ∙ apart.0) in
    let here = neither (repeats s t) (list_any (λ r. repeats s r) ts) later.1 in
    λ i. here.0 i || once_new done t ts apart.1 i

pub set_same : (ts done : List Tree) → are_once (done ++ ts) ≡ true → fold put_once done ts ≡ done ++ ts
set_same [] done h = sym (append-nil done)
set_same (t ∷ ts) done h =
    let put : put_once done t ≡ done ++ t ∷ [] = ap (λ b. if b then done else done ++ t ∷ []) (once_new done t ts h) in
    let whole = append_assoc done (t ∷ []) ts in
    ap (λ w. fold put_once w ts) put ∙ set_same ts (done ++ t ∷ []) (ap are_once whole ∙ h) ∙ whole

no_place : {A B : Type 0} (f : B → Bool) (g : A → B) (i : ℕ) (xs : List A) → list_any f (map g xs) ≡ false → position_from (λ x. f (g x)) i xs ≡ None
no_place f g i [] h = refl
no_place f g i (x ∷ xs) h = let here = neither (f (g x)) (list_any f (map g xs)) h in ap (λ b. cond b (Some i) (position_from (λ y. f (g y)) (i + 1) xs)) here.0 ∙ no_place f g (i + 1) xs here.1

pub map_same : (ps done : List (Tree × Tree)) → are_once (map (λ p. p.0) (done ++ ps)) ≡ true → fold (λ d p. put_pair d p.0 p.1) done ps ≡ done ++ ps
map_same [] done h = sym (append-nil done)
map_same (p ∷ ps) done h =
    let new = once_new (map (λ q. q.0) done) p.0 (map (λ q. q.0) ps) (ap are_once (sym (map-append (λ q. q.0) done (p ∷ ps))) ∙ h) in
    let put : put_pair done p.0 p.1 ≡ done ++ p ∷ [] = ap (set_at_place done p.0 p.1) (no_place (λ s. repeats s p.0) (λ q. q.0) 0 done new) in
    let whole = append_assoc done (p ∷ []) ps in
    ap (λ w. fold (λ d q. put_pair d q.0 q.1) w ps) put ∙ map_same ps (done ++ p ∷ []) (ap (λ w. are_once (map (λ q. q.0) w)) whole ∙ h) ∙ whole

-- ---- names that rise
lt_less : (o : Ordering) → is_lt o ≡ true → o ≡ Less
lt_less Less e = refl
lt_less Equal e = cc
lt_less Greater e = cc

module _ (m : List ℕ × Tree) (rest : List (List ℕ × Tree)) where
  below : (p : List ℕ) (done : List (List ℕ × Tree)) → rises_after p (names_of (done ++ m ∷ rest)) ≡ true → slice_cmp nat_cmp p m.0 ≡ Less
  below p [] h = lt_less _ (first_so (is_lt (slice_cmp nat_cmp p m.0)) (rises_after m.0 (names_of rest)) h)
  below p (k ∷ done) h =
      nat_list_cmp_total.trans p k.0 m.0 (lt_less _ (first_so (is_lt (slice_cmp nat_cmp p k.0)) (rises_after k.0 (names_of (done ++ m ∷ rest))) h))
      (below k.0 done (second_so (is_lt (slice_cmp nat_cmp p k.0)) (rises_after k.0 (names_of (done ++ m ∷ rest))) h))

  pub above : (k : List ℕ × Tree) (done : List (List ℕ × Tree)) → is_rising (names_of (k ∷ done ++ m ∷ rest)) ≡ true → slice_cmp nat_cmp m.0 k.0 ≡ Greater
  above k done h = nat_list_cmp_total.antisymm m.0 k.0 ∙ ap ordering_reverse (below k.0 done h)

  pub less_rising : (k : List ℕ × Tree) (done : List (List ℕ × Tree)) → is_rising (names_of (k ∷ done ++ m ∷ rest)) ≡ true → is_rising (names_of (done ++ m ∷ rest)) ≡ true
  less_rising k [] h = second_so (is_lt (slice_cmp nat_cmp k.0 m.0)) (rises_after m.0 (names_of rest)) h
  less_rising k (l ∷ done) h = second_so (is_lt (slice_cmp nat_cmp k.0 l.0)) (rises_after l.0 (names_of (done ++ m ∷ rest))) h

  set_last : (done : List (List ℕ × Tree)) → is_rising (names_of (done ++ m ∷ rest)) ≡ true → set_member done m.0 m.1 ≡ done ++ m ∷ []
  set_last [] h = refl
  set_last (k ∷ done) h =
      ap (λ o. match_ordering o (m ∷ k ∷ done) (m ∷ done) (k ∷ set_member done m.0 m.1)) (above k done h) ∙ ap (λ r. k ∷ r) (set_last done (less_rising k done h))

pub properties_same : (ms done : List (List ℕ × Tree)) → is_rising (names_of (done ++ ms)) ≡ true → set_members done ms ≡ done ++ ms
properties_same [] done h = sym (append-nil done)
properties_same (m ∷ ms) done h =
    let whole = append_assoc done (m ∷ []) ms in
    ap (λ w. set_members w ms) (set_last m ms done h) ∙ properties_same ms (done ++ m ∷ []) (ap (λ w. is_rising (names_of w)) whole ∙ h) ∙ whole

-- the names as texts
abbrev pub texted : List (List ℕ × Tree) → List (Tree × Tree)
texted ms = map (λ m. (text m.0, m.1)) ms

-- the names may stand there
abbrev pub may_stand : Bool → List (List ℕ × Tree) → Bool
may_stand of_array ms = list_all (λ n. not of_array || is_array_name n) (names_of ms)

pub each_same : (of_array : Bool) (ms : List (List ℕ × Tree)) → may_stand of_array ms ≡ true → each_named of_array (texted ms) ≡ Some ms
each_same of_array [] k = refl
each_same of_array (m ∷ ms) k =
    let name = first_so (not of_array || is_array_name m.0) (may_stand of_array ms) k in
    let more = each_same of_array ms (second_so (not of_array || is_array_name m.0) (may_stand of_array ms) k) in
    λ i. option_and_then (λ n. option_map (λ ns. n ∷ ns) (more i)) (tested (name i) (m.0, m.1))

pub apart_same : (ms : List (List ℕ × Tree)) → is_rising (names_of ms) ≡ true → named_apart ms ≡ Some ms
apart_same ms h = ap (λ w. tested (nat_eq (length w) (length ms)) w) (properties_same ms [] h) ∙ ap (λ b. tested b ms) (eq-eqb (length ms) (length ms) refl)
