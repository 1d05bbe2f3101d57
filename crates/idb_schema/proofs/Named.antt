-- Members of a list that numbers name: where a number leads, also after a change.
use Rattle.std.proofs.Common.{◌≡◌, ◌≢◌, ℕ, zero, suc, ◌<◌, false, ◌==◌, if◌then◌else◌, List, [], ◌∷◌, ◌++◌, map, length, drop, get_or, slice_get, Some, None, option_map, arith, refl, sym, ◌∙◌, ap, subst}
use Rattle.std.specs.List.{find, position, position_or_len, remove}
use Rattle.std.proofs.lemmas.Bool.{eq-eqb, ne_eqb, eqb-true}
use Rattle.std.proofs.lemmas.Option.{slice_get-map, slice_get-get_or}
use Rattle.std.proofs.lemmas.List.Quantifiers.{position-Some}
use Rattle.std.proofs.lemmas.Grind.{common_steps}
use Rattle.idb_schema.specs.declared.definitions.IndexInfo.{IndexInfo}
use Rattle.idb_schema.specs.Numbers.{LacksNumber, AreIds}
use Rattle.idb_schema.specs.Schemas.{index_beside}
use Rattle.idb_schema.proofs.All.{within}

-- what stands among numbers is none that they lack
pub other : (ids : List ℕ) (m p n : ℕ) → LacksNumber ids m → slice_get ids p ≡ Some n → n ≢ m
other [] m p n h e = absurd (cc)
other (i ∷ ids) m zero n h e = λ same. h.0 (let first : i ≡ n = cc in first ∙ same)
other (i ∷ ids) m (suc p) n h e = other ids m p n h.1 e

module _ {X : Type 0} (key : X → ℕ) where
  stands_first : (xs : List X) (p n next : ℕ) → AreIds (map key xs) next → slice_get (map key xs) p ≡ Some n → (position_or_len (λ x. key x == n) xs ≡ p) × (p < length xs)
  stands_first [] p n next h e = absurd (cc)
  stands_first (x ∷ xs) zero n next h e = let same : key x ≡ n = cc in (rw (eq-eqb (key x) n same) refl, omega arith)
  stands_first (x ∷ xs) (suc p) n next h e =
      let rest = stands_first xs p n next h.2 e in
      let differs : (key x == n) ≡ false = ne_eqb (key x) n (λ same. other (map key xs) (key x) p n h.1 e (sym same)) in
      (rw differs (grind (arith, common_steps, rest.0)), omega (arith, rest.1))

  pub place_there : (xs : List X) (p n next : ℕ) → AreIds (map key xs) next → slice_get (map key xs) p ≡ Some n → position (λ x. key x == n) xs ≡ Some p
  place_there xs p n next h e =
      let first = stands_first xs p n next h e in
      within (position_or_len (λ x. key x == n) xs) (length xs) p first.0 first.1

  pub there_placed : (xs : List X) (p n : ℕ) → position (λ x. key x == n) xs ≡ Some p → slice_get (map key xs) p ≡ Some n
  there_placed [] p n e = absurd (cc)
  there_placed (x ∷ xs) p n e =
      let here = position-Some (λ y. key y == n) (x ∷ xs) p x e in
      slice_get-map key (x ∷ xs) p ∙ ap (option_map key) (slice_get-get_or (x ∷ xs) p x here.0) ∙ ap Some (eqb-true (key (get_or (x ∷ xs) p x)) n here.1)

  pub found_at : (xs : List X) (p n next : ℕ) → AreIds (map key xs) next → slice_get (map key xs) p ≡ Some n → find (λ x. key x == n) xs ≡ slice_get xs p
  found_at [] p n next h e = absurd (cc)
  found_at (x ∷ xs) zero n next h e = let same : key x ≡ n = cc in rw (eq-eqb (key x) n same) refl
  found_at (x ∷ xs) (suc p) n next h e =
      let differs : (key x == n) ≡ false = ne_eqb (key x) n (λ same. other (map key xs) (key x) p n h.1 e (sym same)) in
      rw differs (found_at xs p n next h.2 e)

  pub none_found : (xs : List X) (n : ℕ) → LacksNumber (map key xs) n → find (λ x. key x == n) xs ≡ None
  none_found [] n h = refl
  none_found (x ∷ xs) n h = rw (ne_eqb (key x) n h.0) (none_found xs n h.1)

  pub found_still : (xs : List X) (p n : ℕ) → slice_get (map key xs) p ≢ Some n → find (λ x. key x == n) (remove xs p) ≡ find (λ x. key x == n) xs
  found_still [] zero n h = refl
  found_still [] (suc p) n h = refl
  found_still (x ∷ xs) zero n h = rw (ne_eqb (key x) n (λ same. h (ap Some same))) refl
  found_still (x ∷ xs) (suc p) n h = ap (λ r. if key x == n then Some x else r) (found_still xs p n h)

  pub found_no_more : (xs : List X) (p n next : ℕ) → AreIds (map key xs) next → slice_get (map key xs) p ≡ Some n → find (λ x. key x == n) (remove xs p) ≡ None
  found_no_more [] p n next h e = absurd (cc)
  found_no_more (x ∷ xs) zero n next h e = let same : key x ≡ n = cc in none_found xs n (subst (LacksNumber (map key xs)) same h.1)
  found_no_more (x ∷ xs) (suc p) n next h e =
      let differs : (key x == n) ≡ false = ne_eqb (key x) n (λ same. other (map key xs) (key x) p n h.1 e (sym same)) in
      rw differs (found_no_more xs p n next h.2 e)

-- ---- an index beside its number
pub beside_at : (ns : List ℕ) (is : List IndexInfo) (p n next : ℕ) → AreIds ns next → length ns ≡ length is → slice_get ns p ≡ Some n → slice_get is p ≡ index_beside ns is n
beside_at [] is p n next h size e = absurd (cc)
beside_at (m ∷ ns) [] p n next h size e = absurd (omega arith)
beside_at (m ∷ ns) (i ∷ is) zero n next h size e = let same : m ≡ n = cc in rw (eq-eqb m n same) refl
beside_at (m ∷ ns) (i ∷ is) (suc p) n next h size e =
    rw (ne_eqb m n (λ same. other ns m p n h.1 e (sym same))) (beside_at ns is p n next h.2 (omega arith) e)

pub beside_after_push : (ns : List ℕ) (is : List IndexInfo) (m : ℕ) (i : IndexInfo) (n : ℕ) → length ns ≡ length is → m ≢ n → index_beside (ns ++ m ∷ []) (is ++ i ∷ []) n ≡ index_beside ns is n
beside_after_push [] [] m i n size differs = rw (ne_eqb m n differs) refl
beside_after_push [] (j ∷ is) m i n size differs = absurd (omega arith)
beside_after_push (k ∷ ns) [] m i n size differs = absurd (omega arith)
beside_after_push (k ∷ ns) (j ∷ is) m i n size differs = ap (λ r. if k == n then Some j else r) (beside_after_push ns is m i n (omega arith) differs)

pub beside_pushed : (ns : List ℕ) (is : List IndexInfo) (m : ℕ) (i : IndexInfo) → length ns ≡ length is → LacksNumber ns m → index_beside (ns ++ m ∷ []) (is ++ i ∷ []) m ≡ Some i
beside_pushed [] [] m i size h = rw (eq-eqb m m refl) refl
beside_pushed [] (j ∷ is) m i size h = absurd (omega arith)
beside_pushed (k ∷ ns) [] m i size h = absurd (omega arith)
beside_pushed (k ∷ ns) (j ∷ is) m i size h = rw (ne_eqb k m h.0) (beside_pushed ns is m i (omega arith) h.1)

nothing_beside : (ns : List ℕ) (is : List IndexInfo) (n : ℕ) → LacksNumber ns n → index_beside ns is n ≡ None
nothing_beside [] is n h = refl
nothing_beside (m ∷ ns) [] n h = refl
nothing_beside (m ∷ ns) (i ∷ is) n h = rw (ne_eqb m n h.0) (nothing_beside ns is n h.1)

pub beside_still : (ns : List ℕ) (is : List IndexInfo) (p n : ℕ) → length ns ≡ length is → slice_get ns p ≢ Some n → index_beside (remove ns p) (remove is p) n ≡ index_beside ns is n
beside_still [] [] zero n size h = refl
beside_still [] [] (suc p) n size h = refl
beside_still [] (j ∷ is) p n size h = absurd (omega arith)
beside_still (k ∷ ns) [] p n size h = absurd (omega arith)
beside_still (k ∷ ns) (j ∷ is) zero n size h = rw (ne_eqb k n (λ same. h (ap Some same))) refl
beside_still (k ∷ ns) (j ∷ is) (suc p) n size h = ap (λ r. if k == n then Some j else r) (beside_still ns is p n (omega arith) h)

pub beside_no_more : (ns : List ℕ) (is : List IndexInfo) (p n next : ℕ) → AreIds ns next → slice_get ns p ≡ Some n → index_beside (remove ns p) (remove is p) n ≡ None
beside_no_more [] is p n next h e = absurd (cc)
beside_no_more (m ∷ ns) is zero n next h e = let same : m ≡ n = cc in nothing_beside ns (drop 1 is) n (subst (LacksNumber ns) same h.1)
beside_no_more (m ∷ ns) [] (suc p) n next h e = refl
beside_no_more (m ∷ ns) (i ∷ is) (suc p) n next h e =
    rw (ne_eqb m n (λ same. other ns m p n h.1 e (sym same))) (beside_no_more ns is p n next h.2 e)
