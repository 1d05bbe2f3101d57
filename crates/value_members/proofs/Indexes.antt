-- An index of the primitives of a list, as the list grows.
use Rattle.std.proofs.Common.{◌≡◌, ℕ, suc, ◌+◌, ◌<◌, Bool, true, false, not, ◌&&◌, ◌||◌, if◌then◌else◌, cond, List, [], ◌∷◌, ◌++◌, length, map, slice_set, get_or, Option, Some, None, refl, sym, ◌∙◌, ap, arith, true≢false}
use Rattle.std.specs.List.{list_any, position_from}
use Rattle.std.specs.BTreeMap.{insert_entry}
use Rattle.std.specs.Map.{lookup}
use Rattle.std.specs.Ordering.{is_eq}
use Rattle.std.proofs.lemmas.List.Folds.{list_any-append}
use Rattle.std.proofs.lemmas.List.{map-append, map-set, set-get_or}
use Rattle.clone_values.specs.Tree.{Tree}
use Rattle.clone_values.specs.Sameness.{is_primitive, repeats, same_tree, put_once, put_pair, set_at_place}
use Rattle.clone_values.specs.WellFormed.{are_once}
use Rattle.value_members.specs.Primitives.{mark_of, mark_cmp, place_in}
use Rattle.value_members.specs.Shown.{key_mark_shown, IsIndex}
use Rattle.value_members.specs.declared.primitives.PrimitiveKey.{PrimitiveKey}
use Rattle.value_members.proofs.Ties.{kept, repeats_same}

-- ---- the place of the first member that passes a test
place_none : {A : Type 0} (f : A → Bool) (i : ℕ) (xs : List A) → position_from f i xs ≡ None → list_any f xs ≡ false
place_none f i [] e = refl
place_none f i (x ∷ xs) e = by (f x) e (place_none f (i + 1) xs)
  where
    by : (b : Bool) → cond b (Some i) (position_from f (i + 1) xs) ≡ None → (position_from f (i + 1) xs ≡ None → list_any f xs ≡ false) → (b || list_any f xs) ≡ false
    by true e later = cc
    by false e later = later e

pub place_within : {A : Type 0} (f : A → Bool) (i j : ℕ) (xs : List A) → position_from f i xs ≡ Some j → (j < i + length xs) × (list_any f xs ≡ true)
place_within f i j [] e = cc
place_within f i j (x ∷ xs) e = by (f x) e (place_within f (i + 1) j xs)
  where
    by : (b : Bool) → cond b (Some i) (position_from f (i + 1) xs) ≡ Some j → (position_from f (i + 1) xs ≡ Some j → (j < i + 1 + length xs) × (list_any f xs ≡ true)) → (j < i + length (x ∷ xs)) × ((b || list_any f xs) ≡ true)
    by true e later = let same : i ≡ j = cc in (omega arith, refl)
    by false e later = let there = later e in (omega (arith, there.0), there.1)

-- a place, or else another
abbrev or_else : Option ℕ → Option ℕ → Option ℕ
or_else (Some j) o = Some j
or_else None o = o

place_push : {A : Type 0} (f : A → Bool) (i : ℕ) (xs : List A) (u : A) → position_from f i (xs ++ u ∷ []) ≡ or_else (position_from f i xs) (cond (f u) (Some (i + length xs)) None)
place_push {A} f i [] u = let same : i ≡ i + length {A = A} [] = omega arith in ap (λ k. cond (f u) (Some k) None) same
place_push f i (x ∷ xs) u = by (f x) (place_push f (i + 1) xs u)
  where
    by : (b : Bool) → position_from f (i + 1) (xs ++ u ∷ []) ≡ or_else (position_from f (i + 1) xs) (cond (f u) (Some (i + 1 + length xs)) None)
        → cond b (Some i) (position_from f (i + 1) (xs ++ u ∷ [])) ≡ or_else (cond b (Some i) (position_from f (i + 1) xs)) (cond (f u) (Some (i + length (x ∷ xs))) None)
    by true later = refl
    by false later = let same : i + 1 + length xs ≡ i + length (x ∷ xs) = omega arith in later ∙ ap (λ k. or_else (position_from f (i + 1) xs) (cond (f u) (Some k) None)) same

-- ---- a list in which no primitive stands twice
neither : (a b : Bool) → (a || b) ≡ false → (a ≡ false) × (b ≡ false)
neither true b e = absurd (true≢false e)
neither false b e = (refl, e)

both : (a b : Bool) → (not a && b) ≡ true → (a ≡ false) × (b ≡ true)
both true b e = absurd (true≢false (sym e))
both false b e = (refl, e)

once_push : (ts : List Tree) (u : Tree) → are_once ts ≡ true → list_any (λ s. repeats s u) ts ≡ false → are_once (ts ++ u ∷ []) ≡ true
once_push [] u h n = refl
once_push (t ∷ ts) u h n =
    let before = both (list_any (λ s. repeats t s) ts) (are_once ts) h in
    let new = neither (repeats t u) (list_any (λ s. repeats s u) ts) n in
    let alone : list_any (λ s. repeats t s) (ts ++ u ∷ []) ≡ false = list_any-append (λ s. repeats t s) ts (u ∷ []) ∙ (λ i. before.0 i || (new.0 i || false)) in
    λ i. not (alone i) && once_push ts u before.1 new.1 i

-- ---- the index of a list
-- what a look-up by the key of a primitive finds
pub found : (entries : List (PrimitiveKey × ℕ)) (u : Tree) (k : PrimitiveKey) (o : Option ℕ) → is_primitive u ≡ true → key_mark_shown k ≡ mark_of u
    → o ≡ lookup (λ x. is_eq (mark_cmp (key_mark_shown k) (key_mark_shown x))) entries → place_in key_mark_shown entries u ≡ o
found entries u k o primitive mark e =
    ap (λ b. if b then lookup (λ x. is_eq (mark_cmp (mark_of u) (key_mark_shown x))) entries else None) primitive
    ∙ ap (λ m. lookup (λ x. is_eq (mark_cmp m (key_mark_shown x))) entries) (sym mark) ∙ sym e

module _ (entries : List (PrimitiveKey × ℕ)) (ts : List Tree) (index : IsIndex entries ts) (u : Tree) where
  pub nowhere : is_primitive u ≡ false → place_in key_mark_shown entries u ≡ None
  nowhere e = ap (λ b. if b then lookup (λ k. is_eq (mark_cmp (mark_of u) (key_mark_shown k))) entries else None) e

  module _ (absent : place_in key_mark_shown entries u ≡ None) where
    others : list_any (λ s. repeats s u) ts ≡ false
    others = place_none (λ s. repeats s u) 0 ts (sym (index.place u) ∙ absent)

    pub put_new : put_once ts u ≡ ts ++ u ∷ []
    put_new = ap (λ b. if b then ts else ts ++ u ∷ []) others

    -- where the primitive is kept with its place
    pub grows : (new : List (PrimitiveKey × ℕ)) → ((t : Tree) → place_in key_mark_shown new t ≡ (if repeats u t then Some (length ts) else place_in key_mark_shown entries t)) → IsIndex new (ts ++ u ∷ [])
    grows new e = record { place = λ t. e t ∙ at t (repeats u t) refl ∙ sym (place_push (λ s. repeats s t) 0 ts u); once = once_push ts u index.once others }
      where
        itself : (o : Option ℕ) → o ≡ or_else o None
        itself (Some j) = refl
        itself None = refl

        at : (t : Tree) (b : Bool) → repeats u t ≡ b → (if repeats u t then Some (length ts) else place_in key_mark_shown entries t) ≡ or_else (position_from (λ s. repeats s t) 0 ts) (cond (repeats u t) (Some (0 + length ts)) None)
        at t true h =
            let nothing : position_from (λ s. repeats s t) 0 ts ≡ None = sym (ap (λ w. position_from (λ s. repeats s w) 0 ts) (repeats_same u t h)) ∙ sym (index.place u) ∙ absent in
            let same : length ts ≡ 0 + length ts = omega arith in
            ap (λ b. if b then Some (length ts) else place_in key_mark_shown entries t) h ∙ ap Some same
            ∙ sym (ap (λ o. or_else o (Some (0 + length ts))) nothing) ∙ sym (ap (λ b. or_else (position_from (λ s. repeats s t) 0 ts) (cond b (Some (0 + length ts)) None)) h)
        at t false h =
            ap (λ b. if b then Some (length ts) else place_in key_mark_shown entries t) h ∙ index.place t ∙ itself (position_from (λ s. repeats s t) 0 ts)
            ∙ sym (ap (λ b. or_else (position_from (λ s. repeats s t) 0 ts) (cond b (Some (0 + length ts)) None)) h)

    -- a member that is no primitive has no place
    pub grows_without : is_primitive u ≡ false → IsIndex entries (ts ++ u ∷ [])
    grows_without e = grows entries (λ t. sym (ap (λ b. if b then Some (length ts) else place_in key_mark_shown entries t) (ap (λ b. b && same_tree u t) e)))

  -- a primitive that has a place is there
  pub there : (i : ℕ) → place_in key_mark_shown entries u ≡ Some i → (i < length ts) × (put_once ts u ≡ ts)
  there i e =
      let found = place_within (λ s. repeats s u) 0 i ts (sym (index.place u) ∙ e) in
      (omega (arith, found.0), ap (λ b. if b then ts else ts ++ u ∷ []) found.1)

  -- where a new key was put beside it
  pub grows_at : place_in key_mark_shown entries u ≡ None → (new : List (PrimitiveKey × ℕ)) (k : PrimitiveKey) (n : ℕ) → n ≡ length ts → is_primitive u ≡ true → key_mark_shown k ≡ mark_of u
      → new ≡ insert_entry (λ a b. mark_cmp (key_mark_shown a) (key_mark_shown b)) entries k n → IsIndex new (ts ++ u ∷ [])
  grows_at absent new k n same primitive mark put = grows absent new (λ t.
      kept (λ a b. mark_cmp (key_mark_shown a) (key_mark_shown b)) key_mark_shown (λ x y. refl) entries new k n u primitive mark put t
      ∙ ap (λ m. if repeats u t then Some m else place_in key_mark_shown entries t) same)

-- ---- lists of members and of entries
pub pushed : {V W : Type 0} (f : V → W) (xs ys : List V) (v : V) → ys ≡ xs ++ v ∷ [] → map f ys ≡ map f xs ++ f v ∷ []
pushed f xs ys v e = ap (map f) e ∙ map-append f xs (v ∷ [])

-- the place of a key is that of its entry
pub place_of_entry : {V W : Type 0} (f : W → Bool) (g : V → W) (i : ℕ) (xs : List V) → position_from f i (map g xs) ≡ position_from (λ x. f (g x)) i xs
place_of_entry f g i [] = refl
place_of_entry f g i (x ∷ xs) = ap (λ o. cond (f (g x)) (Some i) o) (place_of_entry f g (i + 1) xs)

passes_there : {A : Type 0} (f : A → Bool) (i j : ℕ) (xs : List A) (d : A) → position_from f i xs ≡ Some j → (k : ℕ) × (j ≡ i + k) × (f (get_or xs k d) ≡ true)
passes_there f i j [] d e = cc
passes_there f i j (x ∷ xs) d e = by (f x) refl e (passes_there f (i + 1) j xs d)
  where
    by : (b : Bool) → f x ≡ b → cond b (Some i) (position_from f (i + 1) xs) ≡ Some j → (position_from f (i + 1) xs ≡ Some j → (k : ℕ) × (j ≡ i + 1 + k) × (f (get_or xs k d) ≡ true)) → (k : ℕ) × (j ≡ i + k) × (f (get_or (x ∷ xs) k d) ≡ true)
    by true h e later = let same : i ≡ j = cc in (0, omega arith, h)
    by false h e later = let there = later e in (suc there.0, omega (arith, there.1), there.2)

-- the member at the place of a primitive is that primitive
stands_there : (entries : List (PrimitiveKey × ℕ)) (ts : List Tree) (u : Tree) (place : ℕ) → IsIndex entries ts → place_in key_mark_shown entries u ≡ Some place → get_or ts place u ≡ u
stands_there entries ts u place index e =
    let there = passes_there (λ s. repeats s u) 0 place ts u (sym (index.place u) ∙ e) in
    let same : place ≡ there.0 = omega (arith, there.1) in
    ap (λ k. get_or ts k u) same ∙ repeats_same (get_or ts there.0 u) u there.2

-- an entry whose key is that at the place keeps the keys
pub keys_stay : (entries : List (PrimitiveKey × ℕ)) (ps : List (Tree × Tree)) (u v : Tree) (place : ℕ) → IsIndex entries (map (λ p. p.0) ps) → place_in key_mark_shown entries u ≡ Some place
    → map (λ p. p.0) (slice_set ps place (u, v)) ≡ map (λ p. p.0) ps
keys_stay entries ps u v place index e =
    map-set (λ p. p.0) ps place (u, v)
    ∙ ap (λ w. slice_set (map (λ p. p.0) ps) place w) (sym (stands_there entries (map (λ p. p.0) ps) u place index e))
    ∙ set-get_or (map (λ p. p.0) ps) place u

-- what putting an entry makes, where its key has a place and where it has none
pub put_there : (entries : List (PrimitiveKey × ℕ)) (ps : List (Tree × Tree)) (u v : Tree) (place : ℕ) → IsIndex entries (map (λ p. p.0) ps) → place_in key_mark_shown entries u ≡ Some place
    → put_pair ps u v ≡ slice_set ps place (u, v)
put_there entries ps u v place index e =
    ap (set_at_place ps u v) (sym (place_of_entry (λ s. repeats s u) (λ p. p.0) 0 ps) ∙ sym (index.place u) ∙ e)

pub put_behind : (entries : List (PrimitiveKey × ℕ)) (ps : List (Tree × Tree)) (u v : Tree) → IsIndex entries (map (λ p. p.0) ps) → place_in key_mark_shown entries u ≡ None
    → put_pair ps u v ≡ ps ++ (u, v) ∷ []
put_behind entries ps u v index e =
    ap (set_at_place ps u v) (sym (place_of_entry (λ s. repeats s u) (λ p. p.0) 0 ps) ∙ sym (index.place u) ∙ e)
