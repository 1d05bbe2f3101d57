-- A reader and a spelling that fit together: what is read was spelled so, and what is spelled so is read.
use Rattle.std.proofs.Common.{◌≡◌, ℕ, zero, suc, ◌+◌, ◌-◌, ◌<◌, ◌≤◌, ◌^◌, Bool, true, false, cond, eqb, List, [], ◌∷◌, ◌++◌, length, get_or, take, drop, Option, Some, None, refl, sym, ap, subst, ◌∙◌, append_assoc, arith}
use Rattle.std.specs.List.{flat_map, AllByRecursion}
use Rattle.std.specs.Prelude.{slice_range}
use Rattle.std.proofs.lemmas.Bool.{eqb-true, leb-true, le-leb}
use Rattle.clone_values.specs.WellFormed.{is_within_limit}
use Rattle.std.proofs.lemmas.List.{length-append, length-drop, take-append-drop}
use Rattle.std.proofs.Math.Seq.{take-append_seam}
use Rattle.value_bytes.specs.Steps.{◌>>=◌, byte_at, mapped_at, checked_at, pair_at, many_at}

abbrev pub IsBytes : List ℕ → Type 0
IsBytes bs = (i : ℕ) → get_or bs i 0 < 256

pub behind : (xs ys : List ℕ) → IsBytes (xs ++ ys) → IsBytes ys
behind [] ys h = h
behind (x ∷ xs) ys h = behind xs ys (λ i. h (suc i))

pub ahead : (xs ys : List ℕ) → IsBytes (xs ++ ys) → IsBytes xs
ahead [] ys h i = omega arith
ahead (x ∷ xs) ys h zero = h zero
ahead (x ∷ xs) ys h (suc i) = ahead xs ys (λ j. h (suc j)) i

-- ---- a step that gave something
pub bind_some : {A B : Type 0} (o : Option A) (f : A → Option B) (y : B) → (o >>= f) ≡ Some y → (x : A) × (o ≡ Some x) × (f x ≡ Some y)
bind_some None f y e = absurd cc
bind_some (Some x) f y e = (x, refl, e)

pub kept : {A : Type 0} (b : Bool) (x y : A) → cond b (Some x) None ≡ Some y → (b ≡ true) × (x ≡ y)
kept true x y e = (refl, cc)
kept false x y e = absurd cc

abbrev some : {A : Type 0} → A → Option A
some x = Some x

pub some_is : {A : Type 0} (x y : A) → some x ≡ some y → x ≡ y
some_is x y e = cc

-- ---- what a reader took from the front of the bytes
pub record Took (bs word rest : List ℕ) : Type 0 where
  pub parts : bs ≡ word ++ rest
  pub fits : IsBytes rest

pub took_then : (a x b y c : List ℕ) → Took a x b → Took b y c → Took a (x ++ y) c
took_then a x b y c p q = record { parts = p.parts ∙ ap (λ (t : List ℕ). x ++ t) q.parts ∙ sym (append_assoc x y c); fits = q.fits }

pub record Format {A : Type 0} (r : List ℕ → Option (A × List ℕ)) (spell : A → List ℕ) (Good : A → Type 0) : Type 0 where
  pub sound : (bs : List ℕ) (x : A × List ℕ) → IsBytes bs → r bs ≡ Some x → Took bs (spell x.0) x.1 × Good x.0
  pub again : (x : A) (rest : List ℕ) → Good x → r (spell x ++ rest) ≡ Some (x, rest)

-- ---- a test
pub checked : {A : Type 0} (c : A → Bool) (r : List ℕ → Option (A × List ℕ)) (spell : A → List ℕ) (Good : A → Type 0)
    → Format r spell Good → Format (checked_at c r) spell (λ x. Good x × (c x ≡ true))
checked c r spell Good f = record {
  sound = λ bs x fits e.
      let a = bind_some (r bs) (λ y. cond (c y.0) (Some y) None) x e in
      let k = kept (c a.0.0) a.0 x a.2 in
      let g = f.sound bs a.0 fits a.1 in
      subst (λ y. Took bs (spell y.0) y.1 × (Good y.0 × (c y.0 ≡ true))) k.1 (g.0, (g.1, k.0));
  again = λ x rest good. rw (f.again x rest good.0) (rw good.1 refl);
}

-- ---- the same, of what may be read said in other words
pub good_as : {A : Type 0} (r : List ℕ → Option (A × List ℕ)) (spell : A → List ℕ) (Good Fine : A → Type 0) → ((x : A) → Good x → Fine x) → ((x : A) → Fine x → Good x) → Format r spell Good → Format r spell Fine
good_as r spell Good Fine there back f = record {
  sound = λ bs x fits e. let g = f.sound bs x fits e in (g.0, there x.0 g.1);
  again = λ x rest good. f.again x rest (back x good);
}

-- ---- one after the other
pub pair : {A B : Type 0} (r : List ℕ → Option (A × List ℕ)) (spell : A → List ℕ) (Good : A → Type 0) (q : List ℕ → Option (B × List ℕ)) (text : B → List ℕ) (Fine : B → Type 0)
    → Format r spell Good → Format q text Fine → Format (pair_at r q) (λ x. spell x.0 ++ text x.1) (λ x. Good x.0 × Fine x.1)
pair r spell Good q text Fine f g = record {
  sound = λ bs x fits e.
      let a = bind_some (r bs) (λ y. q y.1 >>= λ z. Some ((y.0, z.0), z.1)) x e in
      let b = bind_some (q a.0.1) (λ z. Some ((a.0.0, z.0), z.1)) x a.2 in
      let one = f.sound bs a.0 fits a.1 in
      let two = g.sound a.0.1 b.0 one.0.fits b.1 in
      let both = took_then bs (spell a.0.0) a.0.1 (text b.0.0) b.0.1 one.0 two.0 in
      subst (λ y. Took bs (spell y.0.0 ++ text y.0.1) y.1 × (Good y.0.0 × Fine y.0.1)) (some_is ((a.0.0, b.0.0), b.0.1) x b.2) (both, (one.1, two.1));
  again = λ x rest good.
      rw (append_assoc (spell x.0) (text x.1) rest) (rw (f.again x.0 (text x.1 ++ rest) good.0) (rw (g.again x.1 rest good.1) refl));
}

-- ---- so many, one after the other
module _ {A : Type 0} (r : List ℕ → Option (A × List ℕ)) (spell : A → List ℕ) (Good : A → Type 0) (f : Format r spell Good) where
  pub many_sound : (n : ℕ) (bs : List ℕ) (x : List A × List ℕ) → IsBytes bs → many_at r n bs ≡ Some x → Took bs (flat_map spell x.0) x.1 × (length x.0 ≡ n) × AllByRecursion Good x.0
  unfolding many_at
  many_sound zero bs x fits e =
      subst (λ y. Took bs (flat_map spell y.0) y.1 × (length y.0 ≡ 0) × AllByRecursion Good y.0) (some_is ([], bs) x e) (record { parts = refl; fits = fits }, refl, tt)
  many_sound (suc n) bs x fits e =
      let a = bind_some (r bs) (λ y. many_at r n y.1 >>= λ ys. Some (y.0 ∷ ys.0, ys.1)) x e in
      let b = bind_some (many_at r n a.0.1) (λ ys. Some (a.0.0 ∷ ys.0, ys.1)) x a.2 in
      let one = f.sound bs a.0 fits a.1 in
      let more = many_sound n a.0.1 b.0 one.0.fits b.1 in
      let both = took_then bs (spell a.0.0) a.0.1 (flat_map spell b.0.0) b.0.1 one.0 more.0 in
      subst (λ y. Took bs (flat_map spell y.0) y.1 × (length y.0 ≡ suc n) × AllByRecursion Good y.0) (some_is (a.0.0 ∷ b.0.0, b.0.1) x b.2) (both, ap suc more.1, (one.1, more.2))

  pub many_again : (xs : List A) (rest : List ℕ) → AllByRecursion Good xs → many_at r (length xs) (flat_map spell xs ++ rest) ≡ Some (xs, rest)
  unfolding many_at
  many_again [] rest good = refl
  many_again (x ∷ xs) rest good =
      rw (append_assoc (spell x) (flat_map spell xs) rest) (rw (f.again x (flat_map spell xs ++ rest) good.0) (rw (many_again xs rest good.1) refl))

-- ---- laws of every reader and spelling that fit together
module _ {A : Type 0} (r : List ℕ → Option (A × List ℕ)) (spell : A → List ℕ) (Good : A → Type 0) (f : Format r spell Good) where
  -- what follows a spelling doesn't change what it stands for
  pub apart : (s t : A) (x y : List ℕ) → Good s → Good t → spell s ++ x ≡ spell t ++ y → (s ≡ t) × (x ≡ y)
  apart s t x y g h e =
      let same = some_is (s, x) (t, y) (sym (f.again s x g) ∙ ap r e ∙ f.again t y h) in
      (ap (λ p. p.0) same, ap (λ p. p.1) same)

  -- what was read stands at its place
  pub stands : (bs : List ℕ) (from : ℕ) (x : A) (rest : List ℕ) → from ≤ length bs → IsBytes bs → r (drop from bs) ≡ Some (x, rest)
      → (length rest ≤ length bs) × (from ≤ length bs - length rest) × (slice_range bs from (length bs - length rest) ≡ spell x) × Good x
  stands bs from x rest le fits e =
      let got = f.sound (drop from bs) (x, rest) (behind (take from bs) (drop from bs) (subst IsBytes (sym (take-append-drop from bs)) fits)) e in
      let long : length (drop from bs) ≡ length (spell x) + length rest = ap length got.0.parts ∙ length-append (spell x) rest in
      let behind_from : length (drop from bs) ≡ length bs - from = length-drop from bs in
      let end : length bs - length rest - from ≡ length (spell x) = omega arith in
      (omega arith, omega arith, ap (λ n. take n (drop from bs)) end ∙ ap (λ w. take (length (spell x)) w) got.0.parts ∙ take-append_seam (spell x) rest, got.1)

  -- where nothing was read nothing stands
  pub none_stands : (bs : List ℕ) (from end : ℕ) (x : A) → r (drop from bs) ≡ None → slice_range bs from end ≡ spell x → Good x → ⊥
  none_stands bs from end x e word good =
      let whole : spell x ++ drop (end - from) (drop from bs) ≡ drop from bs = ap (λ w. w ++ drop (end - from) (drop from bs)) (sym word) ∙ take-append-drop (end - from) (drop from bs) in
      let read : r (drop from bs) ≡ Some (x, drop (end - from) (drop from bs)) = ap r (sym whole) ∙ f.again x (drop (end - from) (drop from bs)) good in
      cc

-- ---- the byte of a kind
pub this_kind : {K : Type 0} (byte_of : K → ℕ) (b n : ℕ) (j k : K) (more : Option K) → n ≡ byte_of j → (more ≡ Some k → b ≡ byte_of k) → cond (eqb b n) (Some j) more ≡ Some k → b ≡ byte_of k
this_kind byte_of b n j k more is later =
    elim (eqb b n) as (λ t. eqb b n ≡ t → cond t (Some j) more ≡ Some k → b ≡ byte_of k) [
      | true ↦ λ here e. let same : j ≡ k = some_is j k e in eqb-true b n here ∙ is ∙ ap byte_of same
      | false ↦ λ here e. later e
    ] refl

pub first_byte : (bs : List ℕ) (b : ℕ × List ℕ) → byte_at bs ≡ Some b → bs ≡ b.0 ∷ b.1
first_byte [] b e = absurd cc
first_byte (c ∷ bs) b e = ap (λ x. x.0 ∷ x.1) (some_is (c, bs) b e)

-- ---- a body behind the byte of its kind, made into the whole
module _ {T : Type 0} (word : T → List ℕ) (Fine : T → Type 0) where
  pub record Gave (bs : List ℕ) (x : T × List ℕ) : Type 0 where
    pub parts : bs ≡ word x.0 ++ x.1
    pub rest : IsBytes x.1
    pub fits : Fine x.0

  pub made : {A : Type 0} (b : ℕ) (f : A → T) (r : List ℕ → Option (A × List ℕ)) (spell : A → List ℕ) (Good : A → Type 0) (format : Format r spell Good)
      → ((a : A) → Good a → (b ∷ spell a ≡ word (f a)) × Fine (f a)) → (bs : List ℕ) (x : T × List ℕ) → IsBytes bs → mapped_at f r bs ≡ Some x → Gave (b ∷ bs) x
  made b f r spell Good format fit bs x fits e =
      let a = bind_some (r bs) (λ y. Some (f y.0, y.1)) x e in
      let got = format.sound bs a.0 fits a.1 in
      let fine = fit a.0.0 got.1 in
      subst (λ y. Gave (b ∷ bs) y) (some_is (f a.0.0, a.0.1) x a.2)
      (record { parts = ap (λ w. b ∷ w) got.0.parts ∙ ap (λ w. w ++ a.0.1) fine.0; rest = got.0.fits; fits = fine.1 })

pub remade : {A T : Type 0} (f : A → T) (r : List ℕ → Option (A × List ℕ)) (spell : A → List ℕ) (Good : A → Type 0) (format : Format r spell Good) (a : A) (rest : List ℕ) → Good a
    → mapped_at f r (spell a ++ rest) ≡ Some (f a, rest)
remade f r spell Good format a rest good = ap (λ o. o >>= λ y. Some (f y.0, y.1)) (format.again a rest good)

-- ---- a limit
pub within_limit : {A : Type 0} (xs : List A) → length xs < 2 ^ 32 → is_within_limit xs ≡ true
within_limit xs lt = le-leb (length xs) 4294967295 (omega arith)

pub limit_within : {A : Type 0} (xs : List A) → is_within_limit xs ≡ true → length xs < 2 ^ 32
limit_within xs h = omega (arith, leb-true (length xs) 4294967295 h)
