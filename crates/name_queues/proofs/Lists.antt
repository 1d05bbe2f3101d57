-- One place of a list.
use Rattle.std.proofs.Common.{◌≡◌, ℕ, zero, suc, ◌+◌, ◌<◌, ◌≤◌, Bool, true, false, cond, List, [], ◌∷◌, ◌++◌, length, take, drop, get_or, slice_set, slice_get, remove, map, Option, Some, None, Result, Ok, Err, OnOk, OnErr, arith, refl, ap, sym, ◌∙◌}
use Rattle.std.specs.List.{list_any}
use Rattle.sorted_table.specs.Tables.{with_value}

pub drop_entry : {A : Type 0} (xs : List A) (i : ℕ) (x : A) → slice_get xs i ≡ Some x → drop i xs ≡ x ∷ drop (suc i) xs
drop_entry [] i x e = cc
drop_entry (y ∷ ys) zero x e = let s : y ≡ x = cc in ap (λ z. z ∷ ys) s
drop_entry (y ∷ ys) (suc i) x e = drop_entry ys i x e

-- the first i were changed
pub map_step : {A : Type 0} (f : A → A) (xs : List A) (i : ℕ) (x : A) → i < length xs → x ≡ get_or (map f (take i xs) ++ drop i xs) i x → slice_set (map f (take i xs) ++ drop i xs) i (f x) ≡ map f (take (suc i) xs) ++ drop (suc i) xs
map_step f [] i x l e = absurd (omega arith)
map_step f (y ∷ ys) zero x l e = ap (λ z. f z ∷ ys) e
map_step f (y ∷ ys) (suc i) x l e = ap (λ zs. f y ∷ zs) (map_step f ys i x (omega arith) e)

pub map_here : {A : Type 0} (f : A → A) (xs : List A) (i : ℕ) (x : A) → i < length xs → x ≡ get_or (map f (take i xs) ++ drop i xs) i x → slice_get xs i ≡ Some x
map_here f [] i x l e = absurd (omega arith)
map_here f (y ∷ ys) zero x l e = ap Some (sym e)
map_here f (y ∷ ys) (suc i) x l e = map_here f ys i x (omega arith) e

pub map_long : {A : Type 0} (f : A → A) (xs : List A) (i : ℕ) → length (map f (take i xs) ++ drop i xs) ≡ length xs
map_long f [] zero = refl
map_long f [] (suc i) = refl
map_long f (y ∷ ys) zero = refl
map_long f (y ∷ ys) (suc i) = ap suc (map_long f ys i)

-- the first i values were changed
pub value_step : {K V : Type 0} (f : V → V) (es : List (K × V)) (i : ℕ) (k : K) (v : V) → slice_get (map (λ e. (e.0, f e.1)) (take i es) ++ drop i es) i ≡ Some (k, v) → with_value (map (λ e. (e.0, f e.1)) (take i es) ++ drop i es) i (f v) ≡ map (λ e. (e.0, f e.1)) (take (suc i) es) ++ drop (suc i) es
value_step f [] zero k v e = cc
value_step f [] (suc i) k v e = cc
value_step f (y ∷ ys) zero k v e = let s : y ≡ (k, v) = cc in rw s refl
value_step f (y ∷ ys) (suc i) k v e = ap (λ zs. (y.0, f y.1) ∷ zs) (value_step f ys i k v e)

-- ---- one goes, or gets another value
pub take_removed : {A : Type 0} (xs : List A) (i : ℕ) → take i (remove xs i) ≡ take i xs
take_removed [] zero = refl
take_removed [] (suc i) = refl
take_removed (y ∷ ys) zero = refl
take_removed (y ∷ ys) (suc i) = ap (λ zs. y ∷ zs) (take_removed ys i)

pub drop_removed : {A : Type 0} (xs : List A) (i : ℕ) → drop i (remove xs i) ≡ drop (suc i) xs
drop_removed [] zero = refl
drop_removed [] (suc i) = refl
drop_removed (y ∷ ys) zero = refl
drop_removed (y ∷ ys) (suc i) = drop_removed ys i

pub take_valued : {K V : Type 0} (es : List (K × V)) (i : ℕ) (k : K) (v w : V) → slice_get es i ≡ Some (k, v) → take (suc i) (with_value es i w) ≡ take i es ++ (k, w) ∷ []
take_valued [] i k v w e = cc
take_valued (y ∷ ys) zero k v w e = let s : y ≡ (k, v) = cc in rw s refl
take_valued (y ∷ ys) (suc i) k v w e = ap (λ zs. y ∷ zs) (take_valued ys i k v w e)

pub drop_valued : {K V : Type 0} (es : List (K × V)) (i : ℕ) (w : V) → drop (suc i) (with_value es i w) ≡ drop (suc i) es
drop_valued [] zero w = refl
drop_valued [] (suc i) w = refl
drop_valued (y ∷ ys) zero w = refl
drop_valued (y ∷ ys) (suc i) w = drop_valued ys i w

pub any_at : {A : Type 0} (p : A → Bool) (xs : List A) (i : ℕ) (x : A) → slice_get xs i ≡ Some x → p x ≡ true → list_any p (drop i xs) ≡ true
any_at p xs i x e h = rw (drop_entry xs i x e, h) refl

pub any_past : {A : Type 0} (p : A → Bool) (xs : List A) (i : ℕ) (x : A) → slice_get xs i ≡ Some x → p x ≡ false → list_any p (drop i xs) ≡ list_any p (drop (suc i) xs)
any_past p xs i x e h = rw (drop_entry xs i x e, h) refl

pub first_is : {A : Type 0} (xs : List A) (x : A) → Some x ≡ slice_get xs 0 → xs ≡ x ∷ drop 1 xs
first_is [] x e = cc
first_is (y ∷ ys) x e = let s : x ≡ y = cc in ap (λ z. z ∷ ys) (sym s)

pub none_is : {A : Type 0} (xs : List A) → None ≡ slice_get xs 0 → xs ≡ []
none_is [] e = refl
none_is (y ∷ ys) e = cc

-- ---- results
pub at_err : {T E P : Type 0} (r : Result T E) → P → OnErr r P
at_err (Ok x) p = tt
at_err (Err e) p = p

pub either : {T E P : Type 0} (r : Result T E) → OnOk r P → OnErr r P → P
either (Ok x) p q = p
either (Err e) p q = q

pub on_err_weaker : {T E P Q : Type 0} (r : Result T E) → (P → Q) → OnErr r P → OnErr r Q
on_err_weaker (Ok x) f p = tt
on_err_weaker (Err e) f p = f p

pub both_ok : {T E P Q R : Type 0} (r : Result T E) → OnOk r P → OnOk r Q → (P → Q → R) → OnOk r R
both_ok (Ok x) p q f = f p q
both_ok (Err e) p q f = tt

pub both_err : {T E P Q R : Type 0} (r : Result T E) → OnErr r P → OnErr r Q → (P → Q → R) → OnErr r R
both_err (Ok x) p q f = tt
both_err (Err e) p q f = f p q
