-- A name at the end of names that rise.
use Rattle.std.proofs.Common.{◌≡◌, ℕ, suc, ◌-◌, ◌<◌, Bool, true, false, ◌&&◌, List, [], ◌∷◌, ◌++◌, length, get_or, arith, refl, sym, ◌∙◌, ap}
use Rattle.std.specs.Ordering.{nat_cmp, is_lt}
use Rattle.std.specs.Cmp.{first_so, second_so}
use Rattle.std.specs.Cmp.Lexicographic.{slice_cmp}
use Rattle.clone_values.specs.Names.{rises_after, is_rising}
use Rattle.idb_schema.specs.declared.definitions.StoreInfo.{StoreInfo}
use Rattle.idb_schema.specs.Definitions.{store_names}

and_true : (b : Bool) → (b && true) ≡ b
and_true true = refl
and_true false = refl

abbrev last_name : List ℕ → List StoreInfo → List ℕ
last_name p [] = p
last_name p (x ∷ xs) = last_name x.name xs

after_push : (p : List ℕ) (xs : List StoreInfo) (n : List ℕ) → rises_after p (store_names xs) ≡ true → rises_after p (store_names xs ++ n ∷ []) ≡ is_lt (slice_cmp nat_cmp (last_name p xs) n)
after_push p [] n h = and_true (is_lt (slice_cmp nat_cmp p n))
after_push p (x ∷ xs) n h =
    let less : is_lt (slice_cmp nat_cmp p x.name) ≡ true = first_so (is_lt (slice_cmp nat_cmp p x.name)) (rises_after x.name (store_names xs)) h in
    rw less (after_push x.name xs n (second_so (is_lt (slice_cmp nat_cmp p x.name)) (rises_after x.name (store_names xs)) h))

last_is : (y : StoreInfo) (ys : List StoreInfo) (d : StoreInfo) → last_name y.name ys ≡ (get_or (y ∷ ys) (length ys) d).name
last_is y [] d = refl
last_is y (x ∷ xs) d = last_is x xs d

-- x is the last of these
pub pushes : (xs : List StoreInfo) (x : StoreInfo) (n : List ℕ) → is_rising (store_names xs) ≡ true → 0 < length xs → x ≡ get_or xs (length xs - 1) x → is_rising (store_names xs ++ n ∷ []) ≡ is_lt (slice_cmp nat_cmp x.name n)
pushes [] x n h lt e = absurd (omega arith)
pushes (y ∷ ys) x n h lt e =
    let place : suc (length ys) - 1 ≡ length ys = omega arith in
    let last : x ≡ get_or (y ∷ ys) (length ys) x = e ∙ ap (λ i. get_or (y ∷ ys) i x) place in
    let name : last_name y.name ys ≡ x.name = last_is y ys x ∙ ap (λ (s : StoreInfo). s.name) (sym last) in
    after_push y.name ys n h ∙ ap (λ w. is_lt (slice_cmp nat_cmp w n)) name
