-- Numbers in a row.
use Rattle.std.proofs.Common.{◌≡◌, ℕ, suc, ◌<◌, List, [], ◌∷◌, ◌++◌, ◌+◌, ◌-◌, ap, ◌∙◌, arith}
use Rattle.std.proofs.lemmas.List.{append_assoc}
use Rattle.desk_steps.specs.Numbers.{numbers_from}

pub numbers_next : (count k first : ℕ) (ns : List ℕ) → k < count → (ns ++ (first + k) ∷ []) ++ numbers_from (count - (k + 1)) (first + (k + 1)) ≡ ns ++ numbers_from (count - k) (first + k)
numbers_next count k first ns l =
    let e : count - k ≡ suc (count - (k + 1)) = omega (arith, l) in
    let f : first + (k + 1) ≡ first + k + 1 = omega arith in
    append_assoc ns ((first + k) ∷ []) (numbers_from (count - (k + 1)) (first + (k + 1))) ∙ rw e (ap (λ n. ns ++ (first + k) ∷ numbers_from (count - (k + 1)) n) f)
