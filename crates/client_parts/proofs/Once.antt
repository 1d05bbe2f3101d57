-- Names, each at its first place.
--     OnceSoFar             what is left completes the whole
--     once_same, once_new
use Rattle.std.proofs.Common.{◌≡◌, ℕ, ◌+◌, ◌≤◌, Bool, true, false, List, [], ◌∷◌, ◌++◌, length, drop, if◌then◌else◌, refl, sym, ap, ◌∙◌, subst, append_assoc, arith, length-append}
use Rattle.std.specs.Prelude.{◌||◌}
use Rattle.std.specs.List.{list_any}
use Rattle.std.proofs.lemmas.List.{append-nil, drop_all}
use Rattle.idb_base.specs.Lists.{StandsAt}
use Rattle.item_changes.specs.Items.{Name, is_same_name}
use Rattle.client_seats.specs.TaskRuns.{names_once}

-- the names that were seen tell the same as those that were kept
pub record OnceSoFar (names : List Name) (place : ℕ) (once : List Name) : Type 0 where
  pub seen : List Name
  pub same : (m : Name) → list_any (is_same_name m) seen ≡ list_any (is_same_name m) once
  pub whole : once ++ names_once seen (drop place names) ≡ names_once [] names
  pub few : length once ≤ place

pub once_same : (names : List Name) (place : ℕ) (once after : List Name) (n : Name) → OnceSoFar names place once → StandsAt names place n → list_any (is_same_name n) once ≡ true → after ≡ once → OnceSoFar names (place + 1) after
once_same names place once after n f here is stays =
    let known : list_any (is_same_name n) f.seen ≡ true = f.same n ∙ is in
    let left : names_once f.seen (n ∷ drop (place + 1) names) ≡ names_once f.seen (drop (place + 1) names) = ap (λ b. if b then names_once f.seen (drop (place + 1) names) else n ∷ names_once (n ∷ f.seen) (drop (place + 1) names)) known in
    subst (OnceSoFar names (place + 1)) (sym stays) (record {
      seen = f.seen;
      same = f.same;
      whole = ap (λ ns. once ++ ns) (sym left ∙ ap (names_once f.seen) (sym here)) ∙ f.whole;
      few = (let few = f.few in omega arith);
    })

or_over : (a b c : Bool) → (a || (b || c)) ≡ (b || (a || c))
or_over true true c = refl
or_over true false c = refl
or_over false b c = refl

any_end : (m n : Name) (once : List Name) → list_any (is_same_name m) (once ++ n ∷ []) ≡ (is_same_name m n || list_any (is_same_name m) once)
any_end m n [] = refl
any_end m n (o ∷ once) = ap (λ b. is_same_name m o || b) (any_end m n once) ∙ or_over (is_same_name m o) (is_same_name m n) (list_any (is_same_name m) once)

pub once_new : (names : List Name) (place : ℕ) (once after : List Name) (n copy : Name) → OnceSoFar names place once → StandsAt names place n → list_any (is_same_name n) once ≡ false → copy ≡ n → after ≡ once ++ copy ∷ [] → OnceSoFar names (place + 1) after
once_new names place once after n copy f here is same grows =
    let known : list_any (is_same_name n) f.seen ≡ false = f.same n ∙ is in
    let left : names_once f.seen (n ∷ drop (place + 1) names) ≡ n ∷ names_once (n ∷ f.seen) (drop (place + 1) names) = ap (λ b. if b then names_once f.seen (drop (place + 1) names) else n ∷ names_once (n ∷ f.seen) (drop (place + 1) names)) known in
    subst (OnceSoFar names (place + 1)) (sym (grows ∙ ap (λ m. once ++ m ∷ []) same)) (record {
      seen = n ∷ f.seen;
      same = λ m. ap (λ b. is_same_name m n || b) (f.same m) ∙ sym (any_end m n once);
      whole = append_assoc once (n ∷ []) (names_once (n ∷ f.seen) (drop (place + 1) names)) ∙ ap (λ ns. once ++ ns) (sym left ∙ ap (names_once f.seen) (sym here)) ∙ f.whole;
      few = (let few = f.few in let long = length-append once (n ∷ []) in omega arith);
    })
