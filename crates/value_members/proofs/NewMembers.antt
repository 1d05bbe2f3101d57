-- A list of members whose primitives are told by a test that grows from member to member.
use Rattle.std.proofs.Common.{◌≡◌, Bool, true, false, not, ◌&&◌, ◌||◌, List, [], ◌∷◌, refl, sym, ◌∙◌, ap}
use Rattle.std.specs.List.{list_any}
use Rattle.clone_values.specs.Tree.{Tree}
use Rattle.clone_values.specs.Sameness.{repeats}
use Rattle.clone_values.specs.WellFormed.{are_once}

-- no member has passed the test before, and none stands twice
abbrev pub are_new : (Tree → Bool) → List Tree → Bool
are_new h ts = not (list_any h ts) && are_once ts

pub any_none : (h : Tree → Bool) → ((t : Tree) → h t ≡ false) → (ts : List Tree) → list_any h ts ≡ false
any_none h none [] = refl
any_none h none (t ∷ ts) = λ i. none t i || any_none h none ts i

any_either : (h k g : Tree → Bool) → ((t : Tree) → k t ≡ (h t || g t)) → (ts : List Tree) → list_any k ts ≡ (list_any h ts || list_any g ts)
any_either h k g e [] = refl
any_either h k g e (t ∷ ts) = (λ i. e t i || any_either h k g e ts i) ∙ regroup (h t) (g t) (list_any h ts) (list_any g ts)
  where
    regroup : (a b c d : Bool) → ((a || b) || (c || d)) ≡ ((a || c) || (b || d))
    regroup true b c d = refl
    regroup false true true d = refl
    regroup false true false d = refl
    regroup false false c d = refl

pub starts : (h : Tree → Bool) → ((t : Tree) → h t ≡ false) → (ts : List Tree) → are_once ts ≡ are_new h ts
starts h none ts = ap (λ b. not b && are_once ts) (sym (any_none h none ts))

-- a new member: the test has it from then on
pub goes_on : (h k : Tree → Bool) (t : Tree) (ts : List Tree) → h t ≡ false → ((u : Tree) → k u ≡ (h u || repeats t u)) → are_new h (t ∷ ts) ≡ are_new k ts
goes_on h k t ts new e =
    ap (λ b. not (b || list_any h ts) && (not (list_any (λ s. repeats t s) ts) && are_once ts)) new
    ∙ regroup (list_any h ts) (list_any (λ s. repeats t s) ts) (are_once ts)
    ∙ ap (λ b. not b && are_once ts) (sym (any_either h k (λ s. repeats t s) e ts))
  where
    regroup : (a b c : Bool) → (not a && (not b && c)) ≡ (not (a || b) && c)
    regroup true b c = refl
    regroup false b c = refl

pub stops : (h : Tree → Bool) (t : Tree) (ts : List Tree) → h t ≡ true → are_new h (t ∷ ts) ≡ false
stops h t ts old = ap (λ b. not (b || list_any h ts) && are_once (t ∷ ts)) old

pub not_true : (b : Bool) → not b ≡ true → b ≡ false
not_true true e = cc
not_true false e = refl
