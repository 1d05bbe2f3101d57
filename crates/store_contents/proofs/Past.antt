-- What stays known of the past through changes.
use Rattle.std.specs.Prelude.{◌≡◌, ℕ, ◌<◌, ◌≤◌, List, [], ◌∷◌, ◌++◌, length, take, suc, zero, refl}
use Rattle.std.proofs.Common.{sym, ap, ◌∙◌, subst, arith}
use Rattle.std.proofs.lemmas.List.{length-append, take-append-le, length-take-le}
use Rattle.store_contents.specs.Store.{Content, content_at, KeepsPlaces}

-- one change after another
pub keeps_again : {a b c : List Content} {x y z : Content} → KeepsPlaces a x b y → KeepsPlaces b y c z → KeepsPlaces a x c z
keeps_again first second = record {
  longer = omega (arith, first.longer, second.longer);
  places = λ place h. second.places place (omega (arith, h, first.longer)) ∙ first.places place h;
}

pub pushed_at : (past : List Content) (c d : Content) (place : ℕ) → place ≤ length past → content_at (past ++ c ∷ []) d place ≡ content_at past c place
unfolding content_at
pushed_at [] c d zero h = refl
pushed_at [] c d (suc place) h = absurd (omega (arith, h))
pushed_at (p ∷ past) c d zero h = refl
pushed_at (p ∷ past) c d (suc place) h = pushed_at past c d place (omega (arith, h))

-- a change was logged
pub keeps_pushed : (past past' : List Content) (c d : Content) → past' ≡ past ++ c ∷ [] → KeepsPlaces past c past' d
keeps_pushed past past' c d e = record {
  longer = subst (λ p. length past ≤ length p) (sym e) (omega (arith, length-append past (c ∷ [])));
  places = λ place h. ap (λ p. content_at p d place) e ∙ pushed_at past c d place h;
}

-- behind the past stands what is now
pub at_end : (past : List Content) (c : Content) → content_at past c (length past) ≡ c
unfolding content_at
at_end [] c = refl
at_end (p ∷ past) c = at_end past c

-- what one undoing leaves of a place, where the past was that with the content at its end
pub back_content : (old new : List Content) (c d : Content) (place : ℕ) → old ≡ new ++ d ∷ [] → place ≤ length new → content_at new d place ≡ content_at old c place
back_content old new c d place e h = sym (pushed_at new d c place h) ∙ ap (λ p. content_at p c place) (sym e)

pub back_past : (old new : List Content) (d : Content) (place : ℕ) → old ≡ new ++ d ∷ [] → place ≤ length new → take place new ≡ take place old
back_past old new d place e h = sym (take-append-le place new (d ∷ []) h) ∙ ap (take place) (sym e)

pub back_length : (old new : List Content) (d : Content) (place : ℕ) → old ≡ new ++ d ∷ [] → place < length old → place ≤ length new
back_length old new d place e h = omega (arith, h, ap length e, length-append new (d ∷ []))

pub cut_at : (past : List Content) (c : Content) (n place : ℕ) → place ≤ n → n ≤ length past → content_at (take n past) (content_at past c n) place ≡ content_at past c place
unfolding content_at
cut_at [] c zero place h k = refl
cut_at [] c (suc n) place h k = absurd (omega (arith, k))
cut_at (p ∷ past) c zero zero h k = refl
cut_at (p ∷ past) c zero (suc place) h k = absurd (omega (arith, h))
cut_at (p ∷ past) c (suc n) zero h k = refl
cut_at (p ∷ past) c (suc n) (suc place) h k = cut_at past c n place (omega (arith, h)) (omega (arith, k))

-- changes that were undone to where they began
pub keeps_cut : {a b : List Content} {x y : Content} (c : List Content) (z : Content) → KeepsPlaces a x b y → c ≡ take (length a) b → z ≡ content_at b y (length a) → KeepsPlaces a x c z
keeps_cut {a} {b} {x} {y} c z keeps cut content = record {
  longer = omega (arith, ap length cut, length-take-le (length a) b keeps.longer);
  places = λ place h. (λ i. content_at (cut i) (content i) place) ∙ cut_at b y (length a) place h keeps.longer ∙ keeps.places place h;
}

-- what was there where they began
pub content_cut : {a b : List Content} {x y : Content} → KeepsPlaces a x b y → content_at b y (length a) ≡ x
content_cut {a} {b} {x} {y} keeps = keeps.places (length a) (omega arith) ∙ at_end a x
