-- A name and the place that it finds.
use Rattle.std.proofs.Common.{◌≡◌, ◌≢◌, ℕ, zero, suc, ◌<◌, ◌≤◌, Bool, true, false, nat_eq, nat_lt, if◌then◌else◌, List, [], ◌∷◌, map, length, get_or, slice_get, Some, None, arith, refl, sym, ◌∙◌, ap}
use Rattle.std.specs.declared.cmp.Ordering.{Ordering}
use Rattle.std.specs.declared.cmp.Ordering.TheVariants.{Less, Equal, Greater}
use Rattle.std.specs.Ordering.{nat_cmp, is_eq}
use Rattle.std.specs.Cmp.Lexicographic.{slice_cmp, pointwise, texts_ties}
use Rattle.std.specs.List.{position, position_or_len}
use Rattle.std.proofs.lemmas.Bool.{ltb-false}
use Rattle.std.proofs.lemmas.Cmp.{nat_list_cmp_total, tied_itself}
use Rattle.std.proofs.lemmas.List.Sums.{fails_before_first}
use Rattle.std.proofs.lemmas.List.Quantifiers.{position-Some}
use Rattle.idb_schema.specs.declared.entries.StoreEntry.{StoreEntry}
use Rattle.idb_schema.specs.Definitions.{store_named}
use Rattle.idb_schema.specs.Schemas.{infos_of, entry_names, AreEntries}
use Rattle.idb_schema.proofs.NameOrder.{same_name, tells}
use Rattle.idb_schema.proofs.NamePlaces.{named_at}

equal_from : (o : Ordering) → is_eq o ≡ true → o ≡ Equal
equal_from Less e = cc
equal_from Equal e = refl
equal_from Greater e = cc

same_text : (a b : List ℕ) → pointwise nat_eq a b ≡ true → a ≡ b
same_text a b e = same_name a b (equal_from (slice_cmp nat_cmp a b) (sym (texts_ties a b) ∙ e))

-- what stands at a place of the mapped list comes from what stands there
got : {X Y : Type 0} (f : X → Y) (xs : List X) (p : ℕ) (y : Y) (d : X) → slice_get (map f xs) p ≡ Some y → (p < length xs) × (f (get_or xs p d) ≡ y)
got f [] p y d e = absurd (cc)
got f (x ∷ xs) zero y d e = (omega arith, cc)
got f (x ∷ xs) (suc p) y d e = let rest = got f xs p y d e in (omega (arith, rest.0), rest.1)

gives : {X Y : Type 0} (f : X → Y) (xs : List X) (p : ℕ) (d : X) → p < length xs → slice_get (map f xs) p ≡ Some (f (get_or xs p d))
gives f [] p d lt = absurd (omega arith)
gives f (x ∷ xs) zero d lt = refl
gives f (x ∷ xs) (suc p) d lt = gives f xs p d (omega arith)

none_means : (k n : ℕ) (b : Bool) → nat_lt k n ≡ b → (if b then Some k else None) ≡ None → n ≤ k
none_means k n true e none = absurd (cc)
none_means k n false e none = ltb-false k n e

module _ {X : Type 0} (name : X → List ℕ) (n : List ℕ) where
  pub name_stands : (xs : List X) (p : ℕ) → position (λ x. pointwise nat_eq (name x) n) xs ≡ Some p → slice_get (map name xs) p ≡ Some n
  name_stands [] p e = absurd (cc)
  name_stands (x ∷ xs) p e =
      let here = position-Some (λ y. pointwise nat_eq (name y) n) (x ∷ xs) p x e in
      gives name (x ∷ xs) p x here.0 ∙ ap Some (same_text (name (get_or (x ∷ xs) p x)) n here.1)

  pub name_absent : (xs : List X) (p : ℕ) → position (λ x. pointwise nat_eq (name x) n) xs ≡ None → slice_get (map name xs) p ≢ Some n
  name_absent [] p none e = cc
  name_absent (x ∷ xs) p none e =
      let test : X → Bool = λ y. pointwise nat_eq (name y) n in
      let all = none_means (position_or_len test (x ∷ xs)) (length (x ∷ xs)) (nat_lt (position_or_len test (x ∷ xs)) (length (x ∷ xs))) refl none in
      let here = got name (x ∷ xs) p n x e in
      let fails = fails_before_first test (x ∷ xs) p x (omega (arith, all, here.0)) in
      let passes : pointwise nat_eq (name (get_or (x ∷ xs) p x)) n ≡ true = tells _ n Equal (rw here.1 (tied_itself nat_list_cmp_total n)) in
      cc

name_got : (es : List StoreEntry) (p : ℕ) (n : List ℕ) (d : StoreEntry) → slice_get (entry_names es) p ≡ Some n → (p < length es) × ((get_or es p d).info.name ≡ n)
name_got [] p n d e = absurd (cc)
name_got (x ∷ xs) zero n d e = (omega arith, cc)
name_got (x ∷ xs) (suc p) n d e = let rest = name_got xs p n d e in (omega (arith, rest.0), rest.1)

pub name_found : (es : List StoreEntry) (next p : ℕ) (n : List ℕ) → AreEntries es next → slice_get (entry_names es) p ≡ Some n → store_named (infos_of es) n ≡ Some p
name_found [] next p n h e = absurd (cc)
name_found (x ∷ xs) next p n h e =
    let here = name_got (x ∷ xs) p n x e in
    named_at (x ∷ xs) p x n h.rising here.0 (rw here.1 (tied_itself nat_list_cmp_total n))
