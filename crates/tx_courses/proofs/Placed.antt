-- What an id names, where its store isn't deleted.
--     store_at              the definition that stands at its place
--     store_there           there is one
use Rattle.std.proofs.Common.{◌≡◌, ℕ, ◌==◌, ◌<◌, Bool, false, List, length, position, Option, Some, None, arith, refl, ap, sym, ◌∙◌, slice_get, option_map, inl, inr}
use Rattle.std.specs.Option.{is_none}
use Rattle.std.specs.List.{find, position_or_len}
use Rattle.std.proofs.Math.Dec.{ltb}
use borrow.Author.Tests.{ltb-true}
use Rattle.std.proofs.lemmas.Option.{cond_some, slice_get-map, slice_get_cases}
use Rattle.std.proofs.lemmas.List.Folds.{find_at}
use Rattle.idb_schema.specs.declared.definitions.StoreInfo.{StoreInfo}
use Rattle.idb_schema.specs.declared.identities.StoreId.{StoreId}
use Rattle.idb_schema.specs.Schemas.{SchemaData, stores_of, place_of, store_of}
use Rattle.request_lists.specs.Fronts.{is_store_deleted}

module _ {A : Type 0} (test : A → Bool) where
  found_there : (xs : List A) (i : ℕ) → position test xs ≡ Some i → slice_get xs i ≡ find test xs
  found_there xs i e =
      let p = cond_some (ltb (position_or_len test xs) (length xs)) (position_or_len test xs) i e in
      rw (← p.1) (sym (find_at test xs))

  found_within : (xs : List A) (i : ℕ) → position test xs ≡ Some i → i < length xs
  found_within xs i e =
      let p = cond_some (ltb (position_or_len test xs) (length xs)) (position_or_len test xs) i e in
      let within = ltb-true (position_or_len test xs) (length xs) p.0 in
      omega (arith, within, p.1)

  pub found_one : (xs : List A) (i : ℕ) → position test xs ≡ Some i → (x : A) × (find test xs ≡ Some x)
  found_one xs i e = elim (slice_get_cases xs i).1 [
    | inl p ↦ (p.0, sym (found_there xs i e) ∙ p.2)
    | inr p ↦ absurd (omega (arith, found_within xs i e, p.0))
  ]

pub store_at : (schema : SchemaData) (id : StoreId) (place : ℕ) → place_of schema id ≡ Some place → slice_get (stores_of schema) place ≡ store_of schema id
store_at schema id place e = slice_get-map (λ e. e.info) schema.entries place ∙ ap (λ o. option_map (λ e. e.info) o) (found_there (λ e. e.id == id.number) schema.entries place e)

not_none : {X : Type 0} (o : Option X) → is_none o ≡ false → (x : X) × (o ≡ Some x)
not_none None e = cc
not_none (Some x) e = (x, refl)

pub store_there : (schema : SchemaData) (id : StoreId) → is_store_deleted schema id ≡ false → (info : StoreInfo) × (store_of schema id ≡ Some info)
store_there schema id stands =
    let place = not_none (place_of schema id) stands in
    let entry = found_one (λ e. e.id == id.number) schema.entries place.0 place.1 in
    (entry.0.info, ap (λ o. option_map (λ e. e.info) o) entry.1)
