-- The definition that an id names.
--     store_at              it stands at its place
--     store_nowhere         there is none where the id has no place
use Rattle.std.proofs.Common.{◌≡◌, ℕ, ◌==◌, Bool, true, false, List, length, position, Some, None, cond, refl, ap, sym, ◌∙◌, slice_get, option_map}
use Rattle.std.specs.List.{find, position_or_len}
use Rattle.std.proofs.Math.Dec.{ltb}
use borrow.Author.Tests.{ltb-false}
use Rattle.std.proofs.lemmas.Option.{cond_some, slice_get_past, slice_get-map}
use Rattle.std.proofs.lemmas.List.Folds.{find_at}
use Rattle.idb_schema.specs.declared.identities.StoreId.{StoreId}
use Rattle.idb_schema.specs.Schemas.{SchemaData, stores_of, place_of, store_of}

none_of : {A : Type 0} (b : Bool) (x : A) → cond b (Some x) None ≡ None → b ≡ false
none_of true x e = cc
none_of false x e = refl

module _ {A : Type 0} (test : A → Bool) where
  found_there : (xs : List A) (i : ℕ) → position test xs ≡ Some i → slice_get xs i ≡ find test xs
  found_there xs i e =
      let p = cond_some (ltb (position_or_len test xs) (length xs)) (position_or_len test xs) i e in
      rw (← p.1) (sym (find_at test xs))

  found_nowhere : (xs : List A) → position test xs ≡ None → find test xs ≡ None
  found_nowhere xs e = find_at test xs ∙ slice_get_past xs _ (ltb-false _ _ (none_of (ltb (position_or_len test xs) (length xs)) _ e))

pub store_at : (schema : SchemaData) (id : StoreId) (place : ℕ) → place_of schema id ≡ Some place → slice_get (stores_of schema) place ≡ store_of schema id
store_at schema id place e = slice_get-map (λ e. e.info) schema.entries place ∙ ap (λ o. option_map (λ e. e.info) o) (found_there (λ e. e.id == id.number) schema.entries place e)

pub store_nowhere : (schema : SchemaData) (id : StoreId) → place_of schema id ≡ None → store_of schema id ≡ None
store_nowhere schema id e = ap (λ o. option_map (λ e. e.info) o) (found_nowhere (λ e. e.id == id.number) schema.entries e)
