-- Lists that a loop goes through place by place.
--     mapped_more, rows_more        what stands at the next place comes to the end
use Rattle.std.proofs.Common.{◌≡◌, ℕ, zero, suc, ◌+◌, List, [], ◌∷◌, ◌++◌, ap, ◌∙◌, Some, map, take, length, slice_index_or, ◌<◌, add-one, arith}
use Rattle.std.proofs.lemmas.List.{map-append}
use Rattle.std.specs.Prelude.{slice_get}
use Rattle.clone_values.specs.KeyTree.{KeyTree}
use Rattle.index_tables.specs.declared.rows.Row.{Row}
use Rattle.index_tables.specs.Rows.{RowTree}
use Rattle.index_tables.specs.View.{row_of}
use Rattle.store_contents.specs.Contents.{rows_among}

mapped_next : {A B : Type 0} (f : A → B) (xs : List A) (i : ℕ) (x : A) → Some x ≡ slice_get xs i → map f (take i xs) ++ f x ∷ [] ≡ map f (take (suc i) xs)
mapped_next f [] i x e = cc
mapped_next f (y ∷ xs) zero x e = let same : x ≡ y = cc in ap (λ z. f z ∷ []) same
mapped_next f (y ∷ xs) (suc i) x e = ap (λ zs. f y ∷ zs) (mapped_next f xs i x e)

pub mapped_more : {A B : Type 0} (f : A → B) (xs : List A) (i : ℕ) (x : A) → Some x ≡ slice_get xs i → map f (take i xs) ++ f x ∷ [] ≡ map f (take (i + 1) xs)
mapped_more f xs i x e = rw add-one (mapped_next f xs i x e)

-- the same of rows made of keys
pub rows_more : (rows : List Row) (row : Row) (ks : List KeyTree) (i : ℕ) (k p : KeyTree) → map row_of rows ≡ map (λ j. (j, p)) (take i ks) → Some k ≡ slice_get ks i → row_of row ≡ (k, p) → map row_of (rows ++ row ∷ []) ≡ map (λ j. (j, p)) (take (i + 1) ks)
rows_more rows row ks i k p so at is = map-append row_of rows (row ∷ []) ∙ (λ j. so j ++ is j ∷ []) ∙ mapped_more (λ j. (j, p)) ks i k at

-- how many rows the lists so far have, and the next one
pub rows_more_among : (lists : List (List RowTree)) (i : ℕ) (d : List RowTree) → i < length lists → rows_among (take (suc i) lists) ≡ rows_among (take i lists) + length (slice_index_or lists i d)
rows_more_among [] i d lt = absurd (omega arith)
rows_more_among (l ∷ ls) zero d lt = omega arith
rows_more_among (l ∷ ls) (suc i) d lt = omega (arith, rows_more_among ls i d (omega arith))
