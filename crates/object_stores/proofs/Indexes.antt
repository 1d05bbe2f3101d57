-- Indexes that come and go.
use Rattle.std.specs.Prelude.{◌≡◌, ℕ, suc, zero, ◌+◌, ◌-◌, ◌<◌, Bool, true, false, ◌||◌, List, [], ◌∷◌, ◌++◌, length, take, slice_get, Some, None, is_some, refl}
use Rattle.std.proofs.Common.{sym, ap, ◌∙◌, arith}
use Rattle.std.proofs.lemmas.Bool.{true≢false}
use Rattle.std.proofs.lemmas.List.{length-append}
use Rattle.std.proofs.lemmas.List.Folds.{list_any-append}
use Rattle.std.proofs.Math.Seq.{take-append_seam}
use Rattle.std.specs.List.{insert, remove}
use Rattle.idb_schema.specs.declared.definitions.IndexInfo.{IndexInfo}
use Rattle.idb_schema.specs.declared.definitions.StoreInfo.{StoreInfo}
use Rattle.index_tables.specs.RecordRows.{Records}
use Rattle.index_tables.specs.Unique.{broken_key, is_broken}
use Rattle.range_reads.specs.Contents.{info_with_index, info_without_last, info_without_index, info_with_index_at}
use Rattle.object_stores.proofs.Off.{same_some as some_same}

-- the last index is taken away again
pub last_gone : (info : StoreInfo) (index : IndexInfo) → info_without_last (info_with_index info index) ≡ info
last_gone info index =
    let all = info.indexes ++ index ∷ [] in
    let one : length all - 1 ≡ length info.indexes = omega (arith, length-append info.indexes (index ∷ [])) in
    let front = ap (λ n. take n all) one ∙ take-append_seam info.indexes (index ∷ []) in
    λ i. record info { indexes = front i }

or_false : (a b : Bool) → a ≡ false → b ≡ false → (a || b) ≡ false
or_false true b e f = absurd (true≢false e)
or_false false b e f = f

parts_false : (a b : Bool) → (a || b) ≡ false → (a ≡ false) × (b ≡ false)
parts_false true b e = absurd (true≢false e)
parts_false false b e = (refl, e)

-- an index that nothing breaks, beside others that nothing breaks
pub fine_with : (indexes : List IndexInfo) (index : IndexInfo) (records : Records) → is_broken indexes records ≡ false → broken_key index records ≡ None → is_broken (indexes ++ index ∷ []) records ≡ false
fine_with indexes index records fine none =
    list_any-append (λ i. is_some (broken_key i records)) indexes (index ∷ [])
    ∙ or_false _ _ fine (or_false _ _ (ap is_some none) refl)

-- the others, where one is dropped
pub fine_without : (indexes : List IndexInfo) (place : ℕ) (records : Records) → is_broken indexes records ≡ false → is_broken (remove indexes place) records ≡ false
fine_without [] zero records fine = refl
fine_without [] (suc place) records fine = refl
fine_without (i ∷ indexes) zero records fine = (parts_false _ _ fine).1
fine_without (i ∷ indexes) (suc place) records fine = let parts = parts_false _ _ fine in or_false _ _ parts.0 (fine_without indexes place records parts.1)

-- what was dropped, in its place again
pub in_place_again : {A : Type 0} (xs : List A) (place : ℕ) (x : A) → slice_get xs place ≡ Some x → insert (remove xs place) place x ≡ xs
in_place_again [] zero x e = absurd (true≢false (sym (ap is_some e)))
in_place_again [] (suc place) x e = absurd (true≢false (sym (ap is_some e)))
in_place_again (y ∷ xs) zero x e = ap (λ z. z ∷ xs) (sym (some_same y x e))
in_place_again (y ∷ xs) (suc place) x e = ap (λ zs. y ∷ zs) (in_place_again xs place x e)

pub back_again : (info : StoreInfo) (place : ℕ) (index : IndexInfo) → slice_get info.indexes place ≡ Some index → info_with_index_at (info_without_index info place) place index ≡ info
back_again info place index e = λ i. record info { indexes = in_place_again info.indexes place index e i }

pub one_less : {A : Type 0} (xs : List A) (place : ℕ) → place < length xs → length (remove xs place) + 1 ≡ length xs
one_less [] place h = absurd (omega (arith, h))
one_less (x ∷ xs) zero h = omega arith
one_less (x ∷ xs) (suc place) h = let rest = one_less xs place (omega (arith, h)) in omega (arith, rest)
