-- Values that give a record the same rows.
--     told_same                     what is told the same is the same
--     put_back, kept_rows           a record that gets such a value leaves the rows of each index
--     revalued_in_step, unbroken_over       and so the tables in step, and no unique index is broken more
use Rattle.std.proofs.Common.{◌≡◌, ℕ, List, [], ◌∷◌, refl, sym, ap, ◌∙◌, Some, map}
use Rattle.std.specs.Prelude.{true, false, cond, ◌||◌, if◌then◌else◌, None, is_some}
use Rattle.std.proofs.lemmas.Bool.{and_parts}
use Rattle.std.specs.Ordering.{is_eq}
use Rattle.std.specs.Cmp.{Equal-is}
use Rattle.std.specs.FinMap.{get, insert, get-insert, same_map}
use Rattle.clone_values.specs.Tree.{Tree}
use Rattle.clone_values.specs.KeyTree.{KeyTree}
use Rattle.key_order.specs.KeyOrder.{key_cmp}
use Rattle.key_order.proofs.Laws.{key_cmp_total, key_cmp_same}
use Rattle.idb_schema.specs.declared.definitions.IndexInfo.{IndexInfo}
use Rattle.index_tables.specs.Rows.{IndexRows, rows_of, with_rows, without_rows}
use Rattle.index_tables.specs.RecordRows.{Records, index_keys, rows_of_record, index_rows}
use Rattle.index_tables.specs.Unique.{first_repeated, is_broken}
use Rattle.index_tables.proofs.Laws.{rows_over}
use Rattle.store_contents.specs.Contents.{rows_in_indexes}
use Rattle.store_contents.specs.Matches.{InStep}
use Rattle.store_contents.specs.Sameness.{same_keys, gives_same_rows}

-- ---- what is told the same is the same
same_lists : (xs ys : List KeyTree) → same_keys xs ys ≡ true → xs ≡ ys
same_lists [] [] h = refl
same_lists [] (y ∷ ys) h = cc
same_lists (x ∷ xs) [] h = cc
same_lists (x ∷ xs) (y ∷ ys) h =
    let parts = and_parts _ _ h in
    λ i. key_cmp_same x y ((Equal-is _).0 parts.0) i ∷ same_lists xs ys parts.1 i

pub told_same : (is : List IndexInfo) (one other : Tree) → gives_same_rows is one other ≡ true → (k : KeyTree) → rows_in_indexes is k one ≡ rows_in_indexes is k other
told_same [] one other h k = refl
told_same (index ∷ is) one other h k =
    let parts = and_parts _ _ h in
    λ i. map (λ j. (j, k)) (same_lists (index_keys index one) (index_keys index other) parts.0 i) ∷ told_same is one other parts.1 k i

-- ---- a record that gets a value with the same rows
module _ (records : Records) (k : KeyTree) (old value : Tree) (there : get records k ≡ Some old) where
  put_back : insert records k old ≡ records
  put_back = same_map key_cmp_total key_cmp_same _ _ (λ q.
      get-insert key_cmp_total records k old q
      ∙ elim (is_eq (key_cmp q k)) as (λ b. is_eq (key_cmp q k) ≡ b → cond b (Some old) (get records q) ≡ get records q) [
        | true ↦ λ t. sym (ap (get records) (key_cmp_same q k ((Equal-is _).0 t)) ∙ there)
        | false ↦ λ t. refl
      ] refl)

  kept_rows : (index : IndexInfo) → rows_of_record index k old ≡ rows_of_record index k value → index_rows index (insert records k value) ≡ index_rows index records
  kept_rows index same =
      rows_over index records k value old there
      ∙ ap (with_rows (without_rows (index_rows index records) (rows_of_record index k old))) (sym same)
      ∙ sym (rows_over index records k old old there)
      ∙ ap (index_rows index) put_back

  pub revalued_in_step : (spare : ℕ) (is : List IndexInfo) (os : List IndexRows) → InStep is os records spare → rows_in_indexes is k old ≡ rows_in_indexes is k value → InStep is os (insert records k value) spare
  revalued_in_step spare [] [] h same = tt
  revalued_in_step spare [] (o ∷ os) h same = absurd h
  revalued_in_step spare (i ∷ is) [] h same =
      let first : rows_of_record i k old ≡ rows_of_record i k value = cc in
      let more : rows_in_indexes is k old ≡ rows_in_indexes is k value = cc in
      (kept_rows i first ∙ h.0, h.1, revalued_in_step spare is [] h.2 more)
  revalued_in_step spare (i ∷ is) (o ∷ os) h same =
      let first : rows_of_record i k old ≡ rows_of_record i k value = cc in
      let more : rows_in_indexes is k old ≡ rows_in_indexes is k value = cc in
      (h.0 ∙ sym (kept_rows i first), h.1, revalued_in_step spare is os h.2 more)

  pub unbroken_over : (is : List IndexInfo) → rows_in_indexes is k old ≡ rows_in_indexes is k value → is_broken is (insert records k value) ≡ is_broken is records
  unbroken_over [] same = refl
  unbroken_over (i ∷ is) same =
      let first : rows_of_record i k old ≡ rows_of_record i k value = cc in
      let more : rows_in_indexes is k old ≡ rows_in_indexes is k value = cc in
      λ j. is_some (if i.unique then first_repeated (rows_of (kept_rows i first j)) else None) || unbroken_over is more j
