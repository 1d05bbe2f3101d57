-- No record breaks nothing, and neither does a record that goes.
use Rattle.std.specs.Prelude.{◌≡◌, ◌≢◌, Bool, true, false, cond, ◌||◌, List, [], ◌∷◌, Option, Some, None, is_some, refl}
use Rattle.std.proofs.Common.{sym, ap, ◌∙◌}
use Rattle.std.proofs.lemmas.Bool.{false≢true}
use Rattle.std.specs.Ordering.{is_eq}
use Rattle.std.specs.FinMap.{get, remove, empty, get-remove, get-empty}
use Rattle.clone_values.specs.KeyTree.{KeyTree}
use Rattle.idb_keys.specs.KeyOrder.{key_cmp}
use Rattle.idb_keys.proofs.Laws.{key_cmp_total}
use Rattle.idb_schema.specs.declared.definitions.IndexInfo.{IndexInfo}
use Rattle.index_tables.specs.Rows.{has_row, rows_of}
use Rattle.index_tables.specs.RecordRows.{Records, gives_key, index_rows}
use Rattle.index_tables.specs.Unique.{first_repeated, broken_key, is_broken}
use Rattle.index_tables.proofs.RecordRows.{has_index_row}
use Rattle.index_tables.proofs.Unique.{apart, two_rows}

none_of : {A : Type 0} (o : Option A) → is_some o ≡ false → o ≡ None
none_of None e = refl
none_of (Some x) e = absurd (false≢true (sym e))

unless_true : (b : Bool) → b ≢ true → b ≡ false
unless_true true h = absurd (h refl)
unless_true false h = refl

if_unique : (u : Bool) (o : Option KeyTree) → (is_some o ≡ false) → is_some (cond u o None) ≡ false
if_unique true o h = h
if_unique false o h = refl

none_empty : (index : IndexInfo) → is_some (broken_key index empty) ≡ false
none_empty index = if_unique index.unique _ (unless_true _ (λ some.
    let two = two_rows (index_rows index empty) some in
    false≢true (sym (has_index_row index empty (two.0, two.1) ∙ ap (gives_key index two.0) (get-empty key_cmp two.1)) ∙ two.3)))

pub nothing_breaks : (indexes : List IndexInfo) → is_broken indexes empty ≡ false
nothing_breaks [] = refl
nothing_breaks (index ∷ indexes) = ap (λ b. b || is_broken indexes empty) (none_empty index) ∙ nothing_breaks indexes

module _ (records : Records) (k : KeyTree) where
  stood : (index : IndexInfo) (x p : KeyTree) → has_row (index_rows index (remove records k)) (x, p) ≡ true → has_row (index_rows index records) (x, p) ≡ true
  stood index x p h =
      has_index_row index records (x, p)
      ∙ elim (is_eq (key_cmp p k)) as (λ b. gives_key index x (cond b None (get records p)) ≡ true → gives_key index x (get records p) ≡ true) [
        | true ↦ λ e. absurd (false≢true e)
        | false ↦ λ e. e
      ] (sym (has_index_row index (remove records k) (x, p) ∙ ap (gives_key index x) (get-remove key_cmp_total records k p)) ∙ h)

  one_kept : (index : IndexInfo) → is_some (broken_key index records) ≡ false → is_some (broken_key index (remove records k)) ≡ false
  one_kept index = elim index.unique as (λ u. is_some (cond u (first_repeated (rows_of (index_rows index records))) None) ≡ false → is_some (cond u (first_repeated (rows_of (index_rows index (remove records k)))) None) ≡ false) [
    | true ↦ λ e. unless_true _ (λ some.
        let two = two_rows (index_rows index (remove records k)) some in
        two.5 (apart (index_rows index records) (none_of _ e) two.0 two.1 two.2 (stood index two.0 two.1 two.3) (stood index two.0 two.2 two.4)))
    | false ↦ λ e. refl
  ]

  or_false : (a b : Bool) → (a || b) ≡ false → (a ≡ false) × (b ≡ false)
  or_false true b e = absurd (false≢true (sym e))
  or_false false b e = (refl, e)

  pub removal_keeps : (indexes : List IndexInfo) → is_broken indexes records ≡ false → is_broken indexes (remove records k) ≡ false
  removal_keeps [] e = refl
  removal_keeps (index ∷ indexes) e =
      let parts = or_false _ _ e in
      ap (λ b. b || is_broken indexes (remove records k)) (one_kept index parts.0) ∙ removal_keeps indexes parts.1
