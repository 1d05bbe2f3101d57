-- The members that a source shows.
--     AreRising             they stand in the order of their keys and primary keys
--     records_in            the members that the records of a store are: both keys are the record's
--     rows_rise, records_rise     the entries of a table are in order
use Rattle.std.specs.Prelude.{◌≡◌, ℕ, zero, suc, ◌<◌, T, List, [], ◌∷◌, Option, Some, None, map, option_map, slice_get}
use Rattle.std.proofs.Common.{refl, sym, ◌∙◌, ap, arith}
use Rattle.std.specs.declared.cmp.Ordering.{Ordering}
use Rattle.std.specs.declared.cmp.Ordering.TheVariants.{Less}
use Rattle.std.specs.Ordering.{ordering_then}
use Rattle.std.specs.FinMap.Entries.{below_all}
use Rattle.std.proofs.lemmas.Option.{slice_get-map}
use Rattle.clone_values.specs.declared.key_types.Key.{Key}
use Rattle.clone_values.specs.declared.value_types.Value.{Value}
use Rattle.clone_values.specs.View.{key_tree_of}
use Rattle.sorted_table.specs.Tables.{IsSorted}
use Rattle.sorted_table.specs.Orders.{by_key_order}
use Rattle.sorted_table.proofs.Laws.{first, second, is_less}
use Rattle.index_tables.specs.declared.rows.Row.{Row}
use Rattle.index_tables.specs.Rows.{RowTree, row_cmp}
use Rattle.index_tables.specs.Orders.{by_row_order}
use Rattle.index_tables.specs.View.{row_of, rows_in}

-- each member is less than all behind it
abbrev pub AreRising : List RowTree → Type 0
AreRising rows = (i j : ℕ) (p q : RowTree) → i < j → slice_get rows i ≡ Some p → slice_get rows j ≡ Some q → row_cmp p q ≡ Less

-- a record's key twice
abbrev pub record_row : Key × Value → RowTree
record_row e = (key_tree_of e.0, key_tree_of e.0)

abbrev pub records_in : List (Key × Value) → List RowTree
records_in es = map record_row es

-- ---- the entries of a table are in order
module _ {K V : Type 0} (order : K → K → Ordering) where
  below : (k : K) (es : List (K × V)) (i : ℕ) (e : K × V) → T (below_all order k es) → slice_get es i ≡ Some e → order k e.0 ≡ Less
  below k [] i e h at = cc
  below k (d ∷ es) zero e h at = let same : d ≡ e = cc in ap (λ x. order k x.0) (sym same) ∙ is_less _ (first _ _ h)
  below k (d ∷ es) (suc i) e h at = below k es i e (second _ _ h) at

  rise : (es : List (K × V)) → IsSorted order es → (i j : ℕ) (d e : K × V) → i < j → slice_get es i ≡ Some d → slice_get es j ≡ Some e → order d.0 e.0 ≡ Less
  rise [] h i j d e lt a b = cc
  rise (c ∷ es) h i zero d e lt a b = absurd (omega arith)
  rise (c ∷ es) h zero (suc j) d e lt a b = let same : c ≡ d = cc in ap (λ x. order x.0 e.0) (sym same) ∙ below c.0 es j e (first _ _ h) b
  rise (c ∷ es) h (suc i) (suc j) d e lt a b = rise es (second _ _ h) i j d e (omega arith) a b

  mapped : {X : Type 0} (f : K × V → X) (o : Option (K × V)) (x : X) → option_map f o ≡ Some x → (e : K × V) × (o ≡ Some e) × (f e ≡ x)
  mapped f None x e = cc
  mapped f (Some d) x e = (d, refl, cc)

  pub rises_by : (show : K × V → RowTree) → ((d e : K × V) → order d.0 e.0 ≡ Less → row_cmp (show d) (show e) ≡ Less) → (es : List (K × V)) → IsSorted order es → AreRising (map show es)
  rises_by show keeps es h i j p q lt a b =
      let d = mapped show (slice_get es i) p (sym (slice_get-map show es i) ∙ a) in
      let e = mapped show (slice_get es j) q (sym (slice_get-map show es j) ∙ b) in
      ap (λ r. row_cmp r q) (sym d.2) ∙ ap (λ r. row_cmp (show d.0) r) (sym e.2) ∙ keeps d.0 e.0 (rise es h i j d.0 e.0 lt d.1 e.1)

pub rows_rise : (es : List (Row × Unit {0})) → IsSorted by_row_order es → AreRising (rows_in es)
rows_rise es h = rises_by by_row_order (λ e. row_of e.0) (λ d e less. less) es h

pub records_rise : (es : List (Key × Value)) → IsSorted by_key_order es → AreRising (records_in es)
records_rise es h = rises_by by_key_order record_row (λ d e less. ap (λ o. ordering_then o (by_key_order d.0 e.0)) less) es h
