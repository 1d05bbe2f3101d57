-- The order of rows as they stand in a table.
--     by_row_order          the index key decides first, and then the primary key
--     abbreviated_row       the abbreviation of a row
--     bound_in_front, bound_behind      what the abbreviation of a lower bound tells
use Rattle.std.specs.Prelude.{◌≡◌, ℤ, Bool, true, false, Option}
use Rattle.std.proofs.Common.{ap}
use Rattle.std.specs.declared.cmp.Ordering.{Ordering}
use Rattle.std.specs.declared.cmp.Ordering.TheVariants.{Less}
use Rattle.std.specs.Ordering.{ordering_then}
use Rattle.std.specs.Cmp.{IsTotalOrder}
use Rattle.std.specs.FinMap.{IsAntisymmetric}
use Rattle.std.proofs.lemmas.Cmp.{on_total, then_total}
use Rattle.idb_keys.specs.KeyOrder.{key_cmp}
use Rattle.idb_keys.proofs.Laws.{key_cmp_total, key_cmp_same, then_equal}
use Rattle.clone_values.specs.declared.key_types.Key.{Key}
use Rattle.clone_values.specs.View.{key_tree_of}
use Rattle.idb_keys.specs.KeyRange.{admits}
use Rattle.sorted_table.specs.Orders.{precedes, by_key_order, by_key_order_total, by_key_order_same, abbreviated_key, abbreviated_key_tells}
use Rattle.sorted_table.proofs.Laws.{swapped_less}
use Rattle.index_tables.specs.declared.rows.Row.{Row}
use Rattle.index_tables.specs.Rows.{RowTree, row_cmp}
use Rattle.index_tables.specs.View.{row_of}

-- how one row stands to another
abbrev pub by_row_order : Row → Row → Ordering
by_row_order r s = row_cmp (row_of r) (row_of s)

pub row_cmp_total : IsTotalOrder row_cmp
row_cmp_total = then_total (on_total (λ (p : RowTree). p.0) key_cmp_total) (on_total (λ (p : RowTree). p.1) key_cmp_total)

-- only equal rows tie
pub row_cmp_same : IsAntisymmetric row_cmp
row_cmp_same p q e =
    let both = then_equal (key_cmp p.0 q.0) (key_cmp p.1 q.1) e in λ i. (key_cmp_same p.0 q.0 both.0 i, key_cmp_same p.1 q.1 both.1 i)

pub by_row_order_total : IsTotalOrder by_row_order
by_row_order_total = on_total row_of row_cmp_total

pub by_row_order_same : IsAntisymmetric by_row_order
by_row_order_same r s e =
    let both = then_equal _ _ e in λ i. record { key = by_key_order_same r.key s.key both.0 i; primary = by_key_order_same r.primary s.primary both.1 i }

-- the abbreviation of a row is that of its index key
abbrev pub abbreviated_row : Row → Option ℤ
abbreviated_row r = abbreviated_key r.key

pub abbreviated_row_tells : (r s : Row) → precedes (abbreviated_row r) (abbreviated_row s) ≡ true → by_row_order r s ≡ Less
abbreviated_row_tells r s e = ap (λ o. ordering_then o (key_cmp (key_tree_of r.primary) (key_tree_of s.primary))) (abbreviated_key_tells r.key s.key e)

-- a key that is told to be less doesn't meet a lower bound
pub bound_in_front : (bound k : Key) (is_open : Bool) → precedes (abbreviated_key k) (abbreviated_key bound) ≡ true → admits is_open (by_key_order bound k) ≡ false
bound_in_front bound k is_open e = ap (admits is_open) (swapped_less by_key_order_total k bound (abbreviated_key_tells k bound e))

-- and one that is told to be greater does
pub bound_behind : (bound k : Key) (is_open : Bool) → precedes (abbreviated_key bound) (abbreviated_key k) ≡ true → admits is_open (by_key_order bound k) ≡ true
bound_behind bound k is_open e = ap (admits is_open) (abbreviated_key_tells bound k e)
