-- Why an index was not made.
--     IsCause               the constraint that it names is broken; want of memory tells nothing
--     tied_key              the index key of two neighbouring rows, if they have one
use Rattle.std.specs.Prelude.{◌≡◌, Option, Some, None, if◌then◌else◌, ⊤}
use Rattle.std.specs.Ordering.{is_eq}
use Rattle.clone_values.specs.KeyTree.{KeyTree}
use Rattle.clone_values.specs.View.{key_tree_of}
use Rattle.key_order.specs.KeyOrder.{key_cmp}
use Rattle.index_tables.specs.Rows.{RowTree}
use Rattle.indexed_records.specs.declared.index_error.IndexError.{IndexError}
use Rattle.indexed_records.specs.declared.index_error.IndexError.TheVariants.{Constraint, NoMemory}

abbrev pub IsCause : IndexError → Option KeyTree → Type 0
IsCause (Constraint key) broken = broken ≡ Some (key_tree_of key)
IsCause NoMemory broken = ⊤

abbrev pub tied_key : Option RowTree → Option RowTree → Option KeyTree
tied_key (Some r) (Some s) = if is_eq (key_cmp r.0 s.0) then Some r.0 else None
tied_key (Some r) None = None
tied_key None s = None
