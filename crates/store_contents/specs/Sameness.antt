-- Whether two values give a record the same rows.
--     keys_given            the keys of an extraction, in order
--     same_keys             two lists of keys tie place by place
--     gives_same_keys       an index gets the same keys of both
--     gives_same_rows       and so each index of a store
use Rattle.std.specs.Prelude.{Bool, List}
use Rattle.std.specs.List.{list_all}
use Rattle.std.specs.Ordering.{is_eq}
use Rattle.std.specs.Cmp.Lexicographic.{pointwise}
use Rattle.clone_values.specs.Tree.{Tree}
use Rattle.clone_values.specs.KeyTree.{KeyTree}
use Rattle.key_order.specs.KeyOrder.{key_cmp}
use Rattle.idb_schema.specs.declared.definitions.IndexInfo.{IndexInfo}
use Rattle.key_paths.specs.declared.extraction.Extracted.{Extracted}
use Rattle.key_paths.specs.View.{extract_of}
use Rattle.index_tables.specs.RecordRows.{extracted_keys, index_keys}

-- the keys of an extraction, none where it failed or was invalid
abbrev pub keys_given : Extracted → List KeyTree
keys_given e = extracted_keys (extract_of e)

-- the lists are as long, and their keys tie place by place
abbrev pub same_keys : List KeyTree → List KeyTree → Bool
same_keys js ks = pointwise (λ j k. is_eq (key_cmp j k)) js ks

-- the index gets the same keys of both values
abbrev pub gives_same_keys : IndexInfo → Tree → Tree → Bool
gives_same_keys index one other = same_keys (index_keys index one) (index_keys index other)

-- each index does
abbrev pub gives_same_rows : List IndexInfo → Tree → Tree → Bool
gives_same_rows indexes one other = list_all (λ index. gives_same_keys index one other) indexes
