-- What was taken out of a store, so that it can be put back without memory.
--     DroppedIndex          where an index stood, what it is, its rows, how many more fit, and how many indexes fit where it is put back
--     TakenRecords          records and the rows of each index, with the spare places of their tables
--     rows_code, taken_code how these are stored
use Rattle.std.specs.Prelude.{ℕ, List, refl}
use Rattle.std.specs.Coded.{Coded, code_by, coded×, coded_list, coded_ℕ}
use Rattle.std.specs.FinSet as set
use Rattle.idb_schema.specs.declared.definitions.IndexInfo.{IndexInfo}
use Rattle.index_tables.specs.Rows.{RowSet, row_code}
use Rattle.index_tables.specs.RecordRows.{Records}
use Rattle.store_contents.specs.Contents.{records_code}

pub record DroppedIndex : Type 0 where
  pub place : ℕ
  pub index : IndexInfo
  pub rows : RowSet
  pub spare : ℕ
  pub width : ℕ

pub record TakenRecords : Type 0 where
  pub records : Records
  pub rows : List RowSet
  pub record_spare : ℕ
  pub row_spare : ℕ

-- a set of rows is stored as the list of its rows
abbrev pub rows_code : Coded RowSet
rows_code = set.code row_code

abbrev pub taken_code : Coded TakenRecords
taken_code = code_by (Records × (List RowSet × (ℕ × ℕ))) (coded× records_code (coded× (coded_list rows_code) (coded× coded_ℕ coded_ℕ))) (λ t. (t.records, (t.rows, (t.record_spare, t.row_spare)))) (λ p. record { records = p.0; rows = p.1.0; record_spare = p.1.1.0; row_spare = p.1.1.1 }) (λ _. refl)
