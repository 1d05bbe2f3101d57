-- The tables of an object store keep in step.
--     InStep                the rows of each table are those of its index, and so many more fit; an index without a table yet has no rows
use Rattle.std.specs.Prelude.{◌≡◌, ℕ, ◌≤◌, List, [], ◌∷◌, ⊤}
use Rattle.idb_schema.specs.declared.definitions.IndexInfo.{IndexInfo}
use Rattle.index_tables.specs.Rows.{IndexRows, no_rows}
use Rattle.index_tables.specs.RecordRows.{Records, index_rows}

-- index by index
abbrev pub InStep : List IndexInfo → List IndexRows → Records → ℕ → Type 0
InStep [] [] records spare = ⊤
InStep [] (table ∷ tables) records spare = ⊥
InStep (index ∷ indexes) [] records spare = (index_rows index records ≡ no_rows) × (spare ≡ 0) × InStep indexes [] records spare
InStep (index ∷ indexes) (table ∷ tables) records spare = (table.rows ≡ index_rows index records) × (spare ≤ table.spare) × InStep indexes tables records spare
