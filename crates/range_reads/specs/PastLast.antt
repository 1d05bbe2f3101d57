-- Where the members of a range end.
--     IsPastLast            the first member that no longer meets an upper bound
use Rattle.std.specs.Prelude.{ℕ, not, List, Option}
use Rattle.idb_keys.specs.KeyRange.{Bound, meets_upper}
use Rattle.indexed_records.specs.Rows.{RowTree}
use Rattle.indexed_records.specs.Ends.{Splits}

abbrev pub IsPastLast : Option Bound → List RowTree → ℕ → Type 0
IsPastLast upper members place = Splits (λ m. not (meets_upper upper m.0)) members place
