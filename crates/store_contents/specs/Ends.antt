-- Where the members that meet a lower bound begin.
--     Splits                a place splits a list by a test: all before it fail, and all from it on pass
--     IsFirstFrom           the first member that meets a lower bound
use Rattle.std.specs.Prelude.{◌≤◌, ℕ, Bool, not, List, Option, length, take, drop}
use Rattle.std.specs.List.{AllPass}
use Rattle.idb_keys.specs.KeyRange.{Bound, meets_lower}
use Rattle.index_tables.specs.Rows.{RowTree}

pub record Splits {A : Type 0} (test : A → Bool) (members : List A) (place : ℕ) : Type 0 where
  pub within : place ≤ length members
  pub before : AllPass (λ m. not (test m)) (take place members)
  pub behind : AllPass test (drop place members)

abbrev pub IsFirstFrom : Option Bound → List RowTree → ℕ → Type 0
IsFirstFrom lower members place = Splits (λ m. meets_lower lower m.0) members place
