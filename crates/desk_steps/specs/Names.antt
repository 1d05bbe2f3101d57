-- Scopes by names.
--     share_store            a name stands in both scopes
use Rattle.std.specs.Prelude.{ℕ, Bool, List}
use Rattle.std.specs.List.{list_any}
use Rattle.idb_schema.specs.Definitions.{has_name}

abbrev pub share_store : List (List ℕ) → List (List ℕ) → Bool
share_store scope other = list_any (λ name. has_name name other) scope
