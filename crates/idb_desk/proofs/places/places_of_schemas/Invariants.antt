use Rattle.std.proofs.Common.{◌≡◌, ◌++◌, drop}
use Rattle.desk_steps.specs.Numbers.{places_of_schemas}
use Rattle.idb_desk.proofs.places.places_of_schemas.Given as goal

abbrev pub invariant-loop-schema : goal.invariant-loop-schema
invariant-loop-schema l = l.places.items ++ places_of_schemas (drop l.schema-index l.schemas) ≡ places_of_schemas l.schemas
