use Rattle.std.proofs.Common.{◌≡◌, map, take}
use Rattle.std.specs.FinMap as finite
use Rattle.std.specs.List.{AllByRecursion}
use Rattle.idb_schema.specs.Schemas.{IsSchema}
use Rattle.session_openings.specs.Opened.{opened_schema}
use Rattle.session_openings.proofs.schemas.schemas_of.Given as goal

abbrev pub invariant-loop-place : goal.invariant-loop-place
invariant-loop-place g l = record {
  made : l.schemas ≡ map opened_schema (take l.place (finite.entries l.databases));
  valid : AllByRecursion IsSchema l.schemas;
}
