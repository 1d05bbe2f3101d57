-- What is handed in with a step.
--     kept_of               the schema that a committed upgrade left
use Rattle.std.specs.Prelude.{Option, None}
use Rattle.idb_schema.specs.Schemas.{SchemaData}
use Rattle.desk_steps.specs.declared.steps.DeskStep.{DeskStep}
use Rattle.desk_steps.specs.declared.steps.DeskStep.TheVariants as step

abbrev pub kept_of : DeskStep → Option SchemaData
kept_of (step.Asks who name want) = None
kept_of (step.Takes client) = None
kept_of (step.Handles client) = None
kept_of (step.Closes who) = None
kept_of (step.Creates number who scope m durability) = None
kept_of (step.Starts client number) = None
kept_of (step.Leaves client number ended kept) = kept
kept_of step.Faults = None
