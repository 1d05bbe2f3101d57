use Rattle.std.proofs.Common.{◌≡◌, drop, []}
use Rattle.connection_queues.specs.Machine.{names_of_schemas}
use Rattle.connection_queues.proofs.admitting.names_of_schemas.Given as goal

abbrev pub invariant-loop-schema : goal.invariant-loop-schema
invariant-loop-schema l = l.names.items ≡ names_of_schemas [] l.yielded
