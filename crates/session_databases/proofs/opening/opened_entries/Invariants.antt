use Rattle.std.proofs.Common.{◌≡◌}
use Rattle.idb_databases.specs.Named.{with_values}
use Rattle.idb_databases.specs.Views.{database_alone}
use Rattle.session_databases.specs.Sessions.{database_seen}
use Rattle.session_databases.proofs.opening.opened_entries.Given as goal

abbrev pub invariant-loop-name : goal.invariant-loop-name
invariant-loop-name g l = with_values database_seen l.items.items ≡ with_values database_alone l.yielded
