use Rattle.std.proofs.Common.{◌≡◌, drop}
use Rattle.desk_steps.specs.Databases.{database_in}
use Rattle.idb_desk.proofs.reads.database_in.Given as goal

abbrev pub invariant-loop-n : goal.invariant-loop-n
invariant-loop-n l = database_in (drop l.n-index l.names) l.name ≡ database_in l.names l.name
