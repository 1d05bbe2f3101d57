use Rattle.std.proofs.Common.{sym}
use Rattle.idb_databases.specs.Views.{database_alone}
use Rattle.database_changes.proofs.databases.take_database.Goals as goal

pub returns-in-Some-clause-version : goal.returns-in-Some-clause-version
returns-in-Some-clause-version g c = (c.len-sound.ensures.sound c.args.db.now (database_alone c.in-Some.database) (sym c.in-Some.ensures.taken)).version
