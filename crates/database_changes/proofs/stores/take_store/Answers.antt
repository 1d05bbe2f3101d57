use Rattle.std.proofs.Common.{sym}
use Rattle.database_changes.proofs.stores.take_store.Goals as goal

pub returns-in-Some-clause-named : goal.returns-in-Some-clause-named
returns-in-Some-clause-named g c = (c.len-named.ensures.sound c.args.name.now c.in-Some.store.store (sym c.in-Some.ensures.taken)).0
