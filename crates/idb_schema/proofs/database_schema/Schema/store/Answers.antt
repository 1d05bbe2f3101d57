use Rattle.std.proofs.Common.{Some, ap, sym}
use Rattle.clone_values.proofs.Places.{stands_from_got}
use Rattle.idb_schema.specs.Schemas.{stores_of}
use Rattle.idb_schema.proofs.All.{past_the_end}
use Rattle.idb_schema.proofs.database_schema.Schema.store.Goals as goal

pub returns-in-Some-clause-stands : goal.returns-in-Some-clause-stands
returns-in-Some-clause-stands c = stands_from_got (λ e. e.info) c.self.inside.entries.items c.deref.result.now _ c.args.place (Some c.in-Some.entry) (ap stores_of c.self.view_is) c.deref.ensures.value c.in-Some.ensures.lookup.3 c.in-Some.ensures.lookup.1

pub returns-in-None-clause-item : goal.returns-in-None-clause-item
returns-in-None-clause-item c = sym (past_the_end (λ e. e.info) c.self.inside.entries.items c.deref.result.now _ c.args.place (ap stores_of c.self.view_is) c.deref.ensures.value c.in-None.ensures.lookup.3)
