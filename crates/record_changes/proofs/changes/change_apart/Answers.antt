use Rattle.idb_calls.specs.View.{delta_of}
use Rattle.record_changes.proofs.EachKind.{apart_means}
use Rattle.record_changes.proofs.changes.change_apart.Goals as goal

pub change_here-requires-clause-same : goal.change_here-requires-clause-same
change_here-requires-clause-same g c κs within = apart_means (delta_of c.args.change) c.requires.apart c.args.items.now c.args.aside.now
