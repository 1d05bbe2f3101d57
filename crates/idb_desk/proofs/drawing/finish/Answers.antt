use Rattle.std.proofs.Common.{sym}
use Rattle.idb_desk.proofs.Starting.{none_finished}
use Rattle.idb_desk.proofs.drawing.finish.Goals as goal

pub returns-else-has : goal.returns-else-has
returns-else-has c = sym (none_finished c.args.scopes.now c.args.number (sym c.if-has.ensures))
