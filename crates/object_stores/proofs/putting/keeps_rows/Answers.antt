use Rattle.std.proofs.Common.{sym}
use Rattle.object_stores.proofs.Off.{some_there}
use Rattle.object_stores.proofs.putting.keeps_rows.Goals as goal

pub unreachable-requires : goal.unreachable-requires
unreachable-requires g c = some_there c.args.parts.now.contents.records c.args.place c.requires (sym c.in-None.ensures)
