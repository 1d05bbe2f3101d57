use Rattle.std.proofs.Common.{◌∙◌, sym}
use Rattle.sorted_table.proofs.Places.{put_at}
use Rattle.sorted_table.proofs.flat.put_in.Goals as goal

pub returns-clause-items : goal.returns-clause-items
returns-clause-items g c = c.in-Ok.ensures.items ∙ sym (put_at g.met.K.Ordered.total c.args.rows.now.items c.args.place c.args.key c.args.value c.requires.belongs)
