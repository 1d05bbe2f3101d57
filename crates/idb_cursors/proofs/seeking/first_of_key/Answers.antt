use Rattle.std.proofs.Common.{sym}
use Rattle.idb_cursors.specs.View.{row_shown}
use Rattle.idb_cursors.proofs.Nearest.{first_by}
use Rattle.idb_cursors.proofs.seeking.first_of_key.Goals as goal

pub returns-in-Some-clause-value : goal.returns-in-Some-clause-value
returns-in-Some-clause-value g c =
    first_by (g.R.RowView.rows c.args.rows.now) c.args.place c.split.result (row_shown (c.in-Some.key, c.in-Some.field-0-1)) c.all-all.result (g.met.R.RowView.rises c.args.rows.now) c.all-all.ensures (sym c.in-Some.ensures) c.split.ensures.split
