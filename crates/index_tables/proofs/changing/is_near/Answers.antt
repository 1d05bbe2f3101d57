use Rattle.std.proofs.Common.{sym, ap, ◌∙◌}
use Rattle.std.specs.Ordering.{is_eq}
use Rattle.index_tables.specs.Rows.{is_row}
use Rattle.index_tables.specs.View.{row_of}
use Rattle.index_tables.proofs.Meeting.{any_at}
use Rattle.index_tables.proofs.changing.is_near.Goals as goal

pub returns-then-is_eq : goal.returns-then-is_eq
returns-then-is_eq c = λ _. any_at (is_row (row_of c.args.row.now)) c.args.rows.now c.loop-near.near (row_of c.in-Some.other.now) (sym c.in-Some.ensures.item)
    (ap is_eq (sym c.order.ensures) ∙ sym c.is_eq.ensures ∙ c.if-is_eq.true)
