use Rattle.std.proofs.Common.{sym, ◌∙◌}
use Rattle.request_lists.proofs.Numbered.{found, not_found}
use Rattle.request_lists.proofs.cursors.cursor_in.Goals as goal

pub returns-in-Some : goal.returns-in-Some
returns-in-Some g c = c.cursor_at.ensures ∙ found c.args.number c.in-Some.place c.args.cursors.now (sym c.in-Some.ensures)

pub returns-in-None : goal.returns-in-None
returns-in-None g c = sym (not_found c.args.number c.args.cursors.now (sym c.in-None.ensures))
