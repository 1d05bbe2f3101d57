use Rattle.std.proofs.Common.{sym, ◌∙◌, ap, not, refl}
use Rattle.idb_desk.proofs.Starting.{none_found}
use Rattle.idb_desk.proofs.drawing.is_go.Goals as goal

pub returns-then-not-has : goal.returns-then-not-has
returns-then-not-has c = ap not c.if-not-has.true ∙ sym (rw (none_found c.args.number c.args.scopes.now.unfinished (sym c.has.ensures ∙ c.if-not-has.true)) refl)
