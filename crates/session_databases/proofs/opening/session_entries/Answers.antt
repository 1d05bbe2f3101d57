use Rattle.std.proofs.Common.{◌∙◌}
use Rattle.session_databases.proofs.Opened.{same_databases, in_order}
use Rattle.session_databases.proofs.opening.session_entries.Goals as goal

pub returns-clause-same : goal.returns-clause-same
returns-clause-same g c = same_databases c.in_ok-items.items.items c.args.databases (c.in_ok-items.ensures ∙ c.into_vec-databases.ensures)

pub returns-clause-sorted : goal.returns-clause-sorted
returns-clause-sorted g c = in_order c.in_ok-items.items.items c.args.databases (c.in_ok-items.ensures ∙ c.into_vec-databases.ensures)
