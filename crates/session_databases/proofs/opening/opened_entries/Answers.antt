use Rattle.session_databases.proofs.Opened.{one_opened}
use Rattle.session_databases.proofs.opening.opened_entries.Goals as goal

pub loop-name-preserved : goal.loop-name-preserved
loop-name-preserved g c = one_opened c.loop-name.items.items c.push.new.self.items c.loop-name.yielded c.in-Some.name c.in_ok-opened.opened c.in-Some.database
    c.in_ok-push.ensures.items c.loop-name.invariant c.in_ok-opened.ensures
