use Rattle.std.proofs.Common.{sym, ◌∙◌}
use Rattle.database_changes.proofs.Made.{same_all, dropped, still_same}
use Rattle.database_changes.proofs.databases.drop_store.Goals as goal

pub returns-then-was_there-clause-made : goal.returns-then-was_there-clause-made
returns-then-was_there-clause-made g c =
    dropped c.args.items.now c.take_database.new.items c.put_database.new.items c.args.db c.in-Some.version c.in-Some.stores c.drop_from-was_there.new.stores c.in-Some.ensures.there c.in-Some.ensures.left c.in_ok-put_database-in-Some.ensures c.args.store.now c.drop_from-was_there.ensures.left

pub returns-else-was_there-clause-unmissed : goal.returns-else-was_there-clause-unmissed
returns-else-was_there-clause-unmissed g c = λ h.
    same_all c.args.items.now c.take_database.new.items c.put_database.new.items c.args.db c.in-Some.version c.in-Some.stores c.drop_from-was_there.new.stores c.in-Some.ensures.there c.in-Some.ensures.left c.in_ok-put_database-in-Some.ensures
    (still_same c.args.items.now c.args.db c.in-Some.version c.in-Some.stores c.args.store.now c.in-Some.ensures.there c.drop_from-was_there.new.stores c.drop_from-was_there.ensures.left (sym c.drop_from-was_there.ensures.was ∙ c.if-was_there.false))
