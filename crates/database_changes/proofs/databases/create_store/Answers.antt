use Rattle.std.proofs.Common.{refl}
use Rattle.database_changes.proofs.Made.{same_all, created}
use Rattle.database_changes.proofs.databases.create_store.Goals as goal

pub returns-then-has_store-clause-unmissed : goal.returns-then-has_store-clause-unmissed
returns-then-has_store-clause-unmissed g c = λ h.
    same_all c.args.items.now c.take_database.new.items c.put_database.new.items c.args.db c.in-Some.version c.in-Some.stores c.in-Some.stores c.in-Some.ensures.there c.in-Some.ensures.left c.in_ok-put_database-in-Some.ensures refl

pub returns-in_ok-put_database-in-Some-2-clause-made : goal.returns-in_ok-put_database-in-Some-2-clause-made
returns-in_ok-put_database-in-Some-2-clause-made g c =
    created c.args.items.now c.take_database.new.items c.put_database-in-Some.new.items c.args.db c.in-Some.version c.in-Some.stores c.put_new.new.stores c.in-Some.ensures.there c.in-Some.ensures.left c.in_ok-put_database-in-Some-2.ensures c.args.info c.requires.without c.in_ok-put_new-in-Some.ensures
