use Rattle.record_changes.proofs.Back.{last_back, last_broken}
use Rattle.record_changes.proofs.restoring.restore_last.Goals as goal

pub returns-in-Ok-clause-made : goal.returns-in-Ok-clause-made
returns-in-Ok-clause-made g c =
    last_back c.args.items.now c.args.aside.now c.in_ok-db.db c.in_ok-db.stores c.in_ok-db.ensures.there c.restore_stores.new.items c.take_last_database.new.aside c.in_ok-db.ensures.left c.in-Ok.ensures.made

pub returns-clause-damaged : goal.returns-clause-damaged
returns-clause-damaged g c = λ h. last_broken c.args.items.now c.args.aside.now c.in_ok-db.db c.in_ok-db.stores c.in_ok-db.ensures.there (c.in-Err.ensures.damaged h)
