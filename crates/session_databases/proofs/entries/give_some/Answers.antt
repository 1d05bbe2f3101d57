use Rattle.std.proofs.Common.{◌∙◌, ap, Some, None}
use Rattle.std.specs.FinMap as finite
use Rattle.session_databases.specs.Parts.{joined_with}
use Rattle.session_databases.specs.Sessions.{database_seen, session_items}
use Rattle.session_databases.proofs.Seen.{got_of, of_put, of_without, changed_none, changed_some}
use Rattle.session_databases.proofs.entries.give_some.Goals as goal

pub returns-in-Some-clause-given : goal.returns-in-Some-clause-given
returns-in-Some-clause-given g c =
    changed_some (session_items c.args.items.now.items) (session_items c.take_from.new.items.items) _ c.args.name.now (joined_with c.args.names.now c.args.part) (database_seen c.in-Some.d) (record { version = c.in-Some.d.version; stores = c.move_stores.new.to })
    (got_of database_seen c.args.items.now.items c.args.name.now (Some c.in-Some.d) c.in-Some.ensures.taken)
    (ap session_items c.in-Some.ensures.left ∙ of_without database_seen c.args.items.now.items c.args.name.now)
    (ap session_items c.in_ok-put_in-in-Some.ensures.stored ∙ of_put database_seen _ _ _ ∙ ap (λ n. finite.insert (session_items c.take_from.new.items.items) n (record { version = c.in-Some.d.version; stores = c.move_stores.new.to })) c.in_ok-copy-in-Some.ensures)
    (ap (λ stores. record { version = c.in-Some.d.version; stores = stores }) c.in_ok-move_stores-in-Some.ensures.moved)

pub returns-in-None-clause-given : goal.returns-in-None-clause-given
returns-in-None-clause-given g c =
    changed_none (session_items c.args.items.now.items) _ c.args.name.now (joined_with c.args.names.now c.args.part)
    (got_of database_seen c.args.items.now.items c.args.name.now None c.in-None.ensures.taken)
    (ap session_items c.in-None.ensures.left ∙ of_without database_seen c.args.items.now.items c.args.name.now)
