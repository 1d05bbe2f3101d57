use Rattle.std.proofs.Common.{◌∙◌, sym, ap, Some, None, option_map}
use Rattle.std.specs.FinMap as finite
use Rattle.item_changes.specs.Scopes.{with_stores_among}
use Rattle.session_databases.specs.Parts.{without_stores_among}
use Rattle.session_databases.specs.Sessions.{database_seen, session_items}
use Rattle.session_databases.proofs.Parts.{moved_from}
use Rattle.session_databases.proofs.Seen.{got_of, of_put, of_without, changed_none, changed_some}
use Rattle.session_databases.proofs.entries.take_some.Goals as goal

pub returns-in-Some-clause-part : goal.returns-in-Some-clause-part
returns-in-Some-clause-part g c =
    ap (λ stores. Some (record { version = c.in-Some.d.version; stores = stores })) (c.in_ok-move_stores-in-Some.ensures.moved ∙ moved_from c.args.names.now c.in-Some.d.stores _ c.new-part.ensures)
    ∙ sym (ap (option_map (with_stores_among c.args.names.now)) (got_of database_seen c.args.items.now.items c.args.name.now (Some c.in-Some.d) c.in-Some.ensures.taken))

pub returns-in-Some-clause-left : goal.returns-in-Some-clause-left
returns-in-Some-clause-left g c =
    changed_some (session_items c.args.items.now.items) (session_items c.take_from.new.items.items) _ c.args.name.now (without_stores_among c.args.names.now) (database_seen c.in-Some.d) (record { version = c.in-Some.d.version; stores = c.move_stores.new.from })
    (got_of database_seen c.args.items.now.items c.args.name.now (Some c.in-Some.d) c.in-Some.ensures.taken)
    (ap session_items c.in-Some.ensures.left ∙ of_without database_seen c.args.items.now.items c.args.name.now)
    (ap session_items c.in_ok-put_in-in-Some.ensures.stored ∙ of_put database_seen _ _ _ ∙ ap (λ n. finite.insert (session_items c.take_from.new.items.items) n (record { version = c.in-Some.d.version; stores = c.move_stores.new.from })) c.in_ok-copy-in-Some.ensures)
    (ap (λ stores. record { version = c.in-Some.d.version; stores = stores }) c.in_ok-move_stores-in-Some.ensures.left)

pub returns-in-None-clause-part : goal.returns-in-None-clause-part
returns-in-None-clause-part g c = sym (ap (option_map (with_stores_among c.args.names.now)) (got_of database_seen c.args.items.now.items c.args.name.now None c.in-None.ensures.taken))

pub returns-in-None-clause-left : goal.returns-in-None-clause-left
returns-in-None-clause-left g c =
    changed_none (session_items c.args.items.now.items) _ c.args.name.now (without_stores_among c.args.names.now)
    (got_of database_seen c.args.items.now.items c.args.name.now None c.in-None.ensures.taken)
    (ap session_items c.in-None.ensures.left ∙ of_without database_seen c.args.items.now.items c.args.name.now)
