use Rattle.std.proofs.Common.{◌∙◌, sym, ap}
use Rattle.std.specs.FinMap as finite
use Rattle.item_changes.specs.Items.{stood_at}
use Rattle.live_stores.specs.Live.{database_at}
use Rattle.session_databases.specs.Sessions.{database_seen, session_items}
use Rattle.session_databases.proofs.Seen.{of_put, of_without}
use Rattle.session_databases.proofs.entries.give_whole.Goals as goal

pub returns-in-Some-clause-given : goal.returns-in-Some-clause-given
returns-in-Some-clause-given g c =
    ap session_items c.in_ok-put_in-in-Some.ensures.stored
    ∙ of_put database_seen _ _ _
    ∙ ap (λ n. finite.insert (session_items c.args.items.now.items) n (record { version = c.in-Some.version; stores = c.args.stores })) c.in_ok-copy-in-Some.ensures
    ∙ sym (ap (λ v. stood_at (session_items c.args.items.now.items) c.args.name.now (database_at v c.args.stores)) c.in-Some.is)

pub returns-in-None-clause-given : goal.returns-in-None-clause-given
returns-in-None-clause-given g c =
    ap session_items c.take_from.ensures.left
    ∙ of_without database_seen c.args.items.now.items c.args.name.now
    ∙ sym (ap (λ v. stood_at (session_items c.args.items.now.items) c.args.name.now (database_at v c.args.stores)) c.in-None.is)
