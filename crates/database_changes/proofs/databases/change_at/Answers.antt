use Rattle.std.proofs.Common.{refl}
use Rattle.std.proofs.lemmas.Result.{on_ok_weaker}
use Rattle.idb_calls.specs.View.{delta_of}
use Rattle.database_changes.proofs.Made.{same_all, made_all_of, breaks_there}
use Rattle.database_changes.proofs.databases.change_at.Goals as goal

pub returns-in-Some-clause-made : goal.returns-in-Some-clause-made
returns-in-Some-clause-made g c =
    on_ok_weaker c.change_taken.result (λ put.
    made_all_of c.args.items.now c.take_database.new.items c.change_taken.new.items c.args.db c.in-Some.version c.in-Some.stores _ c.in-Some.ensures.there c.in-Some.ensures.left put (delta_of c.args.change) c.args.store.now c.requires.names refl) c.change_taken.ensures.made

pub returns-in-Some-clause-broken : goal.returns-in-Some-clause-broken
returns-in-Some-clause-broken g c = λ h.
    breaks_there (delta_of c.args.change) c.args.items.now c.args.db c.args.store.now c.in-Some.version c.in-Some.stores c.requires.names c.in-Some.ensures.there (c.change_taken.ensures.broken h)

pub returns-in-Some-clause-unmissed : goal.returns-in-Some-clause-unmissed
returns-in-Some-clause-unmissed g c = λ h.
    same_all c.args.items.now c.take_database.new.items c.change_taken.new.items c.args.db c.in-Some.version c.in-Some.stores c.in-Some.stores c.in-Some.ensures.there c.in-Some.ensures.left (c.change_taken.ensures.unmissed h) refl

pub returns-in-Some-clause-unbroken : goal.returns-in-Some-clause-unbroken
returns-in-Some-clause-unbroken g c = λ h.
    same_all c.args.items.now c.take_database.new.items c.change_taken.new.items c.args.db c.in-Some.version c.in-Some.stores c.in-Some.stores c.in-Some.ensures.there c.in-Some.ensures.left (c.change_taken.ensures.unbroken h) refl
