use Rattle.std.proofs.Common.{refl, ap, ◌∙◌}
use Rattle.std.proofs.lemmas.Result.{on_ok_weaker}
use Rattle.idb_calls.specs.View.{delta_of}
use Rattle.store_changes.specs.Making.{breaks}
use Rattle.database_changes.proofs.Made.{made_in, same_in, found_in, left_in}
use Rattle.database_changes.proofs.stores.change_store.Goals as goal

pub returns-in-Some-clause-made : goal.returns-in-Some-clause-made
returns-in-Some-clause-made g c =
    on_ok_weaker c.change_taken.result (λ m.
    made_in (delta_of c.args.change) c.args.stores.now c.take_store.new.stores c.change_taken.new.stores c.args.name.now c.in-Some.store.store m.0 c.requires.name c.in-Some.ensures.there c.in-Some.ensures.left m.2 m.0 m.1 refl) c.change_taken.ensures.made

pub returns-in-Some-clause-found : goal.returns-in-Some-clause-found
returns-in-Some-clause-found g c =
    on_ok_weaker c.change_taken.result (λ f. found_in (delta_of c.args.change) c.args.stores.now c.args.name.now c.in-Some.store.store c.requires.name c.in-Some.ensures.there ∙ f) c.change_taken.ensures.found

pub returns-in-Some-clause-missing : goal.returns-in-Some-clause-missing
returns-in-Some-clause-missing g c = λ h. found_in (delta_of c.args.change) c.args.stores.now c.args.name.now c.in-Some.store.store c.requires.name c.in-Some.ensures.there ∙ c.change_taken.ensures.missing h

pub returns-in-Some-clause-broken : goal.returns-in-Some-clause-broken
returns-in-Some-clause-broken g c = λ h. ap breaks (left_in (delta_of c.args.change) c.args.stores.now c.args.name.now c.in-Some.store.store c.requires.name c.in-Some.ensures.there) ∙ c.change_taken.ensures.broken h

pub returns-in-Some-clause-unmissed : goal.returns-in-Some-clause-unmissed
returns-in-Some-clause-unmissed g c = λ h.
    same_in (delta_of c.args.change) c.args.stores.now c.take_store.new.stores c.change_taken.new.stores c.args.name.now c.in-Some.store.store c.in-Some.store.store c.requires.name c.in-Some.ensures.there c.in-Some.ensures.left (c.change_taken.ensures.unmissed h) refl

pub returns-in-Some-clause-unbroken : goal.returns-in-Some-clause-unbroken
returns-in-Some-clause-unbroken g c = λ h.
    same_in (delta_of c.args.change) c.args.stores.now c.take_store.new.stores c.change_taken.new.stores c.args.name.now c.in-Some.store.store c.in-Some.store.store c.requires.name c.in-Some.ensures.there c.in-Some.ensures.left (c.change_taken.ensures.unbroken h) refl
