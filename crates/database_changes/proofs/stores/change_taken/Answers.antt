use Rattle.std.proofs.Common.{◌≡◌, ◌∙◌, ap, Result, Ok, Err, OnOk, OnErr, IsErrOf}
use Rattle.std.specs.FinMap as finite
use Rattle.std.proofs.lemmas.Result.{on_ok_weaker}
use Rattle.idb_calls.specs.View.{delta_of}
use Rattle.object_stores.specs.Store.{Store}
use Rattle.database_changes.proofs.Made.{name_kept, on_err_of}
use Rattle.database_changes.proofs.stores.change_taken.Goals as goal

pub put_store-requires-clause-named : goal.put_store-requires-clause-named
put_store-requires-clause-named g c κs within =
    ap (λ (s : Store). s.info.name) c.settle.ensures.store
    ∙ name_kept c.make_change-said.result (delta_of c.args.change) c.args.store.store c.make_change-said.new.store.store c.requires.can c.make_change-said.ensures.made c.make_change-said.ensures.unchanged
    ∙ c.requires.named

pub returns-clause-made : goal.returns-clause-made
returns-clause-made g c =
    on_ok_weaker c.make_change-said.result (λ e.
    (c.make_change-said.new.store.store, e, c.in_ok-put_store.ensures ∙ ap (finite.insert c.args.stores.now c.args.name.now) c.settle.ensures.store)) c.make_change-said.ensures.made

pub returns-clause-unmissed : goal.returns-clause-unmissed
returns-clause-unmissed g c = λ h.
    c.in_ok-put_store.ensures ∙ ap (finite.insert c.args.stores.now c.args.name.now) (c.settle.ensures.store ∙ on_err_of c.make_change-said.result _ h c.make_change-said.ensures.unchanged)

pub returns-clause-unbroken : goal.returns-clause-unbroken
returns-clause-unbroken g c = λ h.
    c.in_ok-put_store.ensures ∙ ap (finite.insert c.args.stores.now c.args.name.now) (c.settle.ensures.store ∙ on_err_of c.make_change-said.result _ h c.make_change-said.ensures.unchanged)
