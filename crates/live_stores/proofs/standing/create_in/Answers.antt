use Rattle.std.proofs.lemmas.Result.{IfOk-equal}
use Rattle.std.specs.FinMap as finite
use Rattle.item_changes.specs.Effects.{new_store}
use Rattle.live_stores.specs.Slots.{stores_now}
use Rattle.live_stores.proofs.standing.create_in.Goals as goal

pub returns-in-Ok-clause-made : goal.returns-in-Ok-clause-made
returns-in-Ok-clause-made g c =
    let stores = stores_now c.args.items.now.items in
    IfOk-equal c.make_in.result (stores_now c.make_in.new.items.items) (finite.insert stores c.in-Ok.own c.in-Ok.store.store) (finite.insert stores c.args.name.now (new_store c.args.name.now c.args.path c.args.auto))
    c.make_in.ensures.made (λ i. finite.insert stores (c.in-Ok.ensures.0 i) (c.in-Ok.ensures.1 i))
