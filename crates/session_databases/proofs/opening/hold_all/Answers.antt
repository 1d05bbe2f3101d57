use Rattle.std.proofs.Common.{◌∙◌, ap, sym}
use Rattle.std.proofs.lemmas.List.{map-id}
use Rattle.std.proofs.lemmas.Iterator.Adapters.{YieldsList-from_vec}
use Rattle.std.proofs.lemmas.Iterator.Consumers.{YieldsList-end}
use Rattle.std.specs.FinMap as finite
use Rattle.session_databases.specs.Sessions.{all_inserted}
use Rattle.session_databases.proofs.Opened.{inserted_more}
use Rattle.session_databases.proofs.opening.hold_all.Goals as goal

pub loop-store-preserved : goal.loop-store-preserved
loop-store-preserved g c = inserted_more c.loop-store.yielded _ c.loop-store.held c.hold_one.new.held c.loop-store.invariant c.in_ok-hold_one.ensures

pub returns : goal.returns
returns g c =
    let gives = c.into_iter-store-iterator.ensures.into_iter_gives in
    let whole = YieldsList-from_vec c.args.stores.items gives.0 (gives.1 ∙ c.args.stores.ok.0) in
    let ends = YieldsList-end whole c.loop-store.yielded c.loop-store.store-iterator c.loop-store.yielded_by c.next.result c.next.new.self c.in-None.is c.next.ensures.steps in
    c.loop-store.invariant ∙ ap (λ es. all_inserted es finite.empty) (sym (map-id c.loop-store.yielded) ∙ ends.0)
