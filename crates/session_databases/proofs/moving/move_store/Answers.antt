use Rattle.std.proofs.Common.{◌∙◌, sym, ap}
use Rattle.std.specs.FinMap as finite
use Rattle.live_stores.specs.Holding.{held_store}
use Rattle.session_databases.specs.Parts.{put_if}
use Rattle.session_databases.proofs.moving.move_store.Goals as goal

pub returns-in-Ok-clause-moved : goal.returns-in-Ok-clause-moved
returns-in-Ok-clause-moved g c =
    c.in-Ok.ensures.inserted
    ∙ ap (λ n. finite.insert c.args.to.now n (held_store c.in-Some.held)) ((c.len-count.ensures.sound c.args.name.now (held_store c.in-Some.held) (sym c.in-Some.ensures.store)).0)
    ∙ ap (put_if c.args.to.now c.args.name.now) c.in-Some.ensures.store
