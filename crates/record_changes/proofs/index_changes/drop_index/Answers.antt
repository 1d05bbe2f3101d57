use Rattle.std.proofs.Common.{refl, sym, subst, ◌∙◌}
use Rattle.idb_calls.specs.Deltas.{DropIndex}
use Rattle.record_changes.specs.Loosened.{MeansTheSame}
use Rattle.record_changes.proofs.OnIndexes.{alone_means}
use Rattle.record_changes.proofs.index_changes.drop_index.Goals as goal

pub change_here-requires-clause-same : goal.change_here-requires-clause-same
change_here-requires-clause-same g c κs within =
    subst (MeansTheSame c.args.items.now c.args.aside.now) (sym c.in_ok-change.ensures)
    (alone_means c.args.items.now c.args.aside.now c.args.db.now c.args.store.now (DropIndex c.args.db.now c.args.store.now c.args.index) (refl, refl) (sym c.has_store-kept.ensures ∙ c.if-kept.false))
