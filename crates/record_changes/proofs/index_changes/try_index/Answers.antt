use Rattle.std.proofs.Common.{refl, sym, subst}
use Rattle.idb_calls.specs.Deltas.{CreateIndex}
use Rattle.record_changes.specs.Loosened.{MeansTheSame}
use Rattle.record_changes.proofs.OnIndexes.{alone_means}
use Rattle.record_changes.proofs.index_changes.try_index.Goals as goal

pub change_or_loosen-requires-clause-same : goal.change_or_loosen-requires-clause-same
change_or_loosen-requires-clause-same g c κs within =
    subst (MeansTheSame c.args.items.now c.args.aside.now) (sym c.in_ok-tried.ensures)
    (alone_means c.args.items.now c.args.aside.now c.args.db.now c.args.store.now (CreateIndex c.args.db.now c.args.store.now c.args.index.now.name c.args.index.now.path c.args.index.now.unique c.args.index.now.multi) (refl, refl) c.requires.alone)
