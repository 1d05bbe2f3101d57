use Rattle.std.proofs.Common.{refl, sym, subst}
use Rattle.clone_values.specs.View.{key_tree_of, tree_of}
use Rattle.idb_calls.specs.Deltas.{Put}
use Rattle.record_changes.specs.Loosened.{MeansTheSame}
use Rattle.record_changes.proofs.EachKind.{apart_means}
use Rattle.record_changes.proofs.changes.try_put.Goals as goal

pub change_or_loosen-requires-clause-same : goal.change_or_loosen-requires-clause-same
change_or_loosen-requires-clause-same g c κs within =
    subst (MeansTheSame c.args.items.now c.args.aside.now) (sym c.in_ok-tried.ensures) (apart_means (Put c.args.db.now c.args.store.now (key_tree_of c.args.key.now) (tree_of c.args.value.now)) refl c.args.items.now c.args.aside.now)
