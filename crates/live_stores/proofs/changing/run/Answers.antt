use Rattle.std.proofs.Common.{Some, None, sym, subst, IfOk}
use Rattle.clone_values.specs.View.{tree_of}
use Rattle.live_stores.specs.declared.changing.StoreChange.TheVariants.{AddIndex, DropIndex}
use Rattle.live_stores.specs.Changing.{change_run, HasRunOn}
use Rattle.live_stores.proofs.Runs.{any_ran}
use Rattle.live_stores.proofs.changing.run.Goals as goal

pub returns-in-AddIndex-clause-ran : goal.returns-in-AddIndex-clause-ran
returns-in-AddIndex-clause-ran g c =
    subst (λ x. IfOk c.add_index.result (λ v. HasRunOn (Some c.args.store.now.store) (change_run x c.args.names.now) (Some (tree_of v)) (Some c.add_index.new.store.store) c.args.changes.now c.args.changes.now)) (sym c.in-AddIndex.is)
    (any_ran c.add_index.result (AddIndex c.in-AddIndex.index) (Some c.args.store.now.store) (Some c.add_index.new.store.store) c.args.names.now c.args.changes.now c.add_index.ensures.ran)

pub returns-in-AddIndex-clause-refused : goal.returns-in-AddIndex-clause-refused
returns-in-AddIndex-clause-refused g c = λ is.
    subst (λ x. HasRunOn (Some c.args.store.now.store) (change_run x c.args.names.now) None (Some c.add_index.new.store.store) c.args.changes.now c.args.changes.now) (sym c.in-AddIndex.is)
    (c.add_index.ensures.refused is c.args.names.now c.args.changes.now)

pub returns-in-DropIndex-clause-ran : goal.returns-in-DropIndex-clause-ran
returns-in-DropIndex-clause-ran g c =
    subst (λ x. IfOk c.drop_index.result (λ v. HasRunOn (Some c.args.store.now.store) (change_run x c.args.names.now) (Some (tree_of v)) (Some c.drop_index.new.store.store) c.args.changes.now c.args.changes.now)) (sym c.in-DropIndex.is)
    (any_ran c.drop_index.result (DropIndex c.in-DropIndex.name) (Some c.args.store.now.store) (Some c.drop_index.new.store.store) c.args.names.now c.args.changes.now c.drop_index.ensures.ran)
