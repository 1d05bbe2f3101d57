use Rattle.std.proofs.Common.{subst, sym, arith}
use Rattle.clone_values.specs.View.{key_tree_of}
use Rattle.store_contents.specs.IsStore.{IsStored}
use Rattle.store_contents.proofs.Laws.{not_evaluated}
use Rattle.object_stores.proofs.choosing.with_key_in.Goals as goal

pub returns-clause-fits : goal.returns-clause-fits
returns-clause-fits c =
    let r = c.requires in
    let path = c.args.path.now in
    let laws = c.injection_laws.ensures in
    let valid = c.spec-spec.ensures.valid in
    subst (λ t. IsStored (key_tree_of c.args.key.now) t) (sym c.in_ok-inject.ensures.injected) (record {
      key = r.key;
      depth = omega (arith, r.flat);
      value = laws.value path _ (key_tree_of c.args.key.now) valid r.possible (not_evaluated path _ r.absent) r.room r.fits r.key;
      cloneable = laws.cloneable path _ (key_tree_of c.args.key.now) valid r.flat r.cloneable;
    })
