use Rattle.std.proofs.Common.{◌≡◌, Ok, Err, refl, ap}
use Rattle.clone_values.specs.View.{key_tree_of}
use Rattle.idb_keys.specs.declared.ranges.RangeError.{RangeError}
use Rattle.idb_keys.specs.declared.ranges.RangeError.TheVariants.{DataError}
use Rattle.idb_keys.specs.KeyRange.{bound_at}
use Rattle.query_ranges.proofs.Bounds.{bounds_taken, bounds_refused}
use Rattle.query_ranges.proofs.queries.range_of_bounds.Goals as goal

only : (e : RangeError) → e ≡ DataError
only DataError = refl

not_both : {A E : Type 0} (x : A) (e : E) → Ok x ≡ Err e → ⊥
not_both x e h = cc

pub returns-in-Ok : goal.returns-in-Ok
returns-in-Ok c = bounds_taken c.key_order_laws.ensures.total c.key_order_laws.ensures.same (bound_at (key_tree_of c.args.lower) c.args.lower_open) (bound_at (key_tree_of c.args.upper) c.args.upper_open) c.in-Ok.range c.in-Ok.ensures.made (λ x. not_both c.in-Ok.range DataError (c.in-Ok.ensures.refused.1 x))

pub returns-in-Err : goal.returns-in-Err
returns-in-Err c = bounds_refused c.key_order_laws.ensures.total c.key_order_laws.ensures.same (bound_at (key_tree_of c.args.lower) c.args.lower_open) (bound_at (key_tree_of c.args.upper) c.args.upper_open) (c.in-Err.ensures.refused.0 (ap Err (only c.in-Err.field-0)))
