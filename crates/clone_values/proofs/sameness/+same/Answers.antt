use Rattle.std.proofs.Common.{arith}
use Rattle.clone_values.specs.Falls.{smaller_member, smaller_pair}
use Rattle.clone_values.specs.View.{prop_of, pair_of}
use Rattle.clone_values.proofs.sameness.+same.Goals as goal

pub same_props-is_same-requires : goal.same_props-is_same-requires
same_props-is_same-requires t c = let small = smaller_member c.args.a.now c.loop-place.place (prop_of c.in-Some.x.now) c.in-Some.ensures.stands in (omega arith, tt)

pub same_pairs-is_same-requires : goal.same_pairs-is_same-requires
same_pairs-is_same-requires t c = let small = smaller_pair c.args.a.now c.loop-place.place (pair_of c.in-Some.x.now) c.in-Some.ensures.stands in (omega arith, tt)

pub same_pairs-is_same-requires-then-is_same : goal.same_pairs-is_same-requires-then-is_same
same_pairs-is_same-requires-then-is_same t c = let small = smaller_pair c.args.a.now c.loop-place.place (pair_of c.in-Some.x.now) c.in-Some.ensures.stands in (omega arith, tt)
