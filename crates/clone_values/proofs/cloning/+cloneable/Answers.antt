use Rattle.std.proofs.Common.{arith}
use Rattle.clone_values.specs.Falls.{smaller_member, smaller_pair}
use Rattle.clone_values.specs.View.{prop_of, pair_of}
use Rattle.clone_values.proofs.cloning.+cloneable.Goals as goal

pub props_within-is_within-requires : goal.props_within-is_within-requires
props_within-is_within-requires t c = let small = smaller_member c.args.props.now c.loop-place.place (prop_of c.in-Some.prop.now) c.in-Some.ensures.stands in (omega arith, tt)

pub pairs_within-is_within-requires : goal.pairs_within-is_within-requires
pairs_within-is_within-requires t c = let small = smaller_pair c.args.pairs.now c.loop-place.place (pair_of c.in-Some.pair.now) c.in-Some.ensures.stands in (omega arith, tt)

pub pairs_within-is_within-requires-then-is_within : goal.pairs_within-is_within-requires-then-is_within
pairs_within-is_within-requires-then-is_within t c = let small = smaller_pair c.args.pairs.now c.loop-place.place (pair_of c.in-Some.pair.now) c.in-Some.ensures.stands in (omega arith, tt)
