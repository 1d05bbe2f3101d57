use Rattle.std.proofs.Common.{arith}
use Rattle.clone_values.specs.Falls.{smaller_member, smaller_pair}
use Rattle.clone_values.specs.View.{prop_of, pair_of}
use Rattle.clone_values.proofs.cloning.+depth.Goals as goal

pub props_depth-depth-requires : goal.props_depth-depth-requires
props_depth-depth-requires t c = let small = smaller_member c.args.props.now c.loop-place.place (prop_of c.in-Some.prop.now) c.in-Some.ensures.stands in (omega arith, tt)

pub pairs_depth-depth-requires : goal.pairs_depth-depth-requires
pairs_depth-depth-requires t c = let small = smaller_pair c.args.pairs.now c.loop-place.place (pair_of c.in-Some.pair.now) c.in-Some.ensures.stands in (omega arith, tt)

pub pairs_depth-depth-requires-in-Some : goal.pairs_depth-depth-requires-in-Some
pairs_depth-depth-requires-in-Some t c = let small = smaller_pair c.args.pairs.now c.loop-place.place (pair_of c.in-Some.pair.now) c.in-Some.ensures.stands in (omega arith, tt)
