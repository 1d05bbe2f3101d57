use Rattle.std.proofs.Common.{arith}
use Rattle.clone_values.specs.Falls.{smaller_member, smaller_pair}
use Rattle.clone_values.specs.View.{prop_of, pair_of}
use Rattle.clone_values.proofs.checking.+well_formed.Goals as goal

pub props_well_formed-well_formed-requires : goal.props_well_formed-well_formed-requires
props_well_formed-well_formed-requires t c = let small = smaller_member c.args.props.now c.loop-place.place (prop_of c.in-Some.prop.now) c.in-Some.ensures.stands in (omega arith, tt)

pub pairs_well_formed-well_formed-requires : goal.pairs_well_formed-well_formed-requires
pairs_well_formed-well_formed-requires t c = let small = smaller_pair c.args.pairs.now c.loop-place.place (pair_of c.in-Some.pair.now) c.in-Some.ensures.stands in (omega arith, tt)

pub pairs_well_formed-well_formed-requires-then-well_formed : goal.pairs_well_formed-well_formed-requires-then-well_formed
pairs_well_formed-well_formed-requires-then-well_formed t c = let small = smaller_pair c.args.pairs.now c.loop-place.place (pair_of c.in-Some.pair.now) c.in-Some.ensures.stands in (omega arith, tt)
