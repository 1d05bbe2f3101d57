use Rattle.std.proofs.Common.{length, refl, arith}
use Rattle.clone_values.specs.Falls.{smaller_member, smaller_pair}
use Rattle.clone_values.specs.Tree.{trees_of, members_of, pairs_of}
use Rattle.clone_values.specs.View.{prop_of, pair_of}
use Rattle.value_bytes.specs.Spelling.{items_spelling, members_spelling, pairs_spelling}
use Rattle.value_bytes.proofs.Loop.{all_counted}
use Rattle.value_bytes.proofs.sizes.+size.Goals as goal

pub items_size-returns : goal.items_size-returns
items_size-returns t c = all_counted (λ l. length (items_spelling (trees_of l))) c.args.items.now c.loop-place.place c.loop-place.size _ refl (omega arith) c.loop-place.invariant.fits c.loop-place.invariant.total

pub props_size-returns : goal.props_size-returns
props_size-returns t c = all_counted (λ l. length (members_spelling (members_of l))) c.args.props.now c.loop-place.place c.loop-place.size _ refl (omega arith) c.loop-place.invariant.fits c.loop-place.invariant.total

pub pairs_size-returns : goal.pairs_size-returns
pairs_size-returns t c = all_counted (λ l. length (pairs_spelling (pairs_of l))) c.args.pairs.now c.loop-place.place c.loop-place.size _ refl (omega arith) c.loop-place.invariant.fits c.loop-place.invariant.total

pub props_size-value_size-requires : goal.props_size-value_size-requires
props_size-value_size-requires t c = let small = smaller_member c.args.props.now c.loop-place.place (prop_of c.in-Some.prop.now) c.in-Some.ensures.stands in (omega arith, tt)

pub pairs_size-value_size-requires : goal.pairs_size-value_size-requires
pairs_size-value_size-requires t c = let small = smaller_pair c.args.pairs.now c.loop-place.place (pair_of c.in-Some.pair.now) c.in-Some.ensures.stands in (omega arith, tt)

pub pairs_size-value_size-requires-in-Some : goal.pairs_size-value_size-requires-in-Some
pairs_size-value_size-requires-in-Some t c = let small = smaller_pair c.args.pairs.now c.loop-place.place (pair_of c.in-Some.pair.now) c.in-Some.ensures.stands in (omega arith, tt)
