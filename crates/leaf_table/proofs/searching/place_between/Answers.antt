use Rattle.std.proofs.Common.{sym, arith}
use Rattle.sorted_table.proofs.Laws.{taken}
use Rattle.leaf_table.proofs.TableLemmas.{above_got, below_got, has_got}
use Rattle.leaf_table.proofs.searching.place_between.Goals as goal

pub loop-from-preserved-in-Less : goal.loop-from-preserved-in-Less
loop-from-preserved-in-Less g c = record {
  ordered = omega arith;
  within = omega arith;
  below = c.loop-from.invariant.below;
  above = above_got g.met.K.Ordered.total _ _ _ _ c.requires.sorted c.pair_at.ensures (sym c.in-Less.ensures.value);
  counted = omega arith;
  parts = (taken _ _ _ _ _ _ c.loop-from.invariant.counted c.compared.ensures.counted c.loop-from.invariant.parts (omega arith) (omega arith)).0;
  cost = (taken _ _ _ _ _ 0 c.loop-from.invariant.counted c.compared.ensures.counted c.loop-from.invariant.parts (omega arith) (omega arith)).1;
}

pub loop-from-preserved : goal.loop-from-preserved
loop-from-preserved g c = record {
  ordered = omega arith;
  within = omega arith;
  below = below_got g.met.K.Ordered.total _ _ _ _ c.requires.sorted c.pair_at.ensures (sym c.in-Greater.ensures.value);
  above = c.loop-from.invariant.above;
  counted = omega arith;
  parts = (taken _ _ _ _ _ _ c.loop-from.invariant.counted c.compared.ensures.counted c.loop-from.invariant.parts (omega arith) (omega arith)).0;
  cost = (taken _ _ _ _ _ 0 c.loop-from.invariant.counted c.compared.ensures.counted c.loop-from.invariant.parts (omega arith) (omega arith)).1;
}

pub returns-in-Equal-clause-found : goal.returns-in-Equal-clause-found
returns-in-Equal-clause-found g c = has_got g.met.K.Ordered.total g.met.K.Ordered.same _ _ _ _ c.requires.sorted c.pair_at.ensures (sym c.in-Equal.ensures.value)

pub returns-in-Equal-clause-cost : goal.returns-in-Equal-clause-cost
returns-in-Equal-clause-cost g c = (taken _ _ _ _ _ 0 c.loop-from.invariant.counted c.compared.ensures.counted c.loop-from.invariant.parts (omega arith) (omega arith)).1
