use Rattle.std.proofs.Common.{sym, arith, ◌≡◌, ◌+◌, ◌-◌}
use Rattle.sorted_table.proofs.Laws.{one_more}
use Rattle.leaf_table.proofs.TableLemmas.{above_got, has_got, last_got}
use Rattle.leaf_table.proofs.Within.{near_below, near_above}
use Rattle.leaf_table.proofs.searching.place_before.Goals as goal

pub place_between-requires-clause-below : goal.place_between-requires-clause-below
place_between-requires-clause-below g c = (near_below g.K.Ordered.order g.met.K.Ordered.total g.K.Ordered.abbreviated g.met.K.Ordered.tells _ c.args.key.now _ _ c.requires.sorted c.requires.near)

pub place_between-requires-clause-above : goal.place_between-requires-clause-above
place_between-requires-clause-above g c = (near_above g.K.Ordered.order g.met.K.Ordered.total g.K.Ordered.abbreviated g.met.K.Ordered.tells _ c.args.key.now _ _ c.requires.sorted c.requires.near)

pub place_between-requires-in-Less-clause-below : goal.place_between-requires-in-Less-clause-below
place_between-requires-in-Less-clause-below g c = (near_below g.K.Ordered.order g.met.K.Ordered.total g.K.Ordered.abbreviated g.met.K.Ordered.tells _ c.args.key.now _ _ c.requires.sorted c.requires.near)

pub place_between-requires-in-Less-clause-above : goal.place_between-requires-in-Less-clause-above
place_between-requires-in-Less-clause-above g c = above_got g.met.K.Ordered.total _ _ _ _ c.requires.sorted c.pair_at.ensures (sym c.in-Less.ensures.value)

pub returns-in-Less-clause-cost : goal.returns-in-Less-clause-cost
returns-in-Less-clause-cost g c =
    one_more _ _ _ _ c.compared.ensures.counted c.place_between-in-Less.ensures.counted (omega (arith, c.place_between-in-Less.ensures.cost, c.count-count.ensures)) (omega (arith, c.count-count.ensures, c.requires.near.ordered, c.requires.near.within, c.if-low-end.false, c.if-end-count.false))

pub returns-in-Greater-clause-absent : goal.returns-in-Greater-clause-absent
returns-in-Greater-clause-absent g c =
    let last : c.count-count.result - 1 + 1 ≡ c.count-count.result = omega arith in
    rw last at (last_got g.met.K.Ordered.total _ _ _ c.args.key.now c.requires.sorted c.pair_at.ensures (omega arith) (sym c.in-Greater.ensures.value))

pub returns-in-Equal-clause-found : goal.returns-in-Equal-clause-found
returns-in-Equal-clause-found g c = has_got g.met.K.Ordered.total g.met.K.Ordered.same _ _ _ _ c.requires.sorted c.pair_at.ensures (sym c.in-Equal.ensures.value)
