use Rattle.std.proofs.Common.{◌≡◌, ◌+◌, ◌-◌, ◌/◌, arith, sym}
use Rattle.std.specs.declared.cmp.Ordering.TheVariants.{Greater}
use Rattle.idb_schema.proofs.NameOrder.{turned, sorted_from, passed, ahead}
use Rattle.idb_schema.proofs.NamePlaces.{named_at, not_named}
use Rattle.idb_schema.proofs.places.place_in.Goals as goal

pub loop-low-preserved-in-Less : goal.loop-low-preserved-in-Less
loop-low-preserved-in-Less c =
    let name = c.args.name.now in
    let less = rw c.as_str.ensures.value at (sym c.in-Less.ensures) in
    record {
      before = c.loop-low.invariant.before;
      behind = ahead c.args.entries.now (c.loop-low.low + (c.loop-low.high - c.loop-low.low) / 2) c.index-entries-middle.result name (sorted_from _ c.requires) (omega arith) less;
      ordered = omega arith;
      within = omega arith;
    }

pub returns-in-Equal-clause-found : goal.returns-in-Equal-clause-found
returns-in-Equal-clause-found c =
    let name = c.args.name.now in
    let tie = rw c.as_str.ensures.value at (sym c.in-Equal.ensures) in
    named_at _ _ _ name c.requires (omega arith) tie

pub loop-low-preserved : goal.loop-low-preserved
loop-low-preserved c =
    let name = c.args.name.now in
    let greater = rw c.as_str.ensures.value at (sym c.in-Greater.ensures) in
    record {
      before = passed _ _ _ name (sorted_from _ c.requires) (omega arith) (turned name _ Greater greater);
      behind = c.loop-low.invariant.behind;
      ordered = omega arith;
      within = omega arith;
    }

pub returns-clause-absent : goal.returns-clause-absent
returns-clause-absent c =
    let met : c.loop-low.low ≡ c.loop-low.high = omega arith in
    not_named _ c.loop-low.low _ (record { within = omega arith; before = c.loop-low.invariant.before; behind = rw met c.loop-low.invariant.behind })

pub returns-clause-fits : goal.returns-clause-fits
returns-clause-fits c =
    let met : c.loop-low.low ≡ c.loop-low.high = omega arith in
    record { within = omega arith; before = c.loop-low.invariant.before; behind = rw met c.loop-low.invariant.behind }
