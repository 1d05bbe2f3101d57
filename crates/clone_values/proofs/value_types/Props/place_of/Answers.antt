use Rattle.std.proofs.Common.{◌+◌, ◌-◌, ◌/◌, arith, sym}
use Rattle.clone_values.specs.View.{prop_of}
use Rattle.clone_values.proofs.NamesLaws.{goes_left, goes_right, set_there, got_there, has_name}
use Rattle.clone_values.proofs.value_types.Props.place_of.Goals as goal

pub loop-low-preserved-in-Less : goal.loop-low-preserved-in-Less
loop-low-preserved-in-Less c =
    let less = rw c.as_str.ensures.value at (sym c.in-Less.ensures) in
    record {
      passed = c.loop-low.invariant.passed;
      ahead = goes_left _ _ _ (prop_of c.in-Some.prop.now) c.len-high.ensures.rising c.in-Some.ensures.stands less;
      ordered = omega arith;
      within = omega arith;
    }

pub loop-low-preserved : goal.loop-low-preserved
loop-low-preserved c =
    let greater = rw c.as_str.ensures.value at (sym c.in-Greater.ensures) in
    record {
      passed = goes_right _ _ _ (prop_of c.in-Some.prop.now) c.len-high.ensures.rising c.in-Some.ensures.stands greater;
      ahead = c.loop-low.invariant.ahead;
      ordered = omega arith;
      within = omega arith;
    }

pub returns-in-Equal-clause-found : goal.returns-in-Equal-clause-found
returns-in-Equal-clause-found c =
    let tie = rw c.as_str.ensures.value at (sym c.in-Equal.ensures) in
    has_name c.args.self.now c.args.name.now (c.loop-low.low + (c.loop-low.high - c.loop-low.low) / 2) (prop_of c.in-Some.prop.now) c.len-high.ensures.rising c.in-Some.ensures.stands tie (sym c.in-Some.ensures.item)

pub returns-in-Equal-clause-set_there : goal.returns-in-Equal-clause-set_there
returns-in-Equal-clause-set_there c =
    let tie = rw c.as_str.ensures.value at (sym c.in-Equal.ensures) in
    set_there c.args.self.now c.args.name.now (c.loop-low.low + (c.loop-low.high - c.loop-low.low) / 2) (prop_of c.in-Some.prop.now) c.len-high.ensures.rising c.in-Some.ensures.stands tie (omega arith)

pub returns-in-Equal-clause-got_there : goal.returns-in-Equal-clause-got_there
returns-in-Equal-clause-got_there c =
    let tie = rw c.as_str.ensures.value at (sym c.in-Equal.ensures) in
    got_there c.args.self.now c.args.name.now (c.loop-low.low + (c.loop-low.high - c.loop-low.low) / 2) (prop_of c.in-Some.prop.now) c.len-high.ensures.rising c.in-Some.ensures.stands tie (sym c.in-Some.ensures.item)
