use Rattle.std.proofs.Common.{◌-◌, drop, sym, ◌∙◌, arith, length-drop}
use Rattle.value_bytes.proofs.Bodies.{few_rise}
use Rattle.value_bytes.proofs.names.names_rise.Goals as goal

pub returns : goal.returns
returns c = sym (few_rise (drop (c.loop-place.place - 1) c.args.props.now) (omega (arith, length-drop (c.loop-place.place - 1) c.args.props.now))) ∙ c.loop-place.invariant
