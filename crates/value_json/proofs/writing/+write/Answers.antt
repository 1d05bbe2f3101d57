use Rattle.std.proofs.Common.{arith}
use Rattle.clone_values.specs.Falls.{smaller_member, smaller_pair}
use Rattle.clone_values.specs.View.{prop_of, pair_of}
use Rattle.value_json.proofs.writing.+write.Goals as goal

pub write_pairs-value_to_json-requires : goal.write_pairs-value_to_json-requires
write_pairs-value_to_json-requires t c = let small = smaller_pair c.args.pairs.now c.loop-place.place (pair_of c.in-Some.entry.now) c.in-Some.ensures.stands in (omega arith, tt)

pub write_pairs-value_to_json-requires-in-Some : goal.write_pairs-value_to_json-requires-in-Some
write_pairs-value_to_json-requires-in-Some t c = let small = smaller_pair c.args.pairs.now c.loop-place.place (pair_of c.in-Some.entry.now) c.in-Some.ensures.stands in (omega arith, tt)

pub write_named-value_to_json-requires : goal.write_named-value_to_json-requires
write_named-value_to_json-requires t c = let small = smaller_member c.args.props.now c.loop-place.place (prop_of c.in-Some.prop.now) c.in-Some.ensures.stands in (omega arith, tt)

pub write_members-value_to_json-requires : goal.write_members-value_to_json-requires
write_members-value_to_json-requires t c = let small = smaller_member c.args.props.now c.loop-place.place (prop_of c.in-Some.prop.now) c.in-Some.ensures.stands in (omega arith, tt)
