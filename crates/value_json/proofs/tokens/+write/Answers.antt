use Rattle.std.proofs.Common.{arith}
use Rattle.std.proofs.lemmas.Result.{on_ok_weaker}
use Rattle.clone_values.specs.Falls.{smaller_member, smaller_pair}
use Rattle.clone_values.specs.Tree.{trees_of}
use Rattle.clone_values.specs.View.{prop_of, pair_of}
use Rattle.value_json.specs.Writing.{items_json}
use Rattle.value_json.proofs.TokensLemmas.{named_array, whole_object}
use Rattle.value_json.proofs.tokens.+write.Goals as goal

pub write_pairs-write_value-requires : goal.write_pairs-write_value-requires
write_pairs-write_value-requires t c = let small = smaller_pair c.args.pairs.now c.loop-place.place (pair_of c.in-Some.entry.now) c.in-Some.ensures.stands in (omega arith, tt)

pub write_pairs-write_value-requires-in-Some : goal.write_pairs-write_value-requires-in-Some
write_pairs-write_value-requires-in-Some t c = let small = smaller_pair c.args.pairs.now c.loop-place.place (pair_of c.in-Some.entry.now) c.in-Some.ensures.stands in (omega arith, tt)

pub write_named-write_value-requires : goal.write_named-write_value-requires
write_named-write_value-requires t c = let small = smaller_member c.args.props.now c.loop-place.place (prop_of c.in-Some.prop.now) c.in-Some.ensures.stands in (omega arith, tt)

pub write_members-write_value-requires : goal.write_members-write_value-requires
write_members-write_value-requires t c = let small = smaller_member c.args.props.now c.loop-place.place (prop_of c.in-Some.prop.now) c.in-Some.ensures.stands in (omega arith, tt)

pub write_members-returns-clause-written : goal.write_members-returns-clause-written
write_members-returns-clause-written t c =
    on_ok_weaker c.end_object.result
    (whole_object c.args.props.now c.loop-place.place c.args.out.now.tokens c.loop-place.out.tokens c.end_object.new.self.tokens c.len-place-end.ensures.rising
    (omega (arith, c.len-place-end.ensures.count, c.loop-place-test.false)) c.loop-place.invariant.written)
    c.end_object.ensures.ok

pub write_both-returns-clause-written : goal.write_both-returns-clause-written
write_both-returns-clause-written t c =
    on_ok_weaker c.end_object.result
    (named_array (items_json (trees_of c.args.items.now)) c.args.props.now c.args.out.now.tokens c.begin_marked.new.out.tokens c.write_items.new.out.tokens c.key.new.self.tokens c.write_named.new.out.tokens c.end_object.new.self.tokens
    (omega (arith, c.requires))
    c.in_ok-begin_marked.ensures.written c.in_ok-write_items.ensures.written c.in_ok-key.ensures.ok c.in_ok-write_named.ensures.written)
    c.end_object.ensures.ok
