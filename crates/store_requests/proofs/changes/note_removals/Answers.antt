use Rattle.clone_values.specs.View.{key_tree_of}
use Rattle.std.proofs.Common.{ap}
use Rattle.store_requests.proofs.RemovalLemmas.{one_noted}
use Rattle.store_requests.proofs.changes.note_removals.Goals as goal

pub loop-place-preserved : goal.loop-place-preserved
loop-place-preserved c =
    one_noted c.args.names.now c.args.changes.now c.loop-place.changes c.push.new.self c.args.keys.now c.loop-place.place c.in_ok-copy-in-Some.field-0 c.in_ok-copy-in-Some-2.field-0
    (key_tree_of c.in_ok-copy-in-Some-3.field-0) (key_tree_of c.in-Some.key.now) c.in_ok-push-in-Some.ensures.stored
    c.in_ok-copy-in-Some.ensures c.in_ok-copy-in-Some-2.ensures (ap key_tree_of c.in_ok-copy-in-Some-3.ensures) c.in-Some.ensures.item c.loop-place.invariant
