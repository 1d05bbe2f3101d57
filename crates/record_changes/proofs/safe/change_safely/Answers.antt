use Rattle.idb_calls.specs.View.{delta_of}
use Rattle.record_changes.proofs.Breaking.{never_breaks}
use Rattle.record_changes.proofs.safe.change_safely.Goals as goal

pub unreachable-requires : goal.unreachable-requires
unreachable-requires g c = never_breaks (delta_of c.args.change) c.args.items.now c.len-sound.ensures.sound c.requires.safe (c.in-Err-Constraint.ensures.broken (cc))
