use Rattle.idb_recovery.specs.Lines.{batch_line_of}
use Rattle.idb_recovery.proofs.BatchLines.{one_more}
use Rattle.idb_recovery.proofs.lines.lines_of.Goals as goal

pub loop-place-preserved : goal.loop-place-preserved
loop-place-preserved c =
    one_more batch_line_of c.args.batches.now c.loop-place.place (c.in-Some.batch.now.place, c.in-Some.batch.now.payload) c.loop-place.lines c.push.new.self c.in_ok-batch_line_of-in-Some.field-0
    c.in-Some.ensures c.in_ok-batch_line_of-in-Some.ensures c.in_ok-push-in-Some.ensures.stored c.loop-place.invariant
