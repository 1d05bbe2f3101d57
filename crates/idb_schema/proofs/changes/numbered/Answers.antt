use Rattle.std.proofs.Common.{◌≡◌, ◌∙◌, length, arith}
use Rattle.idb_schema.proofs.EntryLaws.{numbered_more}
use Rattle.idb_schema.proofs.changes.numbered.Goals as goal

pub loop-info-preserved : goal.loop-info-preserved
loop-info-preserved c =
    let count : c.len.result ≡ length c.loop-info.entries.items = omega (arith, c.len.ensures) in
    c.in_ok-push.ensures.items ∙ numbered_more c.loop-info.yielded c.in-Some.info c.loop-info.entries.items c.in_ok-entry.entry c.len.result c.loop-info.invariant count c.in_ok-entry.ensures
