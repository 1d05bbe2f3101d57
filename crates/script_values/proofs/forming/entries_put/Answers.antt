use Rattle.std.proofs.Common.{◌≡◌, ◌+◌, ◌*◌, List, IfOk, subst, arith}
use Rattle.script_values.proofs.Steps.{entry_on, entries_all}
use Rattle.script_values.proofs.forming.entries_put.Goals as goal

pub loop-entry-preserved : goal.loop-entry-preserved
loop-entry-preserved c = rw c.in_ok-put.ensures.stored (entry_on c.args.parts.now _ _ (2 * c.loop-entry.entry) (2 * c.loop-entry.entry + 1) (2 * (c.loop-entry.entry + 1)) _ _ (rw c.in_ok-clone.ensures.cases c.in-Some.ensures.stands) (omega arith) (rw c.in_ok-clone-2.ensures.cases c.in-Some-at.ensures.stands) (omega arith) c.loop-entry.invariant)

pub returns : goal.returns
returns c =
    let all = entries_all c.args.parts.now c.loop-entry.entries _ (2 * c.loop-entry.entry) (omega (arith, c.len-entry-end.ensures.count, c.loop-entry-test.false)) c.loop-entry.invariant in
    rw (← all) c.finish.ensures.value
