use Rattle.std.proofs.Common.{sym, ◌∙◌, arith}
use Rattle.record_changes.proofs.Back.{meant_empty}
use Rattle.record_changes.proofs.restoring.restore.Goals as goal

pub returns-clause-made : goal.returns-clause-made
returns-clause-made g c = sym (meant_empty c.loop-alloc.items c.loop-alloc.aside (omega (arith, c.len.ensures, c.loop-alloc-test.false))) ∙ c.loop-alloc.invariant
