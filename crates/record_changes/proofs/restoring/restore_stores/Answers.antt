use Rattle.std.proofs.Common.{sym, ◌∙◌, arith}
use Rattle.std.specs.FinMap as finite
use Rattle.record_changes.proofs.Back.{meant_no_stores}
use Rattle.record_changes.proofs.restoring.restore_stores.Goals as goal

pub returns-clause-made : goal.returns-clause-made
returns-clause-made g c =
    let e = finite.empty_of_len c.loop-alloc.aside (omega (arith, c.len.ensures.count, c.loop-alloc-test.false)) in
    sym (meant_no_stores c.loop-alloc.items c.args.db.now c.loop-alloc.aside e) ∙ c.loop-alloc.invariant
