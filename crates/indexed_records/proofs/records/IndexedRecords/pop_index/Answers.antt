use Rattle.std.proofs.Common.{◌-◌, ◌<◌, length, arith, sym, subst}
use Rattle.store_contents.proofs.Laws.{taken_in_step, last_removed}
use Rattle.indexed_records.proofs.records.IndexedRecords.pop_index.Goals as goal

pub invariant_of-self : goal.invariant_of-self
invariant_of-self g c =
    let some : 0 < length c.self.inside.info.indexes = subst (λ v. 0 < length v.info.indexes) (sym c.self.view_is) c.requires in
    rw (c.remove_at.ensures.left, c.truncate.ensures.items) (rw (last_removed c.self.inside.info.indexes (c.len-last.result - 1) (omega (arith, some, c.len-last.ensures))) (taken_in_step (c.len-last.result - 1) _ c.self.inside.tables.items _ _ c.self.invariant))
