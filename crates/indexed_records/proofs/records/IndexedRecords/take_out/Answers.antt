use Rattle.std.proofs.Common.{◌≡◌, Some, slice_get, sym, subst}
use Rattle.std.specs.FinMap as finite
use Rattle.clone_values.specs.Tree.{Tree}
use Rattle.clone_values.specs.KeyTree.{KeyTree}
use Rattle.store_contents.specs.Contents.{rows_in_indexes}
use Rattle.store_contents.proofs.Laws.{take_fits, take_steps}
use Rattle.indexed_records.proofs.records.IndexedRecords.take_out.Goals as goal

pub remove_from_each-requires : goal.remove_from_each-requires
remove_from_each-requires g c =
    let at = c.take_record-taken.ensures.taken in
    let rows = subst (λ v. (k : KeyTree) (u : Tree) → slice_get (finite.entries v.records) c.args.place ≡ Some (k, u) → c.args.rows.now ≡ rows_in_indexes v.info.indexes k u) (sym c.self.view_is) c.requires.rows in
    (c.type_bounds.send-T-Records, (c.type_bounds.send-T-Rows, (c.type_bounds.sync-T-Records, (c.type_bounds.sync-T-Rows, take_fits _ _ _ _ _ c.self.invariant _ c.args.rows.now (rows _ _ at.stands)))))

pub invariant_of-self : goal.invariant_of-self
invariant_of-self g c =
    let at = c.take_record-taken.ensures.taken in
    let rows = subst (λ v. (k : KeyTree) (u : Tree) → slice_get (finite.entries v.records) c.args.place ≡ Some (k, u) → c.args.rows.now ≡ rows_in_indexes v.info.indexes k u) (sym c.self.view_is) c.requires.rows in
    rw c.take_record-taken.ensures.left (take_steps _ _ _ _ _ c.self.invariant _ c.args.rows.now (rows _ _ at.stands) at.found _ c.remove_from_each.ensures)
