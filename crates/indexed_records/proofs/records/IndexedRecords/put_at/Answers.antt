use Rattle.std.proofs.Common.{◌≡◌, ◌≤◌, subst, sym, arith}
use Rattle.clone_values.specs.View.{key_tree_of, tree_of}
use Rattle.store_contents.specs.Contents.{rows_in_indexes, rows_among, IsGapOf}
use Rattle.store_contents.proofs.Laws.{put_fits, put_steps}
use Rattle.indexed_records.proofs.records.IndexedRecords.put_at.Goals as goal

pub add_to_each-requires : goal.add_to_each-requires
add_to_each-requires g c =
    let rows = subst (λ v. c.args.rows ≡ rows_in_indexes v.info.indexes (key_tree_of c.args.key) (tree_of c.args.value)) (sym c.self.view_is) c.requires.rows in
    let room = subst (λ v. rows_among c.args.rows ≤ v.row_spare) (sym c.self.view_is) c.requires.rooms in
    (c.type_bounds.send-T-Records, (c.type_bounds.send-T-Rows, (c.type_bounds.sync-T-Records, (c.type_bounds.sync-T-Rows, put_fits _ _ _ _ (key_tree_of c.args.key) c.self.invariant (tree_of c.args.value) c.args.rows rows room))))

pub invariant_of-self : goal.invariant_of-self
invariant_of-self g c =
    let rows = subst (λ v. c.args.rows ≡ rows_in_indexes v.info.indexes (key_tree_of c.args.key) (tree_of c.args.value)) (sym c.self.view_is) c.requires.rows in
    let room = subst (λ v. rows_among c.args.rows ≤ v.row_spare) (sym c.self.view_is) c.requires.rooms in
    let gap = subst (λ v. IsGapOf v.records c.args.place (key_tree_of c.args.key)) (sym c.self.view_is) c.requires.gap in
    rw c.put_record.ensures.records (put_steps _ _ _ _ (key_tree_of c.args.key) c.self.invariant (tree_of c.args.value) c.args.rows rows gap.absent _ (omega (arith, room, c.count.ensures)) _ c.add_to_each.ensures)
