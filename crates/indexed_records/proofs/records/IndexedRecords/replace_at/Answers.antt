use Rattle.std.proofs.Common.{◌≡◌, ◌<◌, ◌≤◌, Some, slice_get, sym, subst, arith, ◌∙◌}
use Rattle.std.specs.FinMap as finite
use Rattle.clone_values.specs.Tree.{Tree}
use Rattle.clone_values.specs.KeyTree.{KeyTree}
use Rattle.clone_values.specs.View.{tree_of}
use Rattle.store_contents.specs.Contents.{rows_in_indexes, rows_among}
use Rattle.store_contents.proofs.Laws.{put_fits, take_fits, replace_steps, record_there, record_found}
use Rattle.indexed_records.proofs.records.IndexedRecords.replace_at.Goals as goal

pub replace_in_each-requires-clause-rows : goal.replace_in_each-requires-clause-rows
replace_in_each-requires-clause-rows g c =
    let e = record_there _ c.args.place (subst (λ v. c.args.place < finite.len v.records) (sym c.self.view_is) c.requires.within) in
    let old = subst (λ v. (k : KeyTree) (u : Tree) → slice_get (finite.entries v.records) c.args.place ≡ Some (k, u) → c.args.old_rows.now ≡ rows_in_indexes v.info.indexes k u) (sym c.self.view_is) c.requires.old_rows in
    λ κs h. take_fits _ _ _ _ e.0 c.self.invariant e.1 c.args.old_rows.now (old e.0 e.1 e.2)

pub replace_in_each-requires-clause-room : goal.replace_in_each-requires-clause-room
replace_in_each-requires-clause-room g c =
    let e = record_there _ c.args.place (subst (λ v. c.args.place < finite.len v.records) (sym c.self.view_is) c.requires.within) in
    let new = subst (λ v. (k : KeyTree) (u : Tree) → slice_get (finite.entries v.records) c.args.place ≡ Some (k, u) → c.args.new_rows ≡ rows_in_indexes v.info.indexes k (tree_of c.args.value)) (sym c.self.view_is) c.requires.new_rows in
    let room = subst (λ v. rows_among c.args.new_rows ≤ v.row_spare) (sym c.self.view_is) c.requires.rooms in
    λ κs h. put_fits _ _ _ _ e.0 c.self.invariant (tree_of c.args.value) c.args.new_rows (new e.0 e.1 e.2) room

pub invariant_of-self : goal.invariant_of-self
invariant_of-self g c =
    let e = record_there _ c.args.place (subst (λ v. c.args.place < finite.len v.records) (sym c.self.view_is) c.requires.within) in
    let old = subst (λ v. (k : KeyTree) (u : Tree) → slice_get (finite.entries v.records) c.args.place ≡ Some (k, u) → c.args.old_rows.now ≡ rows_in_indexes v.info.indexes k u) (sym c.self.view_is) c.requires.old_rows in
    let new = subst (λ v. (k : KeyTree) (u : Tree) → slice_get (finite.entries v.records) c.args.place ≡ Some (k, u) → c.args.new_rows ≡ rows_in_indexes v.info.indexes k (tree_of c.args.value)) (sym c.self.view_is) c.requires.new_rows in
    let room = subst (λ v. rows_among c.args.new_rows ≤ v.row_spare) (sym c.self.view_is) c.requires.rooms in
    rw (c.replace_record.ensures.records e.0 e.1 e.2) (replace_steps _ _ _ _ e.0 c.self.invariant (tree_of c.args.value) c.args.new_rows (new e.0 e.1 e.2) e.1 c.args.old_rows.now (old e.0 e.1 e.2)
    (record_found _ c.args.place (e.0, e.1) e.2) _ (omega (arith, room, c.count.ensures)) _ c.replace_in_each.ensures)

pub returns-clause-records : goal.returns-clause-records
returns-clause-records g c k v at =
    let inside = subst (λ w. slice_get (finite.entries w.records) c.args.place ≡ Some (k, v)) (sym c.self.view_is) at in
    c.replace_record.ensures.records k v inside ∙ (λ i. finite.insert ((c.self.view_is i).records) k (tree_of c.args.value))
