use Rattle.std.proofs.Common.{◌≡◌, ◌<◌, Some, slice_get, sym, subst, ◌∙◌}
use Rattle.std.specs.FinMap as finite
use Rattle.clone_values.specs.Tree.{Tree}
use Rattle.clone_values.specs.KeyTree.{KeyTree}
use Rattle.clone_values.specs.View.{tree_of}
use Rattle.store_contents.specs.Contents.{rows_in_indexes}
use Rattle.store_contents.proofs.Laws.{record_there, record_found, revalued_in_step}
use Rattle.indexed_records.proofs.records.IndexedRecords.revalue_at.Goals as goal

pub invariant_of-self : goal.invariant_of-self
invariant_of-self g c =
    let e = record_there _ c.args.place (subst (λ v. c.args.place < finite.len v.records) (sym c.self.view_is) c.requires.within) in
    let same = subst (λ v. (k : KeyTree) (u : Tree) → slice_get (finite.entries v.records) c.args.place ≡ Some (k, u) → rows_in_indexes v.info.indexes k u ≡ rows_in_indexes v.info.indexes k (tree_of c.args.value)) (sym c.self.view_is) c.requires.same_rows in
    rw (c.replace_record.ensures.records e.0 e.1 e.2) (revalued_in_step _ e.0 e.1 (tree_of c.args.value) (record_found _ c.args.place (e.0, e.1) e.2) _ _ _ c.self.invariant (same e.0 e.1 e.2))

pub returns-clause-records : goal.returns-clause-records
returns-clause-records g c k v at =
    let inside = subst (λ w. slice_get (finite.entries w.records) c.args.place ≡ Some (k, v)) (sym c.self.view_is) at in
    c.replace_record.ensures.records k v inside ∙ (λ i. finite.insert ((c.self.view_is i).records) k (tree_of c.args.value))
