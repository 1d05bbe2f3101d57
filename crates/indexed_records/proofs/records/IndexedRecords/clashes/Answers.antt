use Rattle.std.proofs.Common.{◌≡◌, ◌∙◌, ap, sym, subst, false}
use Rattle.std.specs.FinMap as finite
use Rattle.clone_values.specs.View.{key_tree_of}
use Rattle.store_contents.specs.Contents.{rows_in_indexes}
use Rattle.index_tables.specs.Unique.{is_broken}
use Rattle.store_contents.specs.Clashes.{clash_any}
use Rattle.indexed_records.proofs.ClashLaws.{are_unique, clash_breaks}
use Rattle.indexed_records.proofs.records.IndexedRecords.clashes.Goals as goal

pub clashes_any-requires : goal.clashes_any-requires
clashes_any-requires g c =
    let unique = are_unique _ _ _ _ c.self.invariant (subst (λ v. is_broken v.info.indexes v.records ≡ false) (sym c.self.view_is) c.requires) in
    (c.type_bounds.send-T-Records, (c.type_bounds.send-T-Rows, (c.type_bounds.sync-T-Records, (c.type_bounds.sync-T-Rows, unique))))

pub returns : goal.returns
returns g c value is =
    c.clashes_any.ensures
    ∙ ap (λ rows. clash_any c.self.inside.info.indexes c.self.inside.tables.items rows (key_tree_of c.args.key.now)) (is ∙ ap (λ v. rows_in_indexes v.info.indexes (key_tree_of c.args.key.now) value) (sym c.self.view_is))
    ∙ clash_breaks _ _ _ _ (key_tree_of c.args.key.now) value c.self.invariant (subst (λ v. is_broken v.info.indexes v.records ≡ false) (sym c.self.view_is) c.requires)
    ∙ ap (λ v. is_broken v.info.indexes (finite.insert v.records (key_tree_of c.args.key.now) value)) c.self.view_is
