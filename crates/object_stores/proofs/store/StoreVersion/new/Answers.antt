use Rattle.std.proofs.Common.{sym, ap, ◌∙◌, subst}
use Rattle.index_tables.specs.Unique.{is_broken}
use Rattle.idb_schema.specs.Definitions.{IsStoreInfo}
use Rattle.store_contents.specs.IsStore.{AreStored}
use Rattle.object_stores.specs.Parts.{content_in, past_in}
use Rattle.store_contents.specs.Store.{numbered}
use Rattle.object_stores.proofs.Fine.{stored_empty}
use Rattle.object_stores.proofs.Marks.{settled_anew}
use Rattle.object_stores.proofs.store.StoreVersion.new.Goals as goal

pub new_parts-requires-after_bounds : goal.new_parts-requires-after_bounds
new_parts-requires-after_bounds g c = λ κs h. record {
  info = subst IsStoreInfo (sym c.new.ensures.info) c.requires;
  records = subst AreStored (sym c.new.ensures.records) stored_empty;
  unique = (λ i. is_broken (c.new.ensures.info i).indexes (c.new.ensures.records i)) ∙ c.unique_laws.ensures.none c.args.info.indexes;
}

pub returns-clause-settled : goal.returns-clause-settled
returns-clause-settled g c =
    settled_anew (past_in c.new_parts.result) (content_in c.new_parts.result) _ c.new_parts.ensures.past ∙ ap (numbered (content_in c.new_parts.result)) (sym c.new-2.ensures)
