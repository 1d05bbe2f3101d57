use Rattle.std.proofs.Common.{Bool, sym, ap, ◌∙◌, subst}
use Rattle.index_tables.specs.Unique.{is_broken}
use Rattle.idb_schema.specs.Definitions.{IsStoreInfo}
use Rattle.idb_schema.specs.declared.definitions.StoreInfo.{StoreInfo}
use Rattle.range_reads.specs.Contents.{Indexed}
use Rattle.store_contents.specs.IsStore.{AreStored, IsCurrent}
use Rattle.object_stores.specs.Parts.{content_in, log_in, past_in}
use Rattle.store_contents.specs.Store.{numbered}
use Rattle.object_stores.proofs.Logged.{fine_now}
use Rattle.object_stores.proofs.Marks.{settled_anew}
use Rattle.object_stores.proofs.store.StoreVersion.copy.Goals as goal

pub new_parts-requires-after_bounds : goal.new_parts-requires-after_bounds
new_parts-requires-after_bounds g c =
    let parts = c.self.inside.parts in
    let fine = fine_now (log_in parts) (content_in parts) c.self.invariant.sound.undo in
    let e = c.in_ok-contents.ensures in
    λ κs h. record {
      info = subst IsStoreInfo (sym e.info) fine.info;
      records = subst AreStored (sym e.records) fine.records;
      unique = (λ i. is_broken (e.info i).indexes (e.records i)) ∙ fine.unique;
    }

pub invariant_of-result : goal.invariant_of-result
invariant_of-result g c =
    let auto = ap (λ (x : Indexed). x.info.auto) c.new_parts.ensures.contents ∙ ap (λ (x : StoreInfo). x.auto) c.in_ok-contents.ensures.info in
    record {
      sound = c.new_parts.ensures.sound;
      current = subst (λ n. IsCurrent c.new_parts.result.contents.info.auto n) (sym (c.restore.ensures ∙ c.current-current.ensures.value)) (subst (λ (b : Bool). IsCurrent b c.self.inside.generator) (sym auto) c.self.invariant.current);
      settled = subst (λ n. IsCurrent c.new_parts.result.contents.info.auto n) (sym c.current-current.ensures.value) (subst (λ (b : Bool). IsCurrent b c.self.inside.generator) (sym auto) c.self.invariant.current);
    }

pub returns-clause-settled : goal.returns-clause-settled
returns-clause-settled g c =
    settled_anew (past_in c.new_parts.result) (content_in c.new_parts.result) _ c.new_parts.ensures.past ∙ ap (numbered (content_in c.new_parts.result)) (sym c.restore.ensures)
