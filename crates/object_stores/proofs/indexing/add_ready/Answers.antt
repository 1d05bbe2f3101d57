use Rattle.std.proofs.Common.{◌<◌, [], ◌∷◌, length, sym, ap, ◌∙◌, subst, arith}
use Rattle.std.proofs.lemmas.List.{length-append}
use Rattle.idb_schema.specs.declared.definitions.StoreInfo.{StoreInfo}
use Rattle.range_reads.specs.Contents.{info_without_last}
use Rattle.store_contents.specs.IsStore.{IsStoreContent}
use Rattle.object_stores.specs.declared.changes.Change.TheVariants as change
use Rattle.object_stores.specs.declared.changes.Parts.{Parts}
use Rattle.object_stores.specs.Parts.{content_in, log_in, past_in}
use Rattle.object_stores.proofs.Logged.{sound_pushed, past_pushed, fine_now}
use Rattle.store_contents.proofs.Laws.{keeps_pushed}
use Rattle.object_stores.proofs.Indexes.{last_gone}
use Rattle.object_stores.proofs.Fine.{fine_index}
use Rattle.object_stores.proofs.indexing.add_ready.Goals as goal

pub returns-in-Ok-clause-sound : goal.returns-in-Ok-clause-sound
returns-in-Ok-clause-sound g c =
    let old = c.args.parts.now in
    let info = c.in-Ok.ensures.info in
    let records = c.add_index.ensures.records in
    let fine = fine_now (log_in old) (content_in old) c.requires.sound.undo in
    sound_pushed change.IndexAdded old _ c.note.ensures.items
    (λ i. record { info = (ap info_without_last info ∙ last_gone old.contents.info c.args.info) i; records = records i })
    c.requires.sound
    (subst IsStoreContent (λ i. record { info = sym info i; records = sym records i }) (fine_index (content_in old) fine c.args.info c.requires.fits c.requires.new_name c.in-Ok.ensures.unique))
    (subst (λ (x : StoreInfo). 0 < length x.indexes) (sym info) (omega (arith, length-append old.contents.info.indexes (c.args.info ∷ []))))
    (omega (arith, c.requires.sound.spare.0, c.add_index.ensures.spare), omega (arith, c.requires.sound.spare.1, c.add_index.ensures.row_spare))
    c.requires.sound.kept c.requires.sound.removed c.requires.sound.rows

pub returns-in-Ok-clause-past : goal.returns-in-Ok-clause-past
returns-in-Ok-clause-past g c =
    let old = c.args.parts.now in
    let new : Parts _ _ _ = record { contents = c.add_index.new.self; log = c.note.new.log; removed = old.removed; rows = old.rows } in
    keeps_pushed (past_in old) (past_in new) (content_in old) (content_in new)
    (past_pushed change.IndexAdded old new c.note.ensures.items (λ i. record { info = (ap info_without_last c.in-Ok.ensures.info ∙ last_gone old.contents.info c.args.info) i; records = c.add_index.ensures.records i }))
