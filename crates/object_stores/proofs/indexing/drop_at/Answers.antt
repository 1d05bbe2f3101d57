use Rattle.std.proofs.Common.{◌<◌, ◌≡◌, length, sym, ap, ◌∙◌, subst, arith}
use Rattle.std.specs.List.{remove}
use Rattle.idb_schema.specs.declared.definitions.StoreInfo.{StoreInfo}
use Rattle.index_tables.specs.RecordRows.{index_rows}
use Rattle.range_reads.specs.Contents.{info_with_index_at, info_without_index}
use Rattle.store_contents.specs.IsStore.{IsStoreContent}
use Rattle.object_stores.specs.declared.changes.Change.TheVariants as change
use Rattle.object_stores.specs.declared.changes.Parts.{Parts}
use Rattle.object_stores.specs.Parts.{content_in, log_in}
use Rattle.object_stores.proofs.Logged.{sound_pushed, past_pushed, fine_now}
use Rattle.object_stores.proofs.ChangeLemmas.{keeps_logged}
use Rattle.object_stores.proofs.Indexes.{back_again, one_less}
use Rattle.object_stores.proofs.Fine.{fine_no_index}
use Rattle.object_stores.proofs.indexing.drop_at.Goals as goal

pub returns-clause-sound : goal.returns-clause-sound
returns-clause-sound g c =
    let mid = c.ready.new.parts in
    let d = c.in_ok-dropped.dropped in
    let e = c.in_ok-dropped.ensures in
    let indexes = mid.contents.info.indexes in
    let within : c.args.place < length indexes = subst (λ (x : StoreInfo). c.args.place < length x.indexes) (λ i. (sym c.ready.ensures.content i).info) c.requires.within in
    let less = one_less indexes c.args.place within in
    let fewer : length c.drop_index.new.self.info.indexes ≡ length (remove indexes c.args.place) = ap (λ (x : StoreInfo). length x.indexes) e.info in
    let fine = fine_now (log_in mid) (content_in mid) c.ready.ensures.sound.undo in
    sound_pushed (change.IndexDropped d) mid _ c.note.ensures.items
    (λ i. record { info = (ap (λ x. info_with_index_at x d.place d.index) e.info ∙ ap (λ p. info_with_index_at (info_without_index mid.contents.info c.args.place) p d.index) e.place ∙ back_again mid.contents.info c.args.place d.index e.index) i; records = c.drop_index.ensures.records i })
    c.ready.ensures.sound
    (subst IsStoreContent (λ i. record { info = sym e.info i; records = sym c.drop_index.ensures.records i }) (fine_no_index (content_in mid) fine c.args.place))
    (omega (arith, e.place, within, less, fewer), e.rows ∙ ap (index_rows d.index) (sym c.drop_index.ensures.records), omega (arith, e.width, less, fewer))
    (omega (arith, c.ready.ensures.sound.spare.0, c.drop_index.ensures.spare), omega (arith, c.ready.ensures.sound.spare.1, c.drop_index.ensures.row_spare))
    (omega (arith, c.ready.ensures.sound.spare.1, e.kept), c.ready.ensures.sound.kept)
    c.ready.ensures.sound.removed c.ready.ensures.sound.rows

pub returns-clause-past : goal.returns-clause-past
returns-clause-past g c =
    let mid = c.ready.new.parts in
    let d = c.in_ok-dropped.dropped in
    let e = c.in_ok-dropped.ensures in
    let new : Parts _ _ _ = record { contents = c.drop_index.new.self; log = c.note.new.log; removed = mid.removed; rows = mid.rows } in
    keeps_logged c.args.parts.now mid new c.ready.ensures.log c.ready.ensures.content
    (past_pushed (change.IndexDropped d) mid new c.note.ensures.items
    (λ i. record { info = (ap (λ x. info_with_index_at x d.place d.index) e.info ∙ ap (λ p. info_with_index_at (info_without_index mid.contents.info c.args.place) p d.index) e.place ∙ back_again mid.contents.info c.args.place d.index e.index) i; records = c.drop_index.ensures.records i }))
