use Rattle.std.proofs.Common.{sym, ap, ◌∙◌, subst, arith}
use Rattle.std.specs.FinMap.{empty}
use Rattle.range_reads.specs.Contents.{Indexed, row_sets}
use Rattle.store_contents.specs.IsStore.{IsStoreContent}
use Rattle.object_stores.specs.Parts.{content_in, log_in}
use Rattle.object_stores.specs.declared.changes.Change.TheVariants as change
use Rattle.object_stores.proofs.Logged.{sound_pushed, past_pushed, fine_now}
use Rattle.object_stores.proofs.Fine.{fine_records, stored_empty}
use Rattle.object_stores.proofs.ChangeLemmas.{keeps_logged}
use Rattle.object_stores.proofs.whole.clear_parts.Goals as goal

pub returns-clause-sound : goal.returns-clause-sound
returns-clause-sound g c =
    let mid = c.ready.new.parts in
    let d = c.in_ok-emptied.emptied in
    let e = c.in_ok-emptied.ensures in
    let info = ap (λ (x : Indexed). x.info) c.note_cleared.ensures.contents ∙ c.take_all.ensures.info in
    let records = ap (λ (x : Indexed). x.records) c.note_cleared.ensures.contents ∙ e.records in
    let fine = fine_now (log_in mid) (content_in mid) c.ready.ensures.sound.undo in
    sound_pushed (change.Cleared d mid.removed mid.rows) mid _ c.note_cleared.ensures.items
    (λ i. record { info = info i; records = e.taken i }) c.ready.ensures.sound
    (subst IsStoreContent (λ i. record { info = sym info i; records = sym records i }) (fine_records (content_in mid) fine empty stored_empty (c.unique_laws.ensures.none mid.contents.info.indexes)))
    (e.rows ∙ (λ i. row_sets (sym info i).indexes (sym e.taken i)))
    (omega arith, omega arith)
    (c.ready.ensures.sound.removed, c.ready.ensures.sound.rows, (omega (arith, c.ready.ensures.sound.spare.0, e.spare), omega (arith, c.ready.ensures.sound.spare.1, e.row_spare)), c.ready.ensures.sound.kept)
    c.note_cleared.ensures.removed c.note_cleared.ensures.rows

pub returns-clause-cleared : goal.returns-clause-cleared
returns-clause-cleared g c =
    let e = c.in_ok-emptied.ensures in
    let content = c.ready.ensures.content in
    let info = ap (λ (x : Indexed). x.info) c.note_cleared.ensures.contents ∙ c.take_all.ensures.info in
    let records = ap (λ (x : Indexed). x.records) c.note_cleared.ensures.contents ∙ e.records in
    λ i. record { info = (info ∙ (λ j. (content j).info)) i; records = records i }

pub returns-clause-past : goal.returns-clause-past
returns-clause-past g c =
    let mid = c.ready.new.parts in
    let d = c.in_ok-emptied.emptied in
    let e = c.in_ok-emptied.ensures in
    let info = ap (λ (x : Indexed). x.info) c.note_cleared.ensures.contents ∙ c.take_all.ensures.info in
    keeps_logged c.args.parts.now mid c.note_cleared.new.parts c.ready.ensures.log c.ready.ensures.content
    (past_pushed (change.Cleared d mid.removed mid.rows) mid c.note_cleared.new.parts c.note_cleared.ensures.items (λ i. record { info = info i; records = e.taken i }))
