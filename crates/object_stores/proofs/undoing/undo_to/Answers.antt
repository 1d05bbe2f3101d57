use Rattle.std.proofs.Common.{◌≡◌, length, sym, ap, ◌∙◌, arith}
use Rattle.std.proofs.lemmas.List.{take_all}
use Rattle.store_contents.specs.Store.{content_at}
use Rattle.object_stores.specs.Parts.{content_in, past_in}
use Rattle.object_stores.proofs.Logged.{past_length}
use Rattle.store_contents.proofs.Laws.{at_end, back_content, back_past, back_length}
use Rattle.object_stores.proofs.undoing.undo_to.Goals as goal

pub loop-parts-preserved : goal.loop-parts-preserved
loop-parts-preserved g c =
    let old = c.loop-parts.parts in
    let new = c.undo_one.new.parts in
    let fewer = back_length (past_in old) (past_in new) (content_in new) c.args.place c.undo_one.ensures.past (omega (arith, past_length old, c.loop-parts-test.true, c.len.ensures)) in
    record {
      sound = c.undo_one.ensures.sound;
      within = fewer;
      content = back_content (past_in old) (past_in new) (content_in old) (content_in new) c.args.place c.undo_one.ensures.past fewer ∙ c.loop-parts.invariant.content;
      past = back_past (past_in old) (past_in new) (content_in new) c.args.place c.undo_one.ensures.past fewer ∙ c.loop-parts.invariant.past;
    }

pub returns-clause-content : goal.returns-clause-content
returns-clause-content g c =
    let parts = c.loop-parts.parts in
    let end : length (past_in parts) ≡ c.args.place = omega (arith, past_length parts, c.loop-parts-test.false, c.len.ensures, c.loop-parts.invariant.within) in
    sym (at_end (past_in parts) (content_in parts)) ∙ ap (content_at (past_in parts) (content_in parts)) end ∙ c.loop-parts.invariant.content

pub returns-clause-past : goal.returns-clause-past
returns-clause-past g c =
    let parts = c.loop-parts.parts in
    sym (take_all c.args.place (past_in parts) (omega (arith, past_length parts, c.loop-parts-test.false, c.len.ensures))) ∙ c.loop-parts.invariant.past
