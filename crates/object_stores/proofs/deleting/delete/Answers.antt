use Rattle.std.proofs.Common.{◌≡◌, length, take, sym, ap, ◌∙◌, arith}
use Rattle.store_contents.specs.Store.{content_at}
use Rattle.object_stores.specs.Parts.{content_in, past_in}
use Rattle.object_stores.proofs.Logged.{past_length}
use Rattle.store_contents.proofs.Laws.{keeps_cut, content_cut}
use Rattle.object_stores.proofs.deleting.delete.Goals as goal

pub undo_to-requires-clause-place : goal.undo_to-requires-clause-place
undo_to-requires-clause-place g c =
    let old = c.args.parts.now in
    let begun : c.len-before.result ≡ length (past_in old) = c.len-before.ensures ∙ old.log.ok.0 ∙ sym (past_length old) in
    omega (arith, begun, c.delete_each.ensures.past.longer)

pub returns-in-Err-clause-unchanged : goal.returns-in-Err-clause-unchanged
returns-in-Err-clause-unchanged g c =
    let old = c.args.parts.now in
    let mid = c.delete_each.new.parts in
    let begun : c.len-before.result ≡ length (past_in old) = c.len-before.ensures ∙ old.log.ok.0 ∙ sym (past_length old) in
    c.undo_to.ensures.content ∙ ap (content_at (past_in mid) (content_in mid)) begun ∙ content_cut c.delete_each.ensures.past

pub returns-in-Err-clause-past : goal.returns-in-Err-clause-past
returns-in-Err-clause-past g c =
    let old = c.args.parts.now in
    let mid = c.delete_each.new.parts in
    let begun : c.len-before.result ≡ length (past_in old) = c.len-before.ensures ∙ old.log.ok.0 ∙ sym (past_length old) in
    keeps_cut (past_in c.undo_to.new.parts) (content_in c.undo_to.new.parts) c.delete_each.ensures.past
    (c.undo_to.ensures.past ∙ ap (λ n. take n (past_in mid)) begun)
    (c.undo_to.ensures.content ∙ ap (content_at (past_in mid) (content_in mid)) begun)
