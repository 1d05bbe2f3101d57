use Rattle.std.proofs.Common.{◌∙◌, sym, ap, arith}
use Rattle.std.proofs.lemmas.List.{drop_all}
use Rattle.std.specs.FinMap as finite
use Rattle.session_databases.specs.Parts.{is_not_among, with_stores_of}
use Rattle.session_databases.proofs.Parts.{move_step, left_step, moved_none, left_none}
use Rattle.session_databases.proofs.moving.move_stores.Goals as goal

pub loop-place-preserved : goal.loop-place-preserved
loop-place-preserved g c = record {
  moved = move_step c.args.names.now c.loop-place.place c.in-Some.name.now c.in-Some.ensures.stands c.loop-place.from c.move_store.new.from c.in_ok-move_store-in-Some.ensures.left c.loop-place.to c.move_store.new.to _ c.in_ok-move_store-in-Some.ensures.moved c.loop-place.invariant.moved;
  left = left_step c.args.names.now c.loop-place.place c.in-Some.name.now c.in-Some.ensures.stands c.loop-place.from c.move_store.new.from c.in_ok-move_store-in-Some.ensures.left _ c.loop-place.invariant.left;
}

pub returns-clause-moved : goal.returns-clause-moved
returns-clause-moved g c =
    sym (moved_none c.loop-place.from c.loop-place.to)
    ∙ ap (λ ns. with_stores_of ns c.loop-place.from c.loop-place.to) (sym (drop_all c.loop-place.place c.args.names.now (omega (arith, c.loop-place-test.false, c.len-place-end.ensures.count))))
    ∙ c.loop-place.invariant.moved

pub returns-clause-left : goal.returns-clause-left
returns-clause-left g c =
    sym (left_none c.loop-place.from)
    ∙ ap (λ ns. finite.retain_keys c.loop-place.from (is_not_among ns)) (sym (drop_all c.loop-place.place c.args.names.now (omega (arith, c.loop-place-test.false, c.len-place-end.ensures.count))))
    ∙ c.loop-place.invariant.left
