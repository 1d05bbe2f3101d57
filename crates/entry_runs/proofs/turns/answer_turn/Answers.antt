use Rattle.std.proofs.Common.{sym}
use Rattle.std.proofs.lemmas.Result.{IfOk-weaker}
use Rattle.clone_values.specs.View.{tree_of}
use Rattle.entry_runs.proofs.TurnLemmas.{answered, moved}
use Rattle.entry_runs.proofs.turns.answer_turn.Goals as goal

pub returns-in-Some-store-clause-answer : goal.returns-in-Some-store-clause-answer
returns-in-Some-store-clause-answer g c =
    IfOk-weaker _ _ _ (λ v a. answered c.args.front.now c.args.course.now c.args.number c.args.call.now c.in-Some.cursor.now (sym c.in-Some.ensures) c.schema.result.now c.schema-in-Some-store.result.now c.schema.ensures c.schema-in-Some-store.ensures
    c.in-Some-store_of.info.now c.in-Some-store_of.ensures c.in-Some-store.store c.in-Some-store.ensures.store c.over_of-over.result c.over_of-over.ensures (tree_of v) a) c.turn_over.ensures.answer

pub returns-in-Some-store-clause-turned : goal.returns-in-Some-store-clause-turned
returns-in-Some-store-clause-turned g c =
    IfOk-weaker _ _ _ (λ v m. moved c.args.front.now c.args.course.now c.args.number c.args.call.now c.in-Some.cursor.now (sym c.in-Some.ensures) c.schema.result.now c.schema-in-Some-store.result.now c.schema.ensures c.schema-in-Some-store.ensures
    c.in-Some-store_of.info.now c.in-Some-store_of.ensures c.in-Some-store.store c.in-Some-store.ensures.store c.over_of-over.result c.over_of-over.ensures c.turn_over.new.front m) c.turn_over.ensures.moved
