use Rattle.std.proofs.Common.{◌∙◌, sym}
use Rattle.std.proofs.lemmas.Result.{on_ok_weaker}
use Rattle.name_queues.proofs.Laws.{IsPlace, IsNowhere, place_in, nowhere_in}
use Rattle.desk_steps.specs.Desks.{is_client}
use Rattle.desk_steps.specs.Steps.{asked_more}
use Rattle.desk_steps.proofs.Laws.{asked_there, asked_first}
use Rattle.idb_desk.proofs.clients.ask.Goals as goal

pub returns-in-Some-clause-asked : goal.returns-in-Some-clause-asked
returns-in-Some-clause-asked c =
    let there : IsPlace (is_client c.args.who.client) c.args.clients.now.items c.in-Some.place c.index_mut-c.result.now = place_in (is_client c.args.who.client) c.args.clients.now.items c.deref.result.now c.in-Some.place c.index_mut-c.result.now c.deref.ensures.value c.in-Some.ensures c.index_mut-c.ensures.value in
    on_ok_weaker c.ask.result (λ p. rw p (sym (there.changed (asked_more c.args.own)) ∙ sym (asked_there c.args.who.client c.args.own c.args.clients.now.items c.index_mut-c.result.now there.found))) c.ask.ensures.asked

pub returns-in-None-clause-asked : goal.returns-in-None-clause-asked
returns-in-None-clause-asked c =
    let none : IsNowhere (is_client c.args.who.client) c.args.clients.now.items = nowhere_in (is_client c.args.who.client) c.args.clients.now.items c.deref.result.now c.deref.ensures.value c.in-None.ensures in
    on_ok_weaker c.ask_first.result (λ p. p ∙ sym (asked_first c.args.who.client c.args.own c.args.clients.now.items none.found)) c.ask_first.ensures.asked
