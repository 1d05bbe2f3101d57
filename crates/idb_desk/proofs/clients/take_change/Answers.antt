use Rattle.std.proofs.Common.{sym}
use Rattle.name_queues.proofs.Laws.{IsPlace, place_in, nowhere_in}
use Rattle.std.proofs.lemmas.Result.{on_ok_weaker}
use Rattle.desk_steps.specs.Desks.{is_client}
use Rattle.desk_steps.specs.Steps.{change_taken}
use Rattle.idb_desk.proofs.clients.take_change.Goals as goal

pub returns-in-Some-clause-taken : goal.returns-in-Some-clause-taken
returns-in-Some-clause-taken c =
    let there : IsPlace (is_client c.args.who.client) c.args.clients.now.items c.in-Some.place c.index_mut-c.result.now = place_in (is_client c.args.who.client) c.args.clients.now.items c.deref.result.now c.in-Some.place c.index_mut-c.result.now c.deref.ensures.value c.in-Some.ensures c.index_mut-c.ensures.value in
    on_ok_weaker c.take_change.result (λ p. rw p (sym (there.changed (change_taken c.args.who)))) c.take_change.ensures.taken

pub returns-in-None-clause-taken : goal.returns-in-None-clause-taken
returns-in-None-clause-taken c = sym ((nowhere_in (is_client c.args.who.client) c.args.clients.now.items c.deref.result.now c.deref.ensures.value c.in-None.ensures).changed (change_taken c.args.who))
