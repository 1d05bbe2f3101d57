use Rattle.std.proofs.Common.{sym}
use Rattle.name_queues.proofs.Laws.{IsPlace, place_in, nowhere_in}
use Rattle.desk_steps.specs.Desks.{is_client, with_stand}
use Rattle.idb_desk.proofs.clients.set_stand.Goals as goal

pub returns-in-Some : goal.returns-in-Some
returns-in-Some c =
    let there : IsPlace (is_client c.args.who.client) c.args.clients.now.items c.in-Some.place c.index_mut-c.result.now = place_in (is_client c.args.who.client) c.args.clients.now.items c.deref.result.now c.in-Some.place c.index_mut-c.result.now c.deref.ensures.value c.in-Some.ensures c.index_mut-c.ensures.value in
    rw c.set_stand.ensures (sym (there.changed (with_stand c.args.stand c.args.who)))

pub returns-in_default : goal.returns-in_default
returns-in_default c = sym ((nowhere_in (is_client c.args.who.client) c.args.clients.now.items c.deref.result.now c.deref.ensures.value c.in_default.ensures).changed (with_stand c.args.stand c.args.who))
