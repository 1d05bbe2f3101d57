use Rattle.std.proofs.Common.{◌≡◌, ◌<◌, ap, sym, subst}
use Rattle.name_queues.proofs.Laws.{IsPlace, place_in, nowhere_in}
use Rattle.desk_steps.specs.Desks.{ClientStand, is_client, client_in, or_new_client}
use Rattle.desk_steps.specs.Steps.{created_more}
use Rattle.idb_desk.proofs.clients.count_create.Goals as goal

pub create-requires : goal.create-requires
create-requires c =
    let there : IsPlace (is_client c.args.client) c.args.clients.now.items c.in-Some.place c.index_mut-c.result.now = place_in (is_client c.args.client) c.args.clients.now.items c.deref.result.now c.in-Some.place c.index_mut-c.result.now c.deref.ensures.value c.in-Some.ensures c.index_mut-c.ensures.value in
    let e : client_in c.args.clients.now.items c.args.client ≡ c.index_mut-c.result.now = ap (or_new_client c.args.client) there.found in
    subst (λ (x : ClientStand). x.created < 18446744073709551615) e c.requires

pub returns-in-Some : goal.returns-in-Some
returns-in-Some c =
    let there : IsPlace (is_client c.args.client) c.args.clients.now.items c.in-Some.place c.index_mut-c.result.now = place_in (is_client c.args.client) c.args.clients.now.items c.deref.result.now c.in-Some.place c.index_mut-c.result.now c.deref.ensures.value c.in-Some.ensures c.index_mut-c.ensures.value in
    rw c.create.ensures (sym (there.changed created_more))

pub returns-in_default : goal.returns-in_default
returns-in_default c = sym ((nowhere_in (is_client c.args.client) c.args.clients.now.items c.deref.result.now c.deref.ensures.value c.in_default.ensures).changed created_more)
