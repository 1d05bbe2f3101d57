use Rattle.std.proofs.Common.{◌≡◌, ◌∙◌, List, get_or, drop, slice_get, slice_set, ap, sym}
use Rattle.name_queues.proofs.Laws.{IsPlace, place_in, nowhere_in}
use Rattle.connection_queues.specs.Machine.{unhandled}
use Rattle.desk_steps.specs.Desks.{ClientStand, is_client, client_in, or_new_client}
use Rattle.desk_steps.specs.Steps.{changes_left}
use Rattle.desk_steps.proofs.Laws.{client_there_in, client_nowhere_in}
use Rattle.idb_desk.proofs.clients.handle_change.Goals as goal

pub returns-in-Some-clause-first : goal.returns-in-Some-clause-first
returns-in-Some-clause-first c =
    let e : client_in c.args.clients.now.items c.args.client ≡ c.index_mut-c.result.now = client_there_in c.args.client c.args.clients.now.items c.deref.result.now c.in-Some.place c.index_mut-c.result.now c.deref.ensures.value c.in-Some.ensures (c.index_mut-c.ensures.value ∙ ap (λ (cs : List ClientStand). get_or cs c.in-Some.place c.index_mut-c.result.now) (sym c.deref.ensures.value)) in
    c.handle.ensures.first ∙ ap (λ (x : ClientStand). slice_get (unhandled c.args.queues.now.names x.changes) 0) (sym e)

pub returns-in-Some-clause-left : goal.returns-in-Some-clause-left
returns-in-Some-clause-left c =
    let there : IsPlace (is_client c.args.client) c.args.clients.now.items c.in-Some.place c.index_mut-c.result.now = place_in (is_client c.args.client) c.args.clients.now.items c.deref.result.now c.in-Some.place c.index_mut-c.result.now c.deref.ensures.value c.in-Some.ensures c.index_mut-c.ensures.value in
    let e : client_in c.args.clients.now.items c.args.client ≡ c.index_mut-c.result.now = ap (or_new_client c.args.client) there.found in
    rw c.handle.ensures.left (ap (λ (x : ClientStand). slice_set c.args.clients.now.items c.in-Some.place (changes_left (drop 1 (unhandled c.args.queues.now.names x.changes)) c.index_mut-c.result.now)) (sym e) ∙ sym (there.changed (changes_left (drop 1 (unhandled c.args.queues.now.names (client_in c.args.clients.now.items c.args.client).changes)))))

pub returns-in-None-clause-first : goal.returns-in-None-clause-first
returns-in-None-clause-first c =
    ap (λ (x : ClientStand). slice_get (unhandled c.args.queues.now.names x.changes) 0) (sym (client_nowhere_in c.args.client c.args.clients.now.items c.deref.result.now c.deref.ensures.value c.in-None.ensures))

pub returns-in-None-clause-left : goal.returns-in-None-clause-left
returns-in-None-clause-left c = sym ((nowhere_in (is_client c.args.client) c.args.clients.now.items c.deref.result.now c.deref.ensures.value c.in-None.ensures).changed (changes_left (drop 1 (unhandled c.args.queues.now.names (client_in c.args.clients.now.items c.args.client).changes))))
